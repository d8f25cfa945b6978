-- The rules without parts, and those that are lent the cells alone, keep the state ready. (And a guard, which is checked or is none.)
-- Assumes nothing.
use mathlib.Core.Path.{◌≡◌, refl}
use mathlib.Core.List.{List}
use mathlib.Core.Bool.{Bool}
use Prim.Native.Nat.{ℕ, zero, suc}
use native.Mathlib.Omega.{arith}
use Rattle.pack.specs.declared.counts.Counts.{Counts}
use Rattle.pack.specs.declared.rows.ExpressionRow.{ExpressionRow}
use Rattle.unionfind.specs.declared.codes.Kind.{Kind}
use Rattle.unionfind.specs.declared.codes.Kind.TheVariants.{Var, IntVar, FloatVar}
use Rattle.structure.specs.Types.{code_in}
use Rattle.members.specs.Field.{Accessed}
use Rattle.std.proofs.Common.{Ok, Err}
use Rattle.expr.specs.State.{Env, State}
use Rattle.expr.specs.Rules.{Run, bare_rule, literal_rule, slot_rule, let_type, bool_first, operand_type, result_last, guard_rule, field_type_rule, accessed_rule}
use Rattle.expr.specs.Ready.{Coded, Marked, Ready}
use Rattle.expr.proofs.Unmarked.{chosen, named}
use Rattle.expr.proofs.Coding.{bool_coded, literal_coded}
use Rattle.expr.proofs.Kept.{Keeps, KeepsType, RunKeeps, coded_more, dones, refuses, picks, lets, thens, givens, fresh_keeps, unify_keeps}

-- ---- literal and slot

pub bare_keeps : (kind : Kind) (marks : List ℕ) (id want vars : ℕ) (s : State) → Ready vars s → Coded vars want → Keeps vars (bare_rule kind marks id want vars s)
unfolding bare_rule
bare_keeps kind marks id want vars s h w = givens (fresh_keeps kind vars s h) λ x m s le h k. unify_keeps marks id want x m s h (coded_more le w) k

pub literal_keeps : (marks : List ℕ) (id : ℕ) (n : ExpressionRow) (want vars : ℕ) (s : State) → Ready vars s → Coded vars want → Keeps vars (literal_rule marks id n want vars s)
unfolding literal_rule
literal_keeps marks id n want vars s h w =
    picks _ (λ t. bare_keeps IntVar marks id want vars s h w)
    (λ f. picks _ (λ t. bare_keeps FloatVar marks id want vars s h w)
    (λ f. lets _ _ (unify_keeps marks id want _ vars s h w (literal_coded vars n.op))))

pub slot_keeps : (marks : List ℕ) (id : ℕ) (n : ExpressionRow) (want vars : ℕ) (s : State) → Ready vars s → Coded vars want → Keeps vars (slot_rule marks id n want vars s)
unfolding slot_rule
slot_keeps marks id n want vars s h w = lets _ _ (picks _ (λ t. unify_keeps marks id want _ vars s h w (h.slots.each n.a)) (λ f. refuses))

-- ---- let

pub let_type_keeps : (p : List ℕ) (c : Counts) (same marks : List ℕ) (id t vars : ℕ) (s : State) → Marked p c same marks → Ready vars s
    → KeepsType vars (let_type p c same marks id t vars s)
unfolding let_type
let_type_keeps p c same marks id zero vars s m h = fresh_keeps Var vars s h
let_type_keeps p c same marks id (suc t) vars s m h =
    chosen (KeepsType vars) _ (λ b. record { kept = tt })
    (λ b. named (KeepsType vars) _ _ (record { kept = (omega arith, (h, m.each t b vars)) }))

pub bool_first_keeps : (marks : List ℕ) (id op want vars : ℕ) (s : State) → Ready vars s → Coded vars want → Keeps vars (bool_first marks id op want vars s)
unfolding bool_first
bool_first_keeps marks id op want vars s h w = picks _ (λ t. unify_keeps marks id want _ vars s h w (bool_coded vars)) (λ f. dones h)

pub operand_type_keeps : (op vars : ℕ) (s : State) → Ready vars s → KeepsType vars (operand_type op vars s)
unfolding operand_type
operand_type_keeps op vars s h = chosen (KeepsType vars) _ (λ t. record { kept = (omega arith, (h, bool_coded vars)) }) (λ f. fresh_keeps Var vars s h)

pub result_last_keeps : (marks : List ℕ) (id op want result vars : ℕ) (s : State) → Ready vars s → Coded vars want → Coded vars result → Keeps vars (result_last marks id op want result vars s)
unfolding result_last
result_last_keeps marks id op want result vars s h w r = picks _ (λ t. dones h) (λ f. unify_keeps marks id want result vars s h w r)

-- ---- match

pub guard_keeps : (run : Run) (guard vars : ℕ) (s : State) → RunKeeps run → Ready vars s → Keeps vars (guard_rule run guard vars s)
unfolding guard_rule
guard_keeps run zero vars s run-keeps h = dones h
guard_keeps run (suc g) vars s run-keeps h = run-keeps.keeps g _ vars s h (bool_coded vars)

-- ---- field

pub field_type_keeps : (p : List ℕ) (c : Counts) (same marks : List ℕ) (id t want : ℕ) (d : Bool) (vars : ℕ) (s : State) → Ready vars s → Coded vars want → Coded vars (code_in p c same t)
    → Keeps vars (field_type_rule p c same marks id t want d vars s)
unfolding field_type_rule
field_type_keeps p c same marks id t want d vars s h w k = lets _ _ (thens (unify_keeps marks id want _ vars s h w k) λ u s le h. dones h)

pub accessed_keeps : (e : Env) (id want : ℕ) (d : Bool) (vars : ℕ) (s : State) (a : Accessed) → Ready vars s → Coded vars want
    → ((t : ℕ) → a ≡ Ok t → Coded vars (code_in e.p e.c e.same t)) → Keeps vars (accessed_rule e id want d vars s a)
accessed_keeps e id want d vars s (Err fault) h w k = refuses
accessed_keeps e id want d vars s (Ok t) h w k = field_type_keeps e.p e.c e.same e.marks id t want d vars s h w (k t refl)
