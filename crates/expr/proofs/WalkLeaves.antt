-- In plain words: the rules of module 4 that have no parts are put together in the ways of `Walk`, and meet nothing.
-- Assumes nothing.
use mathlib.Core.Path.{refl}
use mathlib.Core.List.{List}
use mathlib.Core.Bool.{Bool}
use Prim.Native.Nat.{ℕ, ◌+◌}
use native.Mathlib.Omega.{arith}
use Rattle.pack.specs.declared.rows.ExpressionRow.{ExpressionRow}
use Rattle.unionfind.specs.declared.codes.Kind.{Kind}
use Rattle.unionfind.specs.declared.codes.Kind.TheVariants.{IntVar, FloatVar}
use Rattle.laws.specs.declared.fault.Fault.TheVariants.{SlotNotOpen}
use Rattle.members.specs.Field.{Accessed}
use Rattle.std.proofs.Common.{Ok, Err}
use Rattle.expr.specs.State.{Env, State, Ans}
use Rattle.expr.specs.Rules.{bare_rule, literal_rule, slot_rule, bool_first, result_last, field_type_rule, accessed_rule}
use Rattle.expr.proofs.Numbers.{LateAccessed}
use Rattle.expr.proofs.Walk.{Laws, fresh_asks, dones, refused, picks, lets, givens, unified}

module _ {P : ℕ → List ℕ → Ans → Ans → Type 0} {own : ℕ → ℕ} (l : Laws P own) where
  bare_holds : (kind : Kind) (marks : List ℕ) (id want vars : ℕ) (s : State) → P 0 s.notes (bare_rule kind marks id want vars s) (bare_rule kind marks id want vars s)
  unfolding bare_rule
  bare_holds kind marks id want vars s = givens l (fresh_asks kind vars s) λ x vars s. unified l marks id want x vars s

  pub literal_holds : (marks : List ℕ) (id : ℕ) (n : ExpressionRow) (want vars : ℕ) (s : State) → P 0 s.notes (literal_rule marks id n want vars s) (literal_rule marks id n want vars s)
  unfolding literal_rule
  literal_holds marks id n want vars s =
      picks l _ (λ t. bare_holds IntVar marks id want vars s)
      (λ f. picks l _ (λ t. bare_holds FloatVar marks id want vars s)
      (λ f. lets l _ _ _ (unified l marks id want _ vars s)))

  pub slot_holds : (marks : List ℕ) (id : ℕ) (n : ExpressionRow) (want vars : ℕ) (s : State) → P 0 s.notes (slot_rule marks id n want vars s) (slot_rule marks id n want vars s)
  unfolding slot_rule
  slot_holds marks id n want vars s = lets l _ _ _ (picks l _ (λ t. unified l marks id want _ vars s) (λ f. refused l SlotNotOpen id 0 refl (omega arith)))

  pub first_holds : (marks : List ℕ) (id op want vars : ℕ) (s : State) → P 0 s.notes (bool_first marks id op want vars s) (bool_first marks id op want vars s)
  unfolding bool_first
  first_holds marks id op want vars s = picks l _ (λ t. unified l marks id want _ vars s) (λ f. dones l refl)

  pub result_holds : (marks : List ℕ) (id op want result vars : ℕ) (s : State) → P 0 s.notes (result_last marks id op want result vars s) (result_last marks id op want result vars s)
  unfolding result_last
  result_holds marks id op want result vars s = picks l _ (λ t. dones l refl) (λ f. unified l marks id want result vars s)

  -- no more than none
  pub none : {w : List ℕ} {a b : Ans} → P (0 + 0) w a b → P 0 w a b
  none h = l.counts (λ e. refl) (λ e. refl) h

  pub accessed_holds : (e : Env) (id want : ℕ) (d : Bool) (vars : ℕ) (s : State) (a : Accessed) → LateAccessed a
      → P 0 s.notes (accessed_rule e id want d vars s a) (accessed_rule e id want d vars s a)
  unfolding field_type_rule
  accessed_holds e id want d vars s (Err fault) h = refused l fault id 0 refl h
  accessed_holds e id want d vars s (Ok t) h = lets l _ _ _ (none (l.thens (unified l e.marks id want _ vars s) λ u s. dones l refl))
