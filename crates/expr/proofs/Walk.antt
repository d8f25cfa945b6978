-- In plain words: what holds of each way in which a rule is put together holds of the checker.
-- `P n w a b` says something of the answers a and b of two checkers that start from the notes w; n counts what of interest they meet (it
-- matters only whether that is none). `Laws` has one law for each way in which a rule is put together. A property of the checker is proved
-- by its `Laws` alone, the rules being walked once for all (WalkLeaves, Walks): see Depth and Visits.
--     Laws, Runs, Statements                     of a rule, of two checkers of the parts, of the statements of a block
--     Each, each_append, sum_append              lists of children
--     fresh_asks, let_asks, operand_asks         types to check against
--     dones, refused, picks, lets, givens, resolved, unified     the other combinators, from the laws
-- Assumes nothing.
use mathlib.Core.Path.{◌≡◌, refl}
use mathlib.Core.List.{List, [], ◌∷◌, ◌++◌}
use mathlib.Core.Bool.{Bool, true, false}
use Prim.Native.Nat.{ℕ, zero, suc, ◌+◌, ◌≤◌}
use native.Mathlib.Omega.{arith}
use Rattle.laws.specs.Choice.{pick, letting}
use Rattle.pack.specs.Rows.{expression_row}
use Rattle.laws.specs.Faults.{number_of, refusal}
use Rattle.laws.specs.declared.fault.Fault.{Fault}
use Rattle.laws.specs.declared.refusal.Refusal.{Refusal}
use Rattle.pack.specs.declared.counts.Counts.{Counts}
use Rattle.unionfind.specs.declared.codes.Kind.{Kind}
use Rattle.unionfind.specs.declared.codes.Kind.TheVariants.{Var}
use Rattle.expr.specs.State.{Env, State, Ans, Typing, outcome, done, refuse_with, ◌then◌, cont_with, ◌gives◌, resolving, fresh_type, unify_step, Step, Typed}
use Rattle.expr.specs.Rules.{Run, recorded, sealed, let_type, operand_type}
use Rattle.report.specs.Visits.{sum}
use Rattle.expr.specs.declared.answer.Outcome.{Outcome}
use Rattle.expr.proofs.Unmarked.{chosen, named}
use Rattle.expr.proofs.Numbers.{least, Late, LateType, unify_late, fresh_late}
use Rattle.std.proofs.Common.{Ok, Err}

pub record Laws (P : ℕ → List ℕ → Ans → Ans → Type 0) (own : ℕ → ℕ) : Type 0 where
  -- it matters only whether the count is 0
  pub counts : {n m : ℕ} {w : List ℕ} {a b : Ans} → (n ≡ 0 → m ≡ 0) → (m ≡ 0 → n ≡ 0) → P n w a b → P m w a b
  -- a rule that ends: accepted, or refused by a number of module 4
  pub ends : (o : Outcome) (s : State) → P 0 s.notes (record { step = Ok o; st = s }) (record { step = Ok o; st = s })
  pub refuses : {n : ℕ} (f : Refusal) (s : State) → least ≤ number_of f.fault → P n s.notes (record { step = Err f; st = s }) (record { step = Err f; st = s })
  -- steps one after the other
  pub thens : {n m : ℕ} {w : List ℕ} {a b : Ans} {j k : Outcome → State → Ans} → P n w a b → ((o : Outcome) (s : State) → P m s.notes (j o s) (k o s)) → P (n + m) w (a then j) (b then k)
  -- what is noted of a node counts as that node
  pub notes : {n : ℕ} {w : List ℕ} {a b : Ans} (id x : ℕ) → P n (recorded w id x) a b → P (own id + n) w a b
  pub seals : {n : ℕ} {w : List ℕ} {a b : Ans} (id : ℕ) (d : Bool) (call : ℕ) → P n (sealed w id d call) a b → P (own id + n) w a b

-- ---- lists of children

-- each of them is so
abbrev pub Each : (ℕ → Type 0) → List ℕ → Type 0
Each F [] = Unit {0}
Each F (x ∷ xs) = F x × Each F xs

pub each_append : (F : ℕ → Type 0) (xs ys : List ℕ) → Each F (xs ++ ys) → Each F xs × Each F ys
each_append F [] ys h = (tt, h)
each_append F (x ∷ xs) ys h = let r = each_append F xs ys h.1 in ((h.0, r.0), r.1)

pub sum_append : (f : ℕ → ℕ) (xs ys : List ℕ) → sum f (xs ++ ys) ≡ sum f xs + sum f ys
sum_append f [] ys = omega arith
sum_append f (x ∷ xs) ys = omega (arith, sum_append f xs ys)

-- ---- what is said of the parts

-- two checkers of the parts, where these are fine
pub record Runs (P : ℕ → List ℕ → Ans → Ans → Type 0) (count : ℕ → ℕ) (Fine : ℕ → Type 0) (run also : Run) : Type 0 where
  pub holds : (id want vars : ℕ) (s : State) → Fine id → P (count id) s.notes (run id want vars s) (also id want vars s)

-- a statement is a let, which is met with its value, or fine as any other part
pub record Statements (e : Env) (own count : ℕ → ℕ) (Fine Stated : ℕ → Type 0) : Type 0 where
  pub value : (id : ℕ) → (expression_row e.p e.c id).kind ≡ 3 → Stated id
      → (own id + count (expression_row e.p e.c id).b ≡ count id) × Fine (expression_row e.p e.c id).b
  pub other : (id : ℕ) → ((expression_row e.p e.c id).kind ≡ 3 → ⊥) → Stated id → Fine id

-- a type to check against is asked for without a note
pub record Asks (w : List ℕ) (a : Typing) : Type 0 where
  pub same : a.st.notes ≡ w
  pub late : LateType a.typed

pub fresh_asks : (kind : Kind) (vars : ℕ) (s : State) → Asks s.notes (fresh_type kind vars s)
unfolding fresh_type
fresh_asks kind vars s = record { same = refl; late = fresh_late vars kind }

pub let_asks : (p : List ℕ) (c : Counts) (same marks : List ℕ) (id t vars : ℕ) (s : State) → Asks s.notes (let_type p c same marks id t vars s)
unfolding let_type
let_asks p c same marks id zero vars s = fresh_asks Var vars s
let_asks p c same marks id (suc t) vars s =
    chosen (Asks s.notes) _ (λ b. record { same = refl; late = omega arith })
    (λ b. named (Asks s.notes) _ _ (record { same = refl; late = tt }))

pub operand_asks : (op vars : ℕ) (s : State) → Asks s.notes (operand_type op vars s)
unfolding operand_type
operand_asks op vars s = chosen (Asks s.notes) _ (λ t. record { same = refl; late = tt }) (λ f. fresh_asks Var vars s)

-- ---- combinators

module _ {P : ℕ → List ℕ → Ans → Ans → Type 0} {own : ℕ → ℕ} (l : Laws P own) where
  pub dones : {w : List ℕ} {d : Bool} {call vars : ℕ} {s : State} → s.notes ≡ w → P 0 w (done d call vars s) (done d call vars s)
  dones {d = d} {call = call} {vars = vars} {s = s} e = rw (← e) (l.ends (outcome d call vars) s)

  pub refused : {n : ℕ} {w : List ℕ} {s : State} (fault : Fault) (place detail : ℕ) → s.notes ≡ w → least ≤ number_of fault → P n w (refuse_with fault place detail s) (refuse_with fault place detail s)
  refused {s = s} fault place detail e h = rw (← e) (l.refuses (refusal fault place detail) s h)

  pub picks : {n : ℕ} {w : List ℕ} (b : Bool) {x y u v : Ans} → (b ≡ true → P n w x u) → (b ≡ false → P n w y v) → P n w (pick b x y) (pick b u v)
  unfolding pick
  picks true f g = f refl
  picks false f g = g refl

  pub lets : {A : Type 0} {n : ℕ} {w : List ℕ} (a : A) (j k : A → Ans) → P n w (j a) (k a) → P n w (letting a j) (letting a k)
  unfolding letting
  lets a j k h = h

  pub givens : {n : ℕ} {w : List ℕ} {a : Typing} {j k : ℕ → ℕ → State → Ans} → Asks w a → ((x vars : ℕ) (s : State) → P n s.notes (j x vars s) (k x vars s)) → P n w (a gives j) (a gives k)
  unfolding ◌gives◌
  givens {n = n} {a = a} {j = j} {k = k} h f = rw (← h.same) (go a.typed h.late)
    where
      go : (r : Typed) → LateType r → P n a.st.notes (cont_with r a.st j) (cont_with r a.st k)
      go (Ok t) h = f t.code t.vars a.st
      go (Err e) h = l.refuses e a.st h

  pub resolved : {n : ℕ} (x : ℕ) (s : State) {j k : ℕ → State → Ans} → ((y : ℕ) (t : State) → P n t.notes (j y t) (k y t)) → P n s.notes (resolving x s j) (resolving x s k)
  unfolding resolving
  resolved x s f = f _ _

  -- a step of the layers below
  pub steps : (a : Ans) → Late a.step → P 0 a.st.notes a a
  steps a h = go a.step h
    where
      go : (r : Step) → Late r → P 0 a.st.notes (record { step = r; st = a.st }) (record { step = r; st = a.st })
      go (Ok o) h = l.ends o a.st
      go (Err f) h = l.refuses f a.st h

  pub unified : (marks : List ℕ) (at left right vars : ℕ) (s : State) → P 0 s.notes (unify_step marks at left right vars s) (unify_step marks at left right vars s)
  unfolding unify_step
  unified marks at left right vars s = steps (unify_step marks at left right vars s) (unify_late vars marks at s.cells left right)
