-- What is stored as x+1 and what is counted down, as the code asks it: of a number that is not 0, what the clause for the number after says.
-- Assumes nothing.
use mathlib.Core.Path.{◌≡◌, refl, sym, ap, ◌∙◌}
use mathlib.Core.List.{List}
use mathlib.Core.Bool.{Bool}
use Prim.Native.Nat.{ℕ, zero, suc, ◌+◌, ◌-◌, ◌<◌, ◌≤◌}
use native.Mathlib.Omega.{arith}
use borrow.Author.Tests.{ne_eqb}
use Rattle.laws.proofs.Choice.{no}
use Rattle.pack.specs.declared.counts.Counts.{Counts}
use Rattle.pack.specs.declared.rows.ExpressionRow.{ExpressionRow}
use Rattle.slots.specs.Slots.{Opening}
use Rattle.laws.specs.declared.fault.Fault.TheVariants.{StrayLet}
use Rattle.expr.specs.State.{Env, State, Ans, Typing, refuse}
use Rattle.expr.specs.Rules.{Run, let_type, stmts_rule, last_rule, guard_rule, payload_opens, arms_rule, fields_rule, returned_rule, kind_rule, expr_rule}

-- a value f of a number: what it is of 0, and of the number after
module _ {A : Type 0} (f : ℕ → A) {z : A} where
  at_none : (n : ℕ) → n ≡ 0 → z ≡ f 0 → z ≡ f n
  at_none zero h e = e
  at_none (suc n) h e = absurd (omega arith)

  at_more : (n : ℕ) → (n ≡ 0 → ⊥) → z ≡ f (suc (n - 1)) → z ≡ f n
  at_more zero h e = absurd (h refl)
  at_more (suc n) h e = let q : suc n - 1 ≡ n = omega arith in rw q at e

  -- of what is left of n items from the k-th on
  past_items : (n k : ℕ) → n ≤ k → z ≡ f 0 → z ≡ f (n - k)
  past_items n k h e = at_none (n - k) (omega arith) e

  at_item : (n k : ℕ) → k < n → z ≡ f (suc (n - (k + 1))) → z ≡ f (n - k)
  at_item n k h e = let q : suc (n - (k + 1)) ≡ n - k = omega arith in e ∙ ap f q

module _ (p : List ℕ) (c : Counts) (same : List ℕ) (list name payload : ℕ) (slots : List ℕ) {z : Opening} where
  pub opens_none : payload ≡ 0 → z ≡ payload_opens p c same list name 0 slots → z ≡ payload_opens p c same list name payload slots
  opens_none = at_none (λ n. payload_opens p c same list name n slots) payload

  pub opens_more : (payload ≡ 0 → ⊥) → z ≡ payload_opens p c same list name (suc (payload - 1)) slots → z ≡ payload_opens p c same list name payload slots
  opens_more = at_more (λ n. payload_opens p c same list name n slots) payload

module _ (p : List ℕ) (c : Counts) (same marks : List ℕ) (id annotation vars : ℕ) (s : State) {z : Typing} where
  pub let_type_none : annotation ≡ 0 → z ≡ let_type p c same marks id 0 vars s → z ≡ let_type p c same marks id annotation vars s
  let_type_none = at_none (λ n. let_type p c same marks id n vars s) annotation

  pub let_type_more : (annotation ≡ 0 → ⊥) → z ≡ let_type p c same marks id (suc (annotation - 1)) vars s → z ≡ let_type p c same marks id annotation vars s
  let_type_more = at_more (λ n. let_type p c same marks id n vars s) annotation

module _ (run : Run) (e : Env) (list n k : ℕ) (d : Bool) (vars : ℕ) (s : State) {z : Ans} where
  pub stmts_none : n ≤ k → z ≡ stmts_rule run e list 0 k d vars s → z ≡ stmts_rule run e list (n - k) k d vars s
  stmts_none = past_items (λ m. stmts_rule run e list m k d vars s) n k

  pub stmts_more : k < n → z ≡ stmts_rule run e list (suc (n - (k + 1))) k d vars s → z ≡ stmts_rule run e list (n - k) k d vars s
  stmts_more = at_item (λ m. stmts_rule run e list m k d vars s) n k

module _ (run : Run) (e : Env) (id last want : ℕ) (d : Bool) (vars : ℕ) (s : State) {z : Ans} where
  pub last_none : last ≡ 0 → z ≡ last_rule run e id 0 want d vars s → z ≡ last_rule run e id last want d vars s
  last_none = at_none (λ n. last_rule run e id n want d vars s) last

  pub last_more : (last ≡ 0 → ⊥) → z ≡ last_rule run e id (suc (last - 1)) want d vars s → z ≡ last_rule run e id last want d vars s
  last_more = at_more (λ n. last_rule run e id n want d vars s) last

module _ (run : Run) (guard vars : ℕ) (s : State) {z : Ans} where
  pub guard_none : guard ≡ 0 → z ≡ guard_rule run 0 vars s → z ≡ guard_rule run guard vars s
  guard_none = at_none (λ n. guard_rule run n vars s) guard

  pub guard_more : (guard ≡ 0 → ⊥) → z ≡ guard_rule run (suc (guard - 1)) vars s → z ≡ guard_rule run guard vars s
  guard_more = at_more (λ n. guard_rule run n vars s) guard

module _ (run : Run) (e : Env) (id list arms n k : ℕ) (ended d : Bool) (want vars : ℕ) (s : State) {z : Ans} where
  pub arms_none : n ≤ k → z ≡ arms_rule run e id list arms 0 k ended d want vars s → z ≡ arms_rule run e id list arms (n - k) k ended d want vars s
  arms_none = past_items (λ m. arms_rule run e id list arms m k ended d want vars s) n k

  pub arms_more : k < n → z ≡ arms_rule run e id list arms (suc (n - (k + 1))) k ended d want vars s → z ≡ arms_rule run e id list arms (n - k) k ended d want vars s
  arms_more = at_item (λ m. arms_rule run e id list arms m k ended d want vars s) n k

module _ (run : Run) (e : Env) (list fields n k : ℕ) (d : Bool) (vars : ℕ) (s : State) {z : Ans} where
  pub fields_none : n ≤ k → z ≡ fields_rule run e list fields 0 k d vars s → z ≡ fields_rule run e list fields (n - k) k d vars s
  fields_none = past_items (λ m. fields_rule run e list fields m k d vars s) n k

  pub fields_more : k < n → z ≡ fields_rule run e list fields (suc (n - (k + 1))) k d vars s → z ≡ fields_rule run e list fields (n - k) k d vars s
  fields_more = at_item (λ m. fields_rule run e list fields m k d vars s) n k

module _ (run : Run) (e : Env) (id value vars : ℕ) (s : State) {z : Ans} where
  pub returned_none : value ≡ 0 → z ≡ returned_rule run e id 0 vars s → z ≡ returned_rule run e id value vars s
  returned_none = at_none (λ n. returned_rule run e id n vars s) value

  pub returned_more : (value ≡ 0 → ⊥) → z ≡ returned_rule run e id (suc (value - 1)) vars s → z ≡ returned_rule run e id value vars s
  returned_more = at_more (λ n. returned_rule run e id n vars s) value

module _ (depth : ℕ) (e : Env) (id want vars : ℕ) (s : State) {z : Ans} where
  pub expr_none : depth ≡ 0 → z ≡ expr_rule 0 e id want vars s → z ≡ expr_rule depth e id want vars s
  expr_none = at_none (λ n. expr_rule n e id want vars s) depth

  pub expr_more : (depth ≡ 0 → ⊥) → z ≡ expr_rule (suc (depth - 1)) e id want vars s → z ≡ expr_rule depth e id want vars s
  expr_more = at_more (λ n. expr_rule n e id want vars s) depth

-- ---- the rule of a kind

module _ (run : Run) (e : Env) (id : ℕ) (n : ExpressionRow) (want vars : ℕ) (s : State) {k : ℕ} {z : Ans} where
  pub at_kind : {j : ℕ} → k ≡ j → z ≡ kind_rule run e id n want vars s j → z ≡ kind_rule run e id n want vars s k
  at_kind h q = q ∙ ap (kind_rule run e id n want vars s) (sym h)

  -- a kind that no node has
  pub unknown_kind : 9 ≤ k → z ≡ refuse StrayLet id s → z ≡ kind_rule run e id n want vars s k
  unfolding kind_rule
  unknown_kind h q =
      no _ _ _ (ne_eqb k 0 (λ e. omega arith)) (no _ _ _ (ne_eqb k 1 (λ e. omega arith)) (no _ _ _ (ne_eqb k 2 (λ e. omega arith))
      (no _ _ _ (ne_eqb k 4 (λ e. omega arith)) (no _ _ _ (ne_eqb k 5 (λ e. omega arith)) (no _ _ _ (ne_eqb k 6 (λ e. omega arith))
      (no _ _ _ (ne_eqb k 7 (λ e. omega arith)) (no _ _ _ (ne_eqb k 8 (λ e. omega arith)) q)))))))
