-- The laws of an array with a bound.
--     get_in, get_out     what is read below the bound, and past it
--     put_in, put_out     what a store leaves
--     put_length          a store keeps the length
--     get_same, get_other what is read after a store, at its place and at another
-- Assumes nothing.
use Prim.Native.Nat.{ℕ, ◌<◌, ◌≤◌}
use mathlib.Core.Path.{◌≡◌, refl, sym, ◌∙◌}
use mathlib.Core.List.{List}
use native.Mathlib.Omega.{arith}
use lib.Dec.{ltb}
use lib.ListN.{length, get_or, set, length-set}
use lib.Seq.{get_or-set_same, get_or-set_other}
use borrow.Author.Tests.{lt-ltb, le-ltb, ltb-true, ltb-false}
use Rattle.laws.specs.Bounded.{get, put}
use Rattle.laws.proofs.Choice.{yes, no, by_test}

module _ (n : ℕ) (l : List ℕ) (i : ℕ) where
  pub get_in : i < n → get_or l i 0 ≡ get n l i
  unfolding get
  get_in h = yes (ltb i n) _ _ (lt-ltb i n h) refl

  pub get_out : n ≤ i → 0 ≡ get n l i
  unfolding get
  get_out h = no (ltb i n) _ _ (le-ltb i n h) refl

  pub put_in : (v : ℕ) → i < n → set l i v ≡ put n l i v
  unfolding put
  put_in v h = yes (ltb i n) _ _ (lt-ltb i n h) refl

  pub put_out : (v : ℕ) → n ≤ i → l ≡ put n l i v
  unfolding put
  put_out v h = no (ltb i n) _ _ (le-ltb i n h) refl

  -- by cases: the place is below the bound, or past it
  pub by_bound : {P : Type 0} → (i < n → P) → (n ≤ i → P) → P
  by_bound y x = by_test (ltb i n) (λ t. y (ltb-true i n t)) (λ f. x (ltb-false i n f))

  pub put_length : (v : ℕ) → length (put n l i v) ≡ length l
  put_length v = by_bound (λ h. rw (← put_in v h) (length-set l i v)) (λ h. rw (← put_out v h) refl)

  pub get_same : (v : ℕ) → length l ≡ n → i < n → get n (put n l i v) i ≡ v
  unfolding get
  get_same v e h = rw (← put_in v h) (sym (yes (ltb i n) _ _ (lt-ltb i n h) refl) ∙ get_or-set_same l i v 0 (omega arith))

  pub get_other : (v j : ℕ) → (j ≡ i → ⊥) → get n (put n l i v) j ≡ get n l j
  unfolding get
  get_other v j ne = by_bound (λ h. rw (← put_in v h, get_or-set_other l i j v 0 ne) refl) (λ h. rw (← put_out v h) refl)
