-- The smallest member of each class of an equivalence on the numbers below n: two members have the same one exactly if they are equivalent.
-- Assumes nothing.
use mathlib.Core.Path.{◌≡◌, sym, ◌∙◌}
use mathlib.Core.Bool.{Bool, true, false, not}
use Prim.Native.Nat.{ℕ, ◌<◌, ◌≤◌}
use native.Mathlib.Omega.{arith}
use lib.Dec.{ltb}
use borrow.Author.Tests.{not-true, not-false, ltb-true, ltb-false}
use Rattle.laws.specs.First.{until}
use Rattle.laws.proofs.First.{Until, until_is}
use Rattle.laws.proofs.Choice.{by_test, by_eq, fails}

-- the smallest number equivalent to i
abbrev pub rep : (ℕ → ℕ → Bool) → ℕ → ℕ
rep E i = until (λ j. not (E j i)) 0 i

pub record Equivalence (E : ℕ → ℕ → Bool) (n : ℕ) : Type 0 where
  pub reflexive : (i : ℕ) → i < n → E i i ≡ true
  pub symmetric : (i j : ℕ) → i < n → j < n → E i j ≡ true → E j i ≡ true
  pub transitive : (i j k : ℕ) → i < n → j < n → k < n → E i j ≡ true → E j k ≡ true → E i k ≡ true

pub rep_until : (E : ℕ → ℕ → Bool) (i : ℕ) → Until (λ j. not (E j i)) 0 i (rep E i)
rep_until E i = until_is (λ j. not (E j i)) 0 i (omega arith)

pub rep_le : (E : ℕ → ℕ → Bool) (i : ℕ) → rep E i ≤ i
rep_le E i = (rep_until E i).high

module _ {E : ℕ → ℕ → Bool} {n : ℕ} (q : Equivalence E n) where
  pub rep_is : (i : ℕ) → i < n → E (rep E i) i ≡ true
  rep_is i h =
      let u = rep_until E i in
      by_eq (rep E i) i (λ e. rw e (q.reflexive i h)) (λ e. not-false (E (rep E i) i) (u.wrong (omega (arith, u.high))))

  -- no smaller one is
  pub rep_first : (i j : ℕ) → j < rep E i → E j i ≡ false
  rep_first i j h = not-true (E j i) ((rep_until E i).right j (omega arith) h)

  not_less : (i j : ℕ) → i < n → j < n → E i j ≡ true → rep E i < rep E j → ⊥
  not_less i j hi hj e l =
      fails (sym (q.transitive (rep E i) i j (omega (arith, rep_le E i)) hi hj (rep_is i hi) e) ∙ rep_first j (rep E i) l)

  pub rep_same : (i j : ℕ) → i < n → j < n → E i j ≡ true → rep E i ≡ rep E j
  rep_same i j hi hj e =
      by_eq (rep E i) (rep E j)
      (λ z. z)
      (λ z.
      by_test (ltb (rep E i) (rep E j))
      (λ t. absurd (not_less i j hi hj e (ltb-true _ _ t)))
      (λ t. let l : rep E j ≤ rep E i = ltb-false _ _ t in absurd (not_less j i hj hi (q.symmetric i j hi hj e) (omega arith))))

  pub rep_equal : (i j : ℕ) → i < n → j < n → rep E i ≡ rep E j → E i j ≡ true
  rep_equal i j hi hj e =
      let a : rep E i < n = omega (arith, rep_le E i) in
      q.transitive i (rep E i) j hi a hj (q.symmetric (rep E i) i a hi (rep_is i hi)) (rw e (rep_is j hj))

  -- where none before it is equivalent, it is itself the smallest
  pub rep_none : (i : ℕ) → i < n → ((k : ℕ) → k < i → E k i ≡ false) → rep E i ≡ i
  rep_none i h f =
      by_eq (rep E i) i
      (λ z. z)
      (λ z. absurd (fails (sym (rep_is i h) ∙ f (rep E i) (omega (arith, rep_le E i)))))
