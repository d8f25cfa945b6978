-- What a test of places and a count of them say of the places.
--     any_none, none_any       no place passes
--     any_found, found_any     one does
--     tally_zero, zero_tally   none is counted
--     any_or                   one passes one test or the other
--     tally_full               all are
--     tally_same               two tests that agree count the same
--     not_bit                  a test stored as a number
-- Assumes nothing.
use mathlib.Core.Path.{◌≡◌, refl, sym, ap, ◌∙◌}
use mathlib.Core.Bool.{Bool, true, false, not, ◌||◌}
use Prim.Native.Nat.{ℕ, zero, suc, ◌<◌}
use native.Mathlib.Omega.{arith}
use lib.Dec.{eqb}
use borrow.Author.Tests.{not-true, not-false}
use Rattle.laws.specs.First.{until}
use Rattle.laws.specs.Lists.{bit}
use Rattle.laws.proofs.Choice.{by_test, by_eq, fails}
use Rattle.laws.proofs.Tests.{or_true}
use Rattle.laws.proofs.First.{Until, until_is, each, none_is}
use Rattle.laws.proofs.Members.{by_le}
use Rattle.names.specs.Tally.{tally}
use Rattle.members.specs.Places.{any}

module _ (test : ℕ → Bool) (n : ℕ) where
  pub any_none : any test n ≡ false → (k : ℕ) → k < n → test k ≡ false
  unfolding any
  any_none e k l = not-true (test k) (each (λ j. not (test j)) (λ j. true) false not (λ j f. refl) n 0 (ap not e) k (omega arith) l)

  pub none_any : ((k : ℕ) → k < n → test k ≡ false) → any test n ≡ false
  unfolding any
  none_any r = none_is (λ j. not (test j)) (λ j. true) false 0 n (λ k a b. ap not (r k b))

  pub found_any : (k : ℕ) → k < n → test k ≡ true → any test n ≡ true
  found_any k l t = by_test (any test n) (λ y. y) (λ f. absurd (fails (sym t ∙ any_none f k l)))

  pub any_found : any test n ≡ true → (k : ℕ) × (k < n) × (test k ≡ true)
  any_found e =
      by_le n (until (λ j. not (test j)) 0 n)
      (λ h. absurd (fails (sym e ∙ none_any (λ k l. not-true (test k) (u.right k (omega arith) (omega arith))))))
      (λ h. (until (λ j. not (test j)) 0 n, h, not-false (test (until (λ j. not (test j)) 0 n)) (u.wrong h)))
    where
      u : Until (λ j. not (test j)) 0 n (until (λ j. not (test j)) 0 n)
      u = until_is (λ j. not (test j)) 0 n (omega arith)

-- a place that passes one test or the other
pub any_or : (f g h : ℕ → Bool) (n : ℕ) → ((k : ℕ) → h k ≡ (f k || g k)) → any h n ≡ (any f n || any g n)
any_or f g h n r =
    by_test (any f n)
    (λ t. let x = any_found f n t in rw t (found_any h n x.0 x.1 (r x.0 ∙ rw x.2)))
    (λ a.
    by_test (any g n)
    (λ t. let x = any_found g n t in rw (a, t) (found_any h n x.0 x.1 (r x.0 ∙ rw x.2 (or_true (f x.0)))))
    (λ b. rw (a, b) (none_any h n (λ k l. r k ∙ rw (any_none f n a k l, any_none g n b k l)))))

pub not_bit : (b : Bool) → not (eqb (bit b) 0) ≡ b
not_bit true = refl
not_bit false = refl

bit_zero : (b : Bool) → bit b ≡ 0 → b ≡ false
bit_zero true e = absurd (omega arith)
bit_zero false e = refl

pub tally_same : (f g : ℕ → Bool) → ((k : ℕ) → f k ≡ g k) → (n : ℕ) → tally f n ≡ tally g n
unfolding tally
tally_same f g r zero = refl
tally_same f g r (suc n) = rw (tally_same f g r n, r n) refl

module _ (test : ℕ → Bool) where
  pub tally_zero : (n : ℕ) → tally test n ≡ 0 → (k : ℕ) → k < n → test k ≡ false
  unfolding tally
  tally_zero zero e k l = absurd (omega arith)
  tally_zero (suc n) e k l = by_eq k n (λ q. rw q (bit_zero (test n) (omega arith))) (λ q. tally_zero n (omega arith) k (omega arith))

  pub zero_tally : (n : ℕ) → ((k : ℕ) → k < n → test k ≡ false) → tally test n ≡ 0
  unfolding tally
  zero_tally zero r = refl
  zero_tally (suc n) r = rw (zero_tally n (λ k l. r k (omega arith)), r n (omega arith))

  pub tally_full : (n : ℕ) → ((k : ℕ) → k < n → test k ≡ true) → tally test n ≡ n
  unfolding tally
  tally_full zero r = refl
  tally_full (suc n) r = rw (tally_full n (λ k l. r k (omega arith)), r n (omega arith)) (omega arith)
