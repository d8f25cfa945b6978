-- Tests that are equal: two that say each other, joined ones, and a test of each place of a range.
--     same_test           two tests of which each says the other
--     or_right            the second of two, where the first fails
--     same_all, all_same  two tests of each place, equal place by place
--     all_both            two tests of each place as one
-- Assumes nothing.
use Prim.Native.Nat.{ℕ, ◌+◌, ◌-◌, ◌<◌}
use mathlib.Core.Path.{◌≡◌, refl, sym, ap, ◌∙◌}
use mathlib.Core.Bool.{Bool, true, false, ◌&&◌, ◌||◌}
use native.Mathlib.Omega.{arith}
use Rattle.laws.specs.First.{all}
use Rattle.laws.proofs.Choice.{fails, and_both}
use Rattle.laws.proofs.First.{all_in, all_of}

pub and_true : (a : Bool) → (a && true) ≡ a
and_true true = refl
and_true false = refl

pub or_true : (a : Bool) → (a || true) ≡ true
or_true true = refl
or_true false = refl

pub or_false : (a : Bool) → (a || false) ≡ a
or_false true = refl
or_false false = refl

pub or_right : (a b : Bool) → (a || b) ≡ true → a ≡ false → b ≡ true
or_right true b e f = absurd (fails f)
or_right false b e f = e

-- two tests that say each other
pub same_test : (a b : Bool) → (a ≡ true → b ≡ true) → (b ≡ true → a ≡ true) → a ≡ b
same_test true true f g = refl
same_test true false f g = sym (f refl)
same_test false true f g = g refl
same_test false false f g = refl

-- a test of the n places from a on
pub same_all : (f g : ℕ → Bool) (a n : ℕ) → ((k : ℕ) → k < n → f (a + k) ≡ g k) → all f a (a + n) ≡ all g 0 n
same_all f g a n r =
    same_test (all f a (a + n)) (all g 0 n)
    (λ e. all_of g 0 n (λ k l h. sym (r k h) ∙ all_in f a (a + n) e (a + k) (omega arith) (omega arith)))
    (λ e. all_of f a (a + n) (λ x l h. let q : x ≡ a + (x - a) = omega arith in ap f q ∙ r (x - a) (omega arith) ∙ all_in g 0 n e (x - a) (omega arith) (omega arith)))

pub all_same : (f g : ℕ → Bool) (n : ℕ) → ((k : ℕ) → k < n → f k ≡ g k) → all f 0 n ≡ all g 0 n
all_same f g n r =
    same_test (all f 0 n) (all g 0 n)
    (λ e. all_of g 0 n (λ k l h. sym (r k h) ∙ all_in f 0 n e k l h))
    (λ e. all_of f 0 n (λ k l h. r k h ∙ all_in g 0 n e k l h))

pub all_both : (f g : ℕ → Bool) (n : ℕ) → (all f 0 n && all g 0 n) ≡ all (λ k. f k && g k) 0 n
all_both f g n =
    same_test (all f 0 n && all g 0 n) (all (λ k. f k && g k) 0 n)
    (λ e. let h = and_both (all f 0 n) (all g 0 n) e in all_of (λ k. f k && g k) 0 n (λ k l u. rw (all_in f 0 n h.0 k l u) (all_in g 0 n h.1 k l u)))
    (λ e. rw (all_of f 0 n (λ k l u. (and_both (f k) (g k) (all_in (λ k. f k && g k) 0 n e k l u)).0)) (all_of g 0 n (λ k l u. (and_both (f k) (g k) (all_in (λ k. f k && g k) 0 n e k l u)).1)))
