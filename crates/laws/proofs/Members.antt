-- More laws of what stands in a list.
--     in_self, in_subst   the first member; an equal one
--     in_at, at_in        what stands at a place stands in the list, and what stands in it has a place
--     count_set           a count after a store over another number
--     by_le               two numbers, one at most the other or above it
-- Assumes nothing.
use Prim.Native.Nat.{ℕ, zero, suc, ◌≤◌, ◌<◌}
use mathlib.Core.Path.{◌≡◌, refl, sym, subst}
use mathlib.Core.List.{List, [], ◌∷◌}
use native.Mathlib.Omega.{arith}
use lib.Dec.{leb}
use lib.ListN.{length, get_or, set}
use borrow.Author.Tests.{leb-true, leb-false}
use Rattle.laws.specs.Lists.{count, In}
use Rattle.laws.proofs.Choice.{by_test, by_eq}
use Rattle.laws.proofs.Lists.{count_same, count_other}

pub in_self : (x : ℕ) (xs : List ℕ) → In x (x ∷ xs)
in_self x xs = omega (arith, count_same x x xs refl)

pub in_subst : {x y : ℕ} (xs : List ℕ) → x ≡ y → In x xs → In y xs
in_subst xs e h = subst (λ z. In z xs) e h

pub in_at : (xs : List ℕ) (i : ℕ) → i < length xs → In (get_or xs i 0) xs
in_at [] i l = absurd (omega arith)
in_at (x ∷ xs) zero l = in_self x xs
in_at (x ∷ xs) (suc i) l = omega (arith, in_at xs i (omega arith))

pub at_in : (xs : List ℕ) (y : ℕ) → In y xs → (i : ℕ) × (i < length xs) × (get_or xs i 0 ≡ y)
at_in [] y h = absurd (omega arith)
at_in (x ∷ xs) y h =
    by_eq y x
    (λ e. (0, omega arith, sym e))
    (λ n. let r = at_in xs y (omega (arith, count_other y x xs n)) in (suc r.0, omega (arith, r.1), r.2))

-- a store of a number other than y over a y
pub count_set : (xs : List ℕ) (i y v : ℕ) → i < length xs → get_or xs i 0 ≡ y → (y ≡ v → ⊥) → suc (count y (set xs i v)) ≡ count y xs
count_set [] i y v l e n = absurd (omega arith)
count_set (x ∷ xs) zero y v l e n = omega (arith, count_other y v xs n, count_same y x xs (omega arith))
count_set (x ∷ xs) (suc i) y v l e n = omega (arith, count_set xs i y v (omega arith) e n)

pub by_le : (a b : ℕ) {P : Type 0} → (a ≤ b → P) → (b < a → P) → P
by_le a b y n = by_test (leb a b) (λ t. y (leb-true a b t)) (λ f. n (leb-false a b f))
