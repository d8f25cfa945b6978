-- How many different values there are: a list of different values below n has at most n members.
--     room      and fewer where a value below n is not among them
--     full      and n where each is
-- Assumes nothing.
use mathlib.Core.Path.{◌≡◌, refl, ap, ◌∙◌}
use mathlib.Core.List.{List, [], ◌∷◌}
use Prim.Native.Nat.{ℕ, zero, suc, ◌+◌, ◌≤◌, ◌<◌}
use native.Mathlib.Omega.{arith}
use lib.ListN.{length}
use Rattle.laws.specs.Lists.{count, In}
use Rattle.laws.proofs.Choice.{by_eq}
use Rattle.laws.proofs.Lists.{count_same, count_other}
use Rattle.laws.proofs.Members.{in_self}

-- how often the values below n stand in xs, in all
abbrev total : ℕ → List ℕ → ℕ
total zero xs = 0
total (suc n) xs = count n xs + total n xs

total_nil : (n : ℕ) → total n [] ≡ 0
total_nil zero = refl
total_nil (suc n) = omega (arith, total_nil n)

total_past : (n x : ℕ) (xs : List ℕ) → n ≤ x → total n (x ∷ xs) ≡ total n xs
total_past zero x xs h = refl
total_past (suc n) x xs h = omega (arith, count_other n x xs (λ e. absurd (omega arith)), total_past n x xs (omega arith))

total_cons : (n x : ℕ) (xs : List ℕ) → x < n → total n (x ∷ xs) ≡ suc (total n xs)
total_cons zero x xs h = absurd (omega arith)
total_cons (suc n) x xs h =
    by_eq n x
    (λ e. omega (arith, total_past n x xs (omega arith), count_same n x xs e))
    (λ e. omega (arith, count_other n x xs e, total_cons n x xs (omega arith)))

total_length : (n : ℕ) (xs : List ℕ) → ((y : ℕ) → In y xs → y < n) → total n xs ≡ length xs
total_length n [] h = total_nil n
total_length n (x ∷ xs) h = omega (arith, total_cons n x xs (h x (in_self x xs)), total_length n xs (λ y k. h y (omega arith)))

total_le : (n : ℕ) (xs : List ℕ) → ((y : ℕ) → count y xs ≤ 1) → total n xs ≤ n
total_le zero xs h = omega arith
total_le (suc n) xs h = omega (arith, h n, total_le n xs h)

total_lt : (n : ℕ) (xs : List ℕ) (z : ℕ) → z < n → count z xs ≡ 0 → ((y : ℕ) → count y xs ≤ 1) → total n xs < n
total_lt zero xs z l e h = absurd (omega arith)
total_lt (suc n) xs z l e h =
    by_eq n z
    (λ k. omega (arith, total_le n xs h, ap (λ (x : ℕ). count x xs) k ∙ e))
    (λ k. omega (arith, h n, total_lt n xs z (omega arith) e h))

total_full : (n : ℕ) (xs : List ℕ) → ((y : ℕ) → y < n → count y xs ≡ 1) → total n xs ≡ n
total_full zero xs h = refl
total_full (suc n) xs h = omega (arith, h n (omega arith), total_full n xs (λ y l. h y (omega arith)))

pub room : (n : ℕ) (xs : List ℕ) (z : ℕ) → z < n → count z xs ≡ 0 → ((y : ℕ) → count y xs ≤ 1) → ((y : ℕ) → In y xs → y < n) → length xs < n
room n xs z l e h u = omega (arith, total_lt n xs z l e h, total_length n xs u)

pub at_most : (n : ℕ) (xs : List ℕ) → ((y : ℕ) → count y xs ≤ 1) → ((y : ℕ) → In y xs → y < n) → length xs ≤ n
at_most n xs h u = omega (arith, total_le n xs h, total_length n xs u)

pub full : (n : ℕ) (xs : List ℕ) → ((y : ℕ) → y < n → count y xs ≡ 1) → ((y : ℕ) → In y xs → y < n) → length xs ≡ n
full n xs h u = omega (arith, total_full n xs h, total_length n xs u)
