-- The laws of counting in lists, and of lists put together place by place.
-- Membership is a count of one or more, so that "listed once" and "not in both" are sums.
-- Assumes nothing.
use Prim.Native.Nat.{ℕ, zero, suc, ◌+◌, ◌-◌, ◌≤◌, ◌<◌}
use mathlib.Core.Path.{◌≡◌, ap, ◌∙◌}
use mathlib.Core.Logic.{◌⊎◌, inl, inr, ⊎_elim}
use mathlib.Core.List.{List, [], ◌∷◌, ◌++◌, append_assoc}
use native.Mathlib.Omega.{arith}
use native.Mathlib.Nat.{add-zero, zero-add, suc-add, add-suc}
use borrow.Author.Tests.{eq-eqb, ne_eqb}
use Rattle.laws.specs.Lists.{count, In, gather}
use Rattle.laws.proofs.Choice.{by_eq}

pub count_append : (y : ℕ) (xs ys : List ℕ) → count y (xs ++ ys) ≡ count y xs + count y ys
count_append y [] ys = omega arith
count_append y (x ∷ xs) ys = omega (arith, count_append y xs ys)

pub count_same : (y x : ℕ) (xs : List ℕ) → y ≡ x → count y (x ∷ xs) ≡ suc (count y xs)
count_same y x xs e = rw (eq-eqb y x e) (omega arith)

pub count_other : (y x : ℕ) (xs : List ℕ) → (y ≡ x → ⊥) → count y (x ∷ xs) ≡ count y xs
count_other y x xs n = rw (ne_eqb y x n) (omega arith)

-- the first member, or one of the others
pub in_cons : (y x : ℕ) (xs : List ℕ) → In y (x ∷ xs) → (y ≡ x) ⊎ In y xs
in_cons y x xs h = by_eq y x (λ e. inl e) (λ n. inr (omega (arith, count_other y x xs n)))

pub in_one : (y x : ℕ) → In y (x ∷ []) → y ≡ x
in_one y x h = ⊎_elim (λ e. e) (λ (k : In y []). absurd (omega arith)) (in_cons y x [] h)

pub either : (a b : ℕ) → 1 ≤ a + b → (1 ≤ a) ⊎ (1 ≤ b)
either zero b h = inr (omega arith)
either (suc a) b h = inl (omega arith)

pub in_append : (y : ℕ) (xs ys : List ℕ) → In y (xs ++ ys) → In y xs ⊎ In y ys
in_append y xs ys h = either (count y xs) (count y ys) (omega (arith, count_append y xs ys))

-- a range of places in two parts
pub gather_split : (f : ℕ → List ℕ) (m i n : ℕ) → gather f i (m + n) ≡ gather f i m ++ gather f (i + m) n
unfolding gather
gather_split f zero i n = rw (zero-add, add-zero)
gather_split f (suc m) i n = rw (suc-add, append_assoc) (ap (λ (l : List ℕ). f i ++ l) (gather_split f m (suc i) n ∙ rw (suc-add, add-suc)))

-- a count over d + 1 + m places from i on, split at place k
pub count_at : (y : ℕ) (f : ℕ → List ℕ) (i d m k : ℕ) → i + d ≡ k
    → count y (gather f i (d + suc m)) ≡ count y (gather f i d) + (count y (f k) + count y (gather f (suc k) m))
unfolding gather
count_at y f i d m k e =
    ap (count y) (gather_split f d i (suc m))
    ∙ count_append y (gather f i d) (gather f (i + d) (suc m))
    ∙ rw (e, count_append y (f k) (gather f (suc k) m))

-- what stands at one of the places stands in the whole
pub in_gather : (y : ℕ) (f : ℕ → List ℕ) (i k n : ℕ) → i ≤ k → k < i + n → In y (f k) → In y (gather f i n)
in_gather y f i k n l h m =
    let e : (k - i) + suc (i + n - (k + 1)) ≡ n = omega arith in
    rw (← e) (omega (arith, count_at y f i (k - i) (i + n - (k + 1)) k (omega arith)))

-- and what stands in the whole stands at one of the places
pub gather_in : (y : ℕ) (f : ℕ → List ℕ) (n i : ℕ) → In y (gather f i n) → (k : ℕ) × (i ≤ k) × (k < i + n) × In y (f k)
unfolding gather
gather_in y f zero i h = absurd (omega arith)
gather_in y f (suc n) i h = ⊎_elim (λ m. (i, omega arith, omega arith, m)) (λ m. let r = gather_in y f n (suc i) m in (r.0, omega (arith, r.1), omega (arith, r.2), r.3)) (in_append y (f i) (gather f (suc i) n) h)
