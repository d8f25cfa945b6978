-- Lists compared member by member, and members that are asked for.
-- Assumes nothing.
use mathlib.Core.Path.{◌≡◌, refl, sym, ap}
use mathlib.Core.List.{List, [], ◌∷◌}
use mathlib.Core.Bool.{Bool, true, false, not, ◌&&◌}
use Prim.Native.Nat.{ℕ, zero, suc, ◌+◌, ◌<◌}
use native.Mathlib.Nat.{add-zero, zero-add, not-suc-le-zero}
use native.Mathlib.Omega.{arith}
use lib.Dec.{eqb}
use Rattle.laws.specs.Lists.{bit, In, gather}
use Rattle.laws.proofs.Choice.{and_both, by_test, fails}
use Rattle.laws.proofs.Lists.{count_same}
use Rattle.structure.specs.Structure.{pairwise, any_of}

pub both_true : {a b : Bool} → a ≡ true → b ≡ true → (a && b) ≡ true
both_true p q = rw (p, q)

-- a flag as a test again
pub bit_test : (b : Bool) → not (eqb (bit b) 0) ≡ b
bit_test true = refl
bit_test false = refl

pub bit_zero : (b : Bool) → eqb (bit b) 0 ≡ not b
bit_zero true = refl
bit_zero false = refl

-- one member a place
abbrev pub each : (ℕ → ℕ) → ℕ → List ℕ
each g k = g k ∷ []

-- lists gathered place by place: related exactly if as long and related at each place
module _ (r : ℕ → ℕ → Bool) (g h : ℕ → ℕ) where
  pub pairwise_len : (n m i : ℕ) → pairwise r (gather (each g) i n) (gather (each h) i m) ≡ true → n ≡ m
  unfolding pairwise gather
  pairwise_len zero zero i e = refl
  pairwise_len zero (suc m) i e = absurd (fails (sym e))
  pairwise_len (suc n) zero i e = absurd (fails (sym e))
  pairwise_len (suc n) (suc m) i e = ap suc (pairwise_len n m (suc i) (and_both (r (g i) (h i)) _ e).1)

  pub pairwise_at : (n m i : ℕ) → pairwise r (gather (each g) i n) (gather (each h) i m) ≡ true → (k : ℕ) → k < n → r (g (i + k)) (h (i + k)) ≡ true
  unfolding pairwise gather
  pairwise_at zero m i e k l = absurd (not-suc-le-zero l)
  pairwise_at (suc n) zero i e k l = absurd (fails (sym e))
  pairwise_at (suc n) (suc m) i e zero l = rw add-zero (and_both (r (g i) (h i)) _ e).0
  pairwise_at (suc n) (suc m) i e (suc k) l =
      let z : i + suc k ≡ suc i + k = omega arith in
      rw z (pairwise_at n m (suc i) (and_both (r (g i) (h i)) _ e).1 k (omega arith))

  pub pairwise_is : (n i : ℕ) → ((k : ℕ) → k < n → r (g (i + k)) (h (i + k)) ≡ true) → pairwise r (gather (each g) i n) (gather (each h) i n) ≡ true
  unfolding pairwise gather
  pairwise_is zero i q = refl
  pairwise_is (suc n) i q =
      both_true (rw add-zero at (q 0 (omega arith)))
      (pairwise_is n (suc i) (λ k l. let z : i + suc k ≡ suc i + k = omega arith in rw z at (q (suc k) (omega arith))))

  -- from place 0 on
  pub pairwise_from : (n m : ℕ) → pairwise r (gather (each g) 0 n) (gather (each h) 0 m) ≡ true → (k : ℕ) → k < n → r (g k) (h k) ≡ true
  pairwise_from n m e k l = rw zero-add at (pairwise_at n m 0 e k l)

  pub pairwise_all : (n m : ℕ) → n ≡ m → ((k : ℕ) → k < n → r (g k) (h k) ≡ true) → pairwise r (gather (each g) 0 n) (gather (each h) 0 m) ≡ true
  pairwise_all n m e q = rw (← e) (pairwise_is n 0 (λ k l. rw zero-add (q k l)))

-- a member of a gathered list that is asked for
module _ (h : ℕ → Bool) (g : ℕ → ℕ) where
  pub any_at : (n i k : ℕ) → k < n → h (g (i + k)) ≡ true → any_of h (gather (each g) i n) ≡ true
  unfolding any_of gather
  any_at zero i k l e = absurd (not-suc-le-zero l)
  any_at (suc n) i zero l e = let e' : h (g i) ≡ true = rw add-zero at e in rw e'
  any_at (suc n) i (suc k) l e =
      let z : i + suc k ≡ suc i + k = omega arith in
      let r : any_of h (gather (each g) (suc i) n) ≡ true = any_at n (suc i) k (omega arith) (rw z at e) in
      by_test (h (g i)) (λ t. rw t) (λ f. rw (f, r))

  pub any_none : (n i : ℕ) → ((k : ℕ) → k < n → h (g (i + k)) ≡ false) → any_of h (gather (each g) i n) ≡ false
  unfolding any_of gather
  any_none zero i q = refl
  any_none (suc n) i q =
      let z0 : h (g i) ≡ false = rw add-zero at (q 0 (omega arith)) in
      let r = any_none n (suc i) (λ k l. let z : i + suc k ≡ suc i + k = omega arith in rw z at (q (suc k) (omega arith))) in
      rw (z0, r)

-- what is asked of one list's members is asked of the other's
any_head : (h : ℕ → Bool) (x : ℕ) (xs : List ℕ) → h x ≡ true → any_of h (x ∷ xs) ≡ true
unfolding any_of
any_head h x xs e = rw e

any_tail : (h : ℕ → Bool) (x : ℕ) (xs : List ℕ) → any_of h xs ≡ true → any_of h (x ∷ xs) ≡ true
unfolding any_of
any_tail h x xs e = by_test (h x) (λ t. rw t) (λ t. rw (t, e))

any_cons : (h : ℕ → Bool) (x : ℕ) (xs : List ℕ) {P : Type 0} → any_of h (x ∷ xs) ≡ true → (h x ≡ true → P) → (any_of h xs ≡ true → P) → P
unfolding any_of
any_cons h x xs e f g = by_test (h x) f (λ t. g (rw t at e))

pub any_map : (h g : ℕ → Bool) (xs : List ℕ) → ((k : ℕ) → In k xs → h k ≡ true → g k ≡ true) → any_of h xs ≡ true → any_of g xs ≡ true
unfolding any_of
any_map h g [] q e = e
any_map h g (x ∷ xs) q e =
    any_cons h x xs e
    (λ t. any_head g x xs (q x (omega (arith, count_same x x xs refl)) t))
    (λ t. any_tail g x xs (any_map h g xs (λ k m. q k (omega arith)) t))

pub pairwise_any : (r : ℕ → ℕ → Bool) (h g : ℕ → Bool) (xs ys : List ℕ) → pairwise r xs ys ≡ true → ((k l : ℕ) → r k l ≡ true → h k ≡ true → g l ≡ true) → any_of h xs ≡ true → any_of g ys ≡ true
unfolding pairwise any_of
pairwise_any r h g [] [] p q e = e
pairwise_any r h g [] (y ∷ ys) p q e = absurd (fails (sym p))
pairwise_any r h g (x ∷ xs) [] p q e = absurd (fails (sym p))
pairwise_any r h g (x ∷ xs) (y ∷ ys) p q e =
    let b = and_both (r x y) (pairwise r xs ys) p in
    any_cons h x xs e (λ t. any_head g y ys (q x y b.0 t)) (λ t. any_tail g y ys (pairwise_any r h g xs ys b.1 q t))
