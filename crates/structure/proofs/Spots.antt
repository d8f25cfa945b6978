-- The places of a list, and what stands there.
-- Assumes nothing.
use mathlib.Core.Path.{◌≡◌, refl, sym, ap, ◌∙◌}
use mathlib.Core.List.{List}
use mathlib.Core.Bool.{Bool, true, false, not}
use Prim.Native.Nat.{ℕ, ◌+◌, ◌*◌, ◌/◌, ◌%◌, ◌<◌, ◌≤◌}
use native.Mathlib.Omega.{arith}
use lib.Dec.{eqb, leb}
use borrow.Author.Tests.{leb-true, eq-eqb, ne_eqb}
use Rattle.std.proofs.Math.Nat.{mul-le-mul_left, mul-suc, mul-add}
use Rattle.laws.specs.Bounded.{get}
use Rattle.laws.proofs.First.{all_true}
use Rattle.laws.proofs.Tests.{all_same}
use Rattle.laws.proofs.Choice.{yes, no, by_eq}
use Rattle.structure.specs.Lists.{words, span_of, part_place, Spot, part, name, Within}
use Rattle.structure.specs.Words.{looks, look_at, odd_from, SameWord}
use Rattle.std.specs.Prelude.{Option, None, Some}
use Rattle.structure.specs.Tree.{Apart}

pub span_pairs : (sort : ℕ) → sort % 2 ≡ 1 → 2 * (sort / 2) ≡ span_of sort
unfolding span_of
span_pairs sort e = yes (eqb (sort % 2) 1) _ _ (eq-eqb (sort % 2) 1 e) refl

pub span_types : (sort : ℕ) → (sort % 2 ≡ 1 → ⊥) → sort / 2 ≡ span_of sort
unfolding span_of
span_types sort e = no (eqb (sort % 2) 1) _ _ (ne_eqb (sort % 2) 1 e) refl

pub span_small : (sort : ℕ) → sort < 131072 → span_of sort < 131072
span_small sort h =
    by_eq (sort % 2) 1
    (λ e. let q = span_pairs sort e in omega arith)
    (λ e. let q = span_types sort e in omega arith)

pub place_pairs : (b m : ℕ) → b ≡ 1 → 2 * m + 2 ≡ part_place b m
unfolding part_place
place_pairs b m e = yes (eqb b 1) _ _ (eq-eqb b 1 e) refl

pub place_types : (b m : ℕ) → (b ≡ 1 → ⊥) → m + 1 ≡ part_place b m
unfolding part_place
place_types b m e = no (eqb b 1) _ _ (ne_eqb b 1 e) refl

pub within_is : (s sort : ℕ) {r : Bool} → r ≡ leb (s / 2 + 1 + span_of sort) words → r ≡ true → Within s sort
within_is s sort e t = leb-true (s / 2 + 1 + span_of sort) words (sym e ∙ t)

-- a step before the last one
pub steps : (step m n : ℕ) → m < n → step * m + step ≤ step * n
steps step m n h = let l : m + 1 ≤ n = omega arith in let q = mul-le-mul_left step l in omega (arith, q, mul-suc step m)

-- a word of a run that starts `from` words further on
pub run_at : (look : List ℕ) (a step from m : ℕ) → eqb (get looks look (a + step * from + step * m) % 2) 0 ≡ eqb (get looks look (a + step * (from + m)) % 2) 0
run_at look a step from m =
    let e : a + step * from + step * m ≡ a + step * (from + m) = omega (arith, mul-add step from m) in
    ap (λ (x : ℕ). eqb (get looks look x % 2) 0) e

-- ---- two lists compared

module _ (look : List ℕ) (a b n : ℕ) where
  at : (x y : ℕ) → x ≡ y → get looks look x ≡ get looks look y
  at x y e = ap (λ (z : ℕ). get looks look z) e

  module _ (room : n ≤ words) where
    even : 2 * n % 2 ≡ 1 → ⊥
    even q = omega arith

    odd : (2 * n + 1) % 2 ≡ 1
    odd = omega arith

    -- lists of types
    pub types_place : {m : ℕ} → (m < n) × (SameWord look (a + 1 + 1 * m) (b + 1 + 1 * m) → ⊥) × ((k : ℕ) → k < m → SameWord look (a + 1 + 1 * k) (b + 1 + 1 * k))
        → Apart look a b (2 * n) (Some (m + 1))
    types_place {m = m} d =
        let h : m < n = d.0 in
        record {
          told = (
            omega (arith, room),
            part m (omega arith) (place_types (2 * n % 2) m even),
            λ q. d.1 (at (a + 1 + 1 * m) (a + (m + 1)) (omega arith) ∙ q ∙ at (b + (m + 1)) (b + 1 + 1 * m) (omega arith)),
          );
        }

    pub types_same : ((k : ℕ) → k < n → SameWord look (a + 1 + 1 * k) (b + 1 + 1 * k)) → Apart look a b (2 * n) None
    types_same f = record { told = go }
      where
        go : (q : ℕ) → Spot (2 * n) q → SameWord look (a + q) (b + q)
        go q (part k l w) =
            let y : q ≡ k + 1 = w ∙ sym (place_types (2 * n % 2) k even) in
            let g : k < n = omega arith in
            at (a + q) (a + 1 + 1 * k) (omega (arith, y)) ∙ f k g ∙ at (b + 1 + 1 * k) (b + q) (omega (arith, y))
        go q (name k l w u) = absurd (even w)

    -- lists of pairs: the names, and then the types
    pub names_place : a + 1 + 2 * n ≤ words → {m : ℕ}
        → (m < n) × (SameWord look (words + a + 1 + 2 * m) (words + b + 1 + 2 * m) → ⊥) × ((k : ℕ) → k < m → SameWord look (words + a + 1 + 2 * k) (words + b + 1 + 2 * k))
        → Apart look a b (2 * n + 1) (Some (words + 1 + 2 * m))
    names_place r {m = m} d =
        let h : m < n = d.0 in
        record {
          told = (
            omega (arith, r),
            name m (omega arith) odd refl,
            λ q. d.1 (at (words + a + 1 + 2 * m) (a + (words + 1 + 2 * m)) (omega arith) ∙ q ∙ at (b + (words + 1 + 2 * m)) (words + b + 1 + 2 * m) (omega arith)),
          );
        }

    pub seconds_place : a + 1 + 2 * n ≤ words → {m : ℕ}
        → (m < n) × (SameWord look (a + 2 + 2 * m) (b + 2 + 2 * m) → ⊥) × ((k : ℕ) → k < m → SameWord look (a + 2 + 2 * k) (b + 2 + 2 * k))
        → Apart look a b (2 * n + 1) (Some (2 * m + 2))
    seconds_place r {m = m} d =
        let h : m < n = d.0 in
        record {
          told = (
            omega (arith, r),
            part m (omega arith) (place_pairs ((2 * n + 1) % 2) m odd),
            λ q. d.1 (at (a + 2 + 2 * m) (a + (2 * m + 2)) (omega arith) ∙ q ∙ at (b + (2 * m + 2)) (b + 2 + 2 * m) (omega arith)),
          );
        }

    pub pairs_same : ((k : ℕ) → k < n → SameWord look (words + a + 1 + 2 * k) (words + b + 1 + 2 * k)) → ((k : ℕ) → k < n → SameWord look (a + 2 + 2 * k) (b + 2 + 2 * k))
        → Apart look a b (2 * n + 1) None
    pairs_same f g = record { told = go }
      where
        go : (q : ℕ) → Spot (2 * n + 1) q → SameWord look (a + q) (b + q)
        go q (part k u w) =
            let y : q ≡ 2 * k + 2 = w ∙ sym (place_pairs ((2 * n + 1) % 2) k odd) in
            let i : k < n = omega arith in
            at (a + q) (a + 2 + 2 * k) (omega (arith, y)) ∙ g k i ∙ at (b + 2 + 2 * k) (b + q) (omega (arith, y))
        go q (name k u z w) =
            let i : k < n = omega arith in
            at (a + q) (words + a + 1 + 2 * k) (omega (arith, w)) ∙ f k i ∙ at (words + b + 1 + 2 * k) (b + q) (omega (arith, w))

pub apart_pairs : {look : List ℕ} {a b sort : ℕ} {r : Option ℕ} → sort % 2 ≡ 1 → Apart look a b (2 * (sort / 2) + 1) r → Apart look a b sort r
apart_pairs {sort = sort} e p = let q : 2 * (sort / 2) + 1 ≡ sort = omega arith in rw q at p

pub apart_types : {look : List ℕ} {a b sort : ℕ} {r : Option ℕ} → (sort % 2 ≡ 1 → ⊥) → Apart look a b (2 * (sort / 2)) r → Apart look a b sort r
apart_types {sort = sort} e p = let q : 2 * (sort / 2) ≡ sort = omega (arith, e) in rw q at p

-- what is read by words is what the list has at its places
pub look_is : (look : List ℕ) (s o : ℕ) → s / 2 + o < looks → look_at look s o ≡ get looks look (s / 2 + o)
unfolding look_at
look_is look s o h = let e : (s / 2 + o) % looks ≡ s / 2 + o = omega arith in rw e refl

pub spot_small : (s sort o : ℕ) → Within s sort → Spot sort o → s / 2 + o < looks
spot_small s sort o w (part m h e) =
    by_eq (sort % 2) 1
    (λ q. let y = place_pairs (sort % 2) m q in let z = span_pairs sort q in omega (arith, w))
    (λ q. let y = place_types (sort % 2) m q in let z = span_types sort q in omega (arith, w))
spot_small s sort o w (name m h q e) = let z = span_pairs sort q in omega (arith, w)

-- ---- marks

module _ (look : List ℕ) (s sort : ℕ) {r : Bool} where
  pub held_pairs : sort % 2 ≡ 1 → r ≡ odd_from look (λ m. s / 2 + 2 + 2 * m) (sort / 2) → r ≡ odd_from look (λ m. s / 2 + part_place (sort % 2) m) (sort / 2)
  held_pairs e q =
      q
      ∙ ap not
      (all_same _ _ (sort / 2)
      (λ m h.
      let y : s / 2 + 2 + 2 * m ≡ s / 2 + part_place (sort % 2) m = omega (arith, place_pairs (sort % 2) m e) in
      ap (λ (z : ℕ). eqb (get looks look z % 2) 0) y))

  pub held_types : (sort % 2 ≡ 1 → ⊥) → r ≡ odd_from look (λ m. s / 2 + 1 + 1 * m) (sort / 2) → r ≡ odd_from look (λ m. s / 2 + part_place (sort % 2) m) (sort / 2)
  held_types e q =
      q
      ∙ ap not
      (all_same _ _ (sort / 2)
      (λ m h.
      let y : s / 2 + 1 + 1 * m ≡ s / 2 + part_place (sort % 2) m = omega (arith, place_types (sort % 2) m e) in
      ap (λ (z : ℕ). eqb (get looks look z % 2) 0) y))

pub none_held : (look : List ℕ) (at : ℕ → ℕ) (sort : ℕ) {r : Bool} → r ≡ odd_from look at (sort / 2) → sort ≡ 0 → r ≡ false
none_held look at sort e z = e ∙ ap not (all_true _ (sort / 2) (λ k h. absurd (omega (arith, z, h))))
