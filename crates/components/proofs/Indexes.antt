-- The laws of a discovery's number.
--     index_le     no number is above how many values are found
--     found_index  a value that is found has a number, and one with a number is found
--     index_none   one that is not found has none, and one that has none is not found (`index_zero`)
--     index_old    what is found later changes no number
--     index_new    and has numbers above all before
--     index_top    the last one found, and the others
-- Assumes nothing.
use mathlib.Core.Path.{◌≡◌, refl, ap}
use mathlib.Core.Logic.{◌⊎◌, inl, inr}
use mathlib.Core.Bool.{Bool, true, false}
use mathlib.Core.List.{List, [], ◌∷◌, ◌++◌}
use Prim.Native.Nat.{ℕ, zero, suc, ◌+◌, ◌≤◌, ◌<◌}
use native.Mathlib.Omega.{arith}
use lib.Dec.{eqb}
use lib.ListN.{length, length-append}
use borrow.Author.Tests.{eq-eqb, ne_eqb}
use Rattle.laws.specs.Lists.{bit, count, In}
use Rattle.laws.proofs.Choice.{by_eq}
use Rattle.components.specs.Found.{place, index}

pub index_le : (y : ℕ) (found : List ℕ) → index y found ≤ length found
index_le y [] = omega arith
index_le y (x ∷ found) = go (eqb y x) (index_le y found)
  where
    go : (b : Bool) → index y found ≤ length found → place b (suc (length found)) (index y found) ≤ suc (length found)
    go true h = omega arith
    go false h = omega arith

pub found_index : (y : ℕ) (found : List ℕ) → In y found → 1 ≤ index y found
found_index y [] h = absurd (omega arith)
found_index y (x ∷ found) h = go (eqb y x) h (found_index y found)
  where
    go : (b : Bool) → 1 ≤ bit b + count y found → (In y found → 1 ≤ index y found) → 1 ≤ place b (suc (length found)) (index y found)
    go true k ih = omega arith
    go false k ih = ih (omega arith)

pub index_found : (y : ℕ) (found : List ℕ) → 1 ≤ index y found → In y found
index_found y [] h = h
index_found y (x ∷ found) h = go (eqb y x) h (index_found y found)
  where
    go : (b : Bool) → 1 ≤ place b (suc (length found)) (index y found) → (1 ≤ index y found → In y found) → 1 ≤ bit b + count y found
    go true k ih = omega arith
    go false k ih = omega (arith, ih k)

pub index_none : (y : ℕ) (found : List ℕ) → count y found ≡ 0 → index y found ≡ 0
index_none y found z = go (index y found) refl
  where
    go : (k : ℕ) → index y found ≡ k → k ≡ 0
    go zero e = refl
    go (suc k) e = absurd (omega (arith, index_found y found (omega arith)))

pub index_zero : (y : ℕ) (found : List ℕ) → index y found ≡ 0 → count y found ≡ 0
index_zero y found z = go (count y found) refl
  where
    go : (k : ℕ) → count y found ≡ k → k ≡ 0
    go zero e = refl
    go (suc k) e = absurd (omega (arith, found_index y found (omega arith)))

pub index_old : (y : ℕ) (more found : List ℕ) → count y more ≡ 0 → index y (more ++ found) ≡ index y found
index_old y [] found h = refl
index_old y (x ∷ more) found h = go (eqb y x) h (index_old y more found)
  where
    go : (b : Bool) → bit b + count y more ≡ 0 → (count y more ≡ 0 → index y (more ++ found) ≡ index y found) → place b (suc (length (more ++ found))) (index y (more ++ found)) ≡ index y found
    go true k ih = absurd (omega arith)
    go false k ih = ih (omega arith)

pub index_new : (y : ℕ) (more found : List ℕ) → In y more → length found < index y (more ++ found)
index_new y [] found h = absurd (omega arith)
index_new y (x ∷ more) found h = go (eqb y x) h (index_new y more found)
  where
    go : (b : Bool) → 1 ≤ bit b + count y more → (In y more → length found < index y (more ++ found)) → length found < place b (suc (length (more ++ found))) (index y (more ++ found))
    go true k ih = omega (arith, length-append more found)
    go false k ih = ih (omega arith)

pub index_same : (y x : ℕ) (found : List ℕ) → y ≡ x → index y (x ∷ found) ≡ suc (length found)
index_same y x found e = ap (λ (b : Bool). place b (suc (length found)) (index y found)) (eq-eqb y x e)

pub index_other : (y x : ℕ) (found : List ℕ) → (y ≡ x → ⊥) → index y (x ∷ found) ≡ index y found
index_other y x found n = ap (λ (b : Bool). place b (suc (length found)) (index y found)) (ne_eqb y x n)

pub index_top : (y x : ℕ) (found : List ℕ) → (y ≡ x) ⊎ (index y (x ∷ found) ≡ index y found)
index_top y x found = by_eq y x (λ e. inl e) (λ n. inr (index_other y x found n))
