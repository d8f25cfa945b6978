-- "A depth-first walk, values and references rising, numbers discoveries": the values found so far, the last one first.
use Rattle.std.specs.Prelude.{Bool, true, false, List, [], ◌∷◌, ℕ, zero, suc, eqb, length}

abbrev pub place : Bool → ℕ → ℕ → ℕ
place true here below = here
place false here below = below

-- the number of y's discovery, from 1 on; 0 where it is not found yet
abbrev pub index : ℕ → List ℕ → ℕ
index y [] = 0
index y (x ∷ found) = place (eqb y x) (suc (length found)) (index y found)

-- the n values from k on
abbrev pub below : ℕ → ℕ → List ℕ
below zero k = []
below (suc n) k = k ∷ below n (suc k)

-- xs is a part of ys: what is left of ys where some are taken out
pub data Part : List ℕ → List ℕ → Type 0 where
  none : Part [] []
  skip : {xs ys : List ℕ} (y : ℕ) → Part xs ys → Part xs (y ∷ ys)
  keep : {xs ys : List ℕ} (y : ℕ) → Part xs ys → Part (y ∷ xs) (y ∷ ys)
