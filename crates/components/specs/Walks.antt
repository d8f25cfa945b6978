-- What document 01 says of values and the values that they reference: walks, and what stands before what.
-- The order is held to this account; the search of Tarjan.antt is how it is found.
use Rattle.std.specs.Prelude.{◌≡◌, ◌⊎◌, List, ◌++◌, ℕ, ◌<◌}
use Rattle.laws.specs.Lists.{In}

-- `refs a` is the list of the values that a references
module _ (refs : ℕ → List ℕ) where
  -- a references b
  abbrev pub Edge : ℕ → ℕ → Type 0
  Edge a b = In b (refs a)

  -- one or more references in a row
  pub data Walk : ℕ → ℕ → Type 0 where
    one : {a b : ℕ} → Edge a b → Walk a b
    more : {a b c : ℕ} → Edge a b → Walk b c → Walk a c

  -- none or more
  abbrev pub Reach : ℕ → ℕ → Type 0
  Reach a b = (a ≡ b) ⊎ Walk a b

-- every value that a value below n references is below n
abbrev pub Fits : (ℕ → List ℕ) → ℕ → Type 0
Fits refs n = (a : ℕ) → a < n → (b : ℕ) → Edge refs a b → b < n

-- b stands before a in a list
abbrev pub Before : ℕ → ℕ → List ℕ → Type 0
Before b a xs = (p : List ℕ) × (q : List ℕ) × (xs ≡ p ++ q) × In b p × In a q
