-- Lists of numbers: how often one stands in a list, and lists put together place by place.
use Rattle.std.specs.Prelude.{ℕ, zero, suc, ◌+◌, ◌≤◌, Bool, true, false, List, [], ◌∷◌, ◌++◌, eqb}

-- 1 where the test holds, else 0
abbrev pub bit : Bool → ℕ
bit true = 1
bit false = 0

-- how often y stands in a list
abbrev pub count : ℕ → List ℕ → ℕ
count y [] = 0
count y (x ∷ xs) = bit (eqb y x) + count y xs

-- y stands in the list
abbrev pub In : ℕ → List ℕ → Type 0
In y xs = 1 ≤ count y xs

-- the lists of the n places from i on, one after the other
unfoldable pub gather : (ℕ → List ℕ) → ℕ → ℕ → List ℕ
gather f i zero = []
gather f i (suc n) = f i ++ gather f (suc i) n
