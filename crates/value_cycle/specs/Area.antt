-- "An order writes the values' numbers as listed, 2 bytes each from byte 0 on; big-endian; all else stays."
use Rattle.std.specs.Prelude.{ℕ, ◌*◌, ◌/◌, ◌%◌, ◌≤◌, ◌<◌, ◌≡◌, List, [], ◌∷◌, ◌++◌, length, drop, get_or}
use Rattle.laws.specs.Lists.{gather}
use Rattle.pack.specs.Read.{word_at}
use Rattle.pack.specs.declared.counts.Counts.{Counts}
use Rattle.tarjan.specs.Values.{capacity, InRange}

unfoldable pub bytes_of : List ℕ → List ℕ
bytes_of [] = []
bytes_of (x ∷ xs) = x / 256 ∷ x % 256 ∷ bytes_of xs

unfoldable pub written : List ℕ → List ℕ → List ℕ
unfolding bytes_of
written xs area = bytes_of xs ++ drop (2 * length xs) area

-- the first n numbers of an area, read as they were written
unfoldable pub read_back : List ℕ → ℕ → List ℕ
unfolding gather
read_back area n = gather (λ k. word_at area (2 * k) ∷ []) 0 n

-- the first n of an array are values, and fit into the area
pub record Writes (listed : List ℕ) (n : ℕ) (area : List ℕ) : Type 0 where
  pub len_listed : length listed ≡ capacity
  pub few : n ≤ capacity
  pub long : 2 * n ≤ length area
  pub under : (k : ℕ) → k < n → get_or listed k 0 < capacity

-- what a well-formed pack promises of its values, and an area for their order: "at least 2v"
pub record Orders (p : List ℕ) (c : Counts) (area : List ℕ) : Type 0 where
  pub in_range : InRange p c
  pub long : 2 * c.values ≤ length area
