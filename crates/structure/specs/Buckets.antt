-- Rows below i in chains, so that a search looks only at those whose value falls into the same bucket. A head and a link hold one more than
-- a row, or 0; links lead to smaller rows.
use Rattle.std.specs.Prelude.{◌≡◌, List, ℕ, ◌-◌, ◌%◌, ◌<◌, ◌≤◌, length}
use Rattle.laws.specs.Bounded.{get}
use Rattle.structure.specs.Structure.{rows}
use Rattle.structure.specs.Table.{entry}
use Rattle.structure.specs.declared.buckets.Chains.{Chains}

-- a prime
abbrev pub buckets : ℕ
buckets = 4093

unfoldable pub bucket_of : ℕ → ℕ
bucket_of x = x % buckets

abbrev pub head_at : List ℕ → ℕ → ℕ
head_at heads b = get buckets heads b

-- n rows at most, of which row k has the value x k; no row between two links, or after a head, falls into their bucket
pub record Links (n : ℕ) (x : ℕ → ℕ) (heads nexts : List ℕ) (i : ℕ) : Type 0 where
  pub size_heads : length heads ≡ buckets
  pub size_nexts : length nexts ≡ n
  pub head_low : (b : ℕ) → head_at heads b ≤ i
  pub head_same : (b : ℕ) → (head_at heads b ≡ 0 → ⊥) → bucket_of (x (head_at heads b - 1)) ≡ b
  pub head_past : (b k : ℕ) → b < buckets → k < i → head_at heads b ≤ k → bucket_of (x k) ≡ b → ⊥
  pub next_low : (k : ℕ) → k < i → get n nexts k ≤ k
  pub next_same : (k : ℕ) → k < i → (get n nexts k ≡ 0 → ⊥) → bucket_of (x (get n nexts k - 1)) ≡ bucket_of (x k)
  pub next_past : (k l : ℕ) → k < i → get n nexts k ≤ l → l < k → bucket_of (x l) ≡ bucket_of (x k) → ⊥

-- rows of the table, each with its key
pub record Chained (c : Chains) (i : ℕ) : Type 0 where
  pub size : length c.keys ≡ rows
  pub links : Links rows (entry c.keys) c.heads c.nexts i
