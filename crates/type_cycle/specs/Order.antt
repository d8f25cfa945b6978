-- What the passes over all definitions promise each other.
use Rattle.std.specs.Prelude.{ℕ, Bool, ◌<◌, ◌≤◌, ◌≡◌, true, false, List, length, get_or, Option, MatchOption}
use Rattle.laws.specs.Lists.{In}
use Rattle.pack.specs.Named.{parts_of}
use Rattle.pack.specs.declared.counts.Counts.{Counts}
use Rattle.type_cycle.specs.Graph.{at_name, places, Round}
use Rattle.type_cycle.specs.Cycles.{on_cycle}
use Rattle.type_cycle.specs.Search.{Seen, Ready}

-- what rows without a fault give
pub record Good (p : List ℕ) (c : Counts) : Type 0 where
  pub ready : Ready p c
  pub smaller : (t u : ℕ) → t < c.types → In u (parts_of p c t) → u < t

-- the first k definitions have a mark, and nothing else has
pub record Walled (k : ℕ) (marks : List Bool) : Type 0 where
  pub long : length marks ≡ places
  pub names : (d : ℕ) → d < k → Seen marks (at_name d)
  pub only : (x : ℕ) → Seen marks x → (d : ℕ) × (d < k) × (x ≡ at_name d)

-- All definitions are listed; one that leads to a later one leads to itself.
pub record Order (p : List ℕ) (c : Counts) (order : List ℕ) (n : ℕ) : Type 0 where
  pub few : n ≤ places
  pub listed : (d : ℕ) → d < c.definitions → (i : ℕ) × (i < n) × (get_or order i 0 ≡ d)
  pub before : (i j : ℕ) → i < j → j < n → Round p c (at_name (get_or order i 0)) (at_name (get_or order j 0)) → Round p c (at_name (get_or order i 0)) (at_name (get_or order i 0))

-- no definition below low lies on a cycle
pub record NoneBelow (p : List ℕ) (c : Counts) (low : ℕ) : Type 0 where
  pub each : (d : ℕ) → d < low → on_cycle p c d ≡ false

-- one of the first m that lies on a cycle, or nothing where none does
abbrev pub Sought : List ℕ → Counts → ℕ → Option ℕ → Type 0
Sought p c m r = MatchOption r ((d : ℕ) → d < m → on_cycle p c d ≡ false) (λ d. (d < m) × (on_cycle p c d ≡ true))

pub record Smallest (p : List ℕ) (c : Counts) (r : ℕ) : Type 0 where
  pub inside : r < c.definitions
  pub cyclic : on_cycle p c r ≡ true
  pub first : (d : ℕ) → d < r → on_cycle p c d ≡ false
