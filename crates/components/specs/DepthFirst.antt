-- The plain depth-first walk: which values are discovered in which order, and in which order they finish. No components yet.
use Rattle.std.specs.Prelude.{List, [], ◌∷◌}
use Prim.Native.Nat.{ℕ, zero, suc}
use Rattle.components.specs.Found.{index, below}

-- discovered, and finished; the last one first
pub record Seen : Type 0 where
  pub found : List ℕ
  pub finished : List ℕ

abbrev pub nothing : Seen
nothing = record { found = []; finished = [] }

-- a value of that index is met: it is walked from where it is not found yet
unfoldable pub meet : (ℕ → Seen → Seen) → ℕ → Seen → ℕ → Seen
meet enter w s zero = enter w s
meet enter w s (suc i) = s

unfoldable pub meet_all : (ℕ → Seen → Seen) → List ℕ → Seen → Seen
unfolding meet
meet_all enter [] s = s
meet_all enter (w ∷ ws) s = meet_all enter ws (meet enter w s (index w s.found))

abbrev pub finish : ℕ → Seen → Seen
finish x s = record { found = s.found; finished = x ∷ s.finished }

module _ (refs : ℕ → List ℕ) where
  -- x is discovered, its references are met as listed, and it finishes; the first argument is how many values may still be discovered
  unfoldable pub enter : ℕ → ℕ → Seen → Seen
  unfolding meet_all
  enter zero x s = s
  enter (suc f) x s = finish x (meet_all (enter f) (refs x) (record { found = x ∷ s.found; finished = s.finished }))

  -- "values and references rising"
  unfoldable pub depth_first : ℕ → Seen
  unfolding enter meet_all
  depth_first n = meet_all (enter n) (below n 0) nothing

  -- the values that a walk from v leads to, where there are n values
  unfoldable pub reached : ℕ → ℕ → List ℕ
  unfolding enter meet_all
  reached n v = (meet_all (enter n) (refs v) nothing).found
