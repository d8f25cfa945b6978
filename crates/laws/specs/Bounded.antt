-- An array of n numbers, read and written at any place: past its end it reads 0 and takes no store.
-- (The length of an array that is lent is no part of a contract's list, so the bound stands here.)
use Rattle.std.specs.Prelude.{ℕ, ◌<◌, ◌≡◌, List, ltb, get_or, set}
use Rattle.laws.specs.Choice.{pick}

unfoldable pub get : ℕ → List ℕ → ℕ → ℕ
get n l i = pick (ltb i n) (get_or l i 0) 0

unfoldable pub put : ℕ → List ℕ → ℕ → ℕ → List ℕ
put n l i v = pick (ltb i n) (set l i v) l

-- a number read: which one, and that it is below a limit (a list of numbers has no bound of its own)
pub record Reads (r is below : ℕ) : Type 0 where
  pub same : r ≡ is
  pub small : r < below
