-- The loop that lists a component.
--     Taking     its invariant: what is listed, and what is still to be listed
-- Assumes nothing.
use Prim.Native.Nat.{ℕ, ◌+◌, ◌<◌}
use mathlib.Core.Path.{◌≡◌}
use mathlib.Core.List.{List, ◌++◌}
use lib.ListN.{length, take, drop, get_or}
use Rattle.laws.specs.Lists.{count}
use Rattle.components.specs.Answers.{over}
use Rattle.tarjan.specs.Values.{capacity}
use Rattle.tarjan.specs.declared.listing.Listing.{Listing}

pub record Taking (members : List ℕ) (a b : Listing) (i : ℕ) : Type 0 where
  pub len_listed : length b.values ≡ capacity
  pub len_sizes : length b.sizes ≡ capacity
  pub length_is : b.length ≡ a.length + i
  pub listed_is : take b.length b.values ++ drop i members ≡ take a.length a.values ++ members
  pub size_is : (y : ℕ) → y < capacity → over (count y (drop i members)) (length members) (get_or b.sizes y 0) ≡ over (count y members) (length members) (get_or a.sizes y 0)
