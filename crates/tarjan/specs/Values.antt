-- The values of a pack: "kind 2 (0 constant, 1 function, 2 context, 3 other), zero 16, list 14 of the values it references".
use Rattle.std.specs.Prelude.{ℕ, ◌≤◌, List}
use Rattle.pack.specs.Named.{refs_of}
use Rattle.pack.specs.Rows.{value_row}
use Rattle.pack.specs.declared.counts.Counts.{Counts}
use Rattle.components.specs.Walks.{Fits}

-- "values v ≤ 1,024"
abbrev pub capacity : ℕ
capacity = 1024

abbrev pub kind_of : List ℕ → Counts → ℕ → ℕ
kind_of p c v = (value_row p c v).kind

-- where the list of its references starts
abbrev pub list_of : List ℕ → Counts → ℕ → ℕ
list_of p c v = (value_row p c v).list

-- what a well-formed pack promises of its values
pub record InRange (p : List ℕ) (c : Counts) : Type 0 where
  pub few : c.values ≤ capacity
  pub fits : Fits (refs_of p c) c.values
