-- The code of a type row is one of a tag below 8.
-- Assumes nothing.
use Prim.Native.Nat.{ℕ, ◌%◌, ◌<◌}
use mathlib.Core.Bool.{Bool}
use mathlib.Core.List.{List}
use native.Mathlib.Omega.{arith}
use lib.Dec.{eqb, ltb}
use Rattle.pack.specs.Rows.{type_row}
use Rattle.pack.specs.declared.counts.Counts.{Counts}
use Rattle.unionfind.specs.Codes.{numbers, code, row_tag, codes}
use Rattle.structure.specs.Structure.{number_of}
use Rattle.structure.specs.Table.{entry}
use Rattle.structure.specs.Types.{var_code, plain_code, is_bare, code_for, code_in}
use Rattle.structure.proofs.Reading.{number_of_small}
use Rattle.laws.proofs.Choice.{pick_all}

abbrev Small : ℕ → Type 0
Small x = x < codes

module _ (kind number : ℕ) (small : number < numbers) where
  var_below : (other : ℕ) → other < codes → var_code kind number other < codes
  unfolding var_code
  var_below other h = pick_all Small (eqb kind 7) (omega arith) (pick_all Small (eqb kind 8) (omega arith) (pick_all Small (eqb kind 9) (omega arith) h))

  plain_below : (bare : Bool) (other : ℕ) → other < codes → plain_code kind number bare other < codes
  unfolding plain_code
  plain_below bare other h =
      pick_all Small (eqb kind 0) (omega arith)
      (pick_all Small (eqb kind 1) (omega arith)
      (pick_all Small (eqb kind 2) (omega arith)
      (pick_all Small bare (omega arith) h)))

pub code_small : (p : List ℕ) (c : Counts) (same : List ℕ) (i : ℕ) → code_in p c same i < codes
unfolding code_in code_for
code_small p c same i =
    pick_all Small (ltb i c.types)
    (plain_below (type_row p i).kind (number_of (type_row p i)) (number_of_small p i) (is_bare p c (type_row p i)) _
    (var_below (type_row p i).kind (number_of (type_row p i)) (number_of_small p i) (code row_tag (entry same i % numbers)) (omega arith)))
    (omega arith)
