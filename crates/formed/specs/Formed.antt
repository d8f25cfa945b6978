-- "Order: 1 to 6; then rows in table order, per row 10, 11, 14; then 12, 15, 13 over all; a pack past these is well-formed."
-- (5 and 6 are asked by the entries that have a root number or a result area.)
use Rattle.std.specs.Prelude.{ℕ, List}
use Rattle.laws.specs.Answers.{after}
use Rattle.laws.specs.Faults.{passes}
use Rattle.pack.specs.Answer.{Reading}
use Rattle.pack.specs.Header.{counts_of, header_of}
use Rattle.pack.specs.declared.counts.Counts.{Counts}
use Rattle.rows.specs.Tables.{rows_of}
use Rattle.trees.specs.Nodes.{nodes_of}
use Rattle.trees.specs.declared.node_test.NodeTest.TheVariants.{UsedOnce, LetStated, Shallow}

-- "then 12, 15, 13 over all"
unfoldable pub trees_of : List ℕ → Counts → Reading
trees_of p c = after passes (nodes_of p c UsedOnce) (after passes (nodes_of p c LetStated) (nodes_of p c Shallow))

-- what follows the header
unfoldable pub body_of : List ℕ → Counts → Reading
body_of p c = after passes (rows_of p c) (trees_of p c)

unfoldable pub formed_of : List ℕ → Reading
formed_of p = after passes (header_of p) (body_of p (counts_of p))
