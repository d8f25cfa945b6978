-- `write_tree` and `write_kids` call each other: the levels left fall.
-- the children from place k on are left
use Prim.Native.Nat.{◌+◌, ◌*◌}
use Rattle.report.specs.Kids.{kid_at}
use Rattle.report.specs.Visits.{tree_of}
use Rattle.report.specs.Report.{rep, write_all, kids_trees}
use Rattle.report.proofs.Writing.{TreeLeft}
use Rattle.report.proofs.tree.+tree.Given as goal

abbrev pub decreases-write_kids : goal.decreases-write_kids
decreases-write_kids l = 2 * l.depth + 1

abbrev pub decreases-write_tree : goal.decreases-write_tree
decreases-write_tree l = 2 * l.depth

abbrev pub invariant-write_kids-loop-k : goal.invariant-write_kids-loop-k
invariant-write_kids-loop-k l = TreeLeft l.n (tree_of l.depth l.pack l.c) (kid_at l.pack l.c l.row) l.k l.k-end (write_all (kids_trees l.depth l.pack l.c l.row) (rep l.initial.cells l.initial.notes l.initial.area)) l.cells l.notes l.area
