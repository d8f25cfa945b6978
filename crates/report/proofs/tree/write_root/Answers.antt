-- `write_root`: the words along the tree, then no variable in use.
use mathlib.Core.Path.{ap}
use Rattle.report.specs.Report.{reported}
use Rattle.report.proofs.Writing.{wrote_long}
use Rattle.report.proofs.tree.write_root.Goals as goal

pub unset_cells-requires : goal.unset_cells-requires
unset_cells-requires c = c.write_tree.ensures.held.live

pub shape_of-area : goal.shape_of-area
shape_of-area c = wrote_long _ _ c.write_tree.ensures

pub returns : goal.returns
returns c = rw c.unset_cells.ensures (ap reported c.write_tree.ensures.same)
