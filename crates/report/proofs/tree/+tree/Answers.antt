use mathlib.Core.Path.{sym, ap, ◌∙◌}
use native.Mathlib.Omega.{arith}
use Rattle.std.proofs.Common.{option_to_list}
use Rattle.report.proofs.Writing.{tree_starts, tree_absent, tree_kid, tree_ends, tree_long, tree_written, tree_none, written_length, wrote_long}
use Rattle.report.proofs.tree.+tree.Goals as goal
use Rattle.report.proofs.tree.+tree.Goals.{write_kids-in-Some, write_kids-in_default}

-- ---- write_kids

pub write_kids-loop-k-init : goal.write_kids-loop-k-init
write_kids-loop-k-init t c = tree_starts _ _ _ _ c.kids_room-k-end.ensures.same c.requires _

pub write_kids-kid_at-requires : goal.write_kids-kid_at-requires
write_kids-kid_at-requires t c = omega (arith, c.loop-k-test.true, c.kids_room-k-end.ensures.small)

pub write_kids-write_tree-requires : goal.write_kids-write_tree-requires
write_kids-write_tree-requires t c = (omega (arith, c.decreases), c.loop-k.invariant.held)

pub write_kids-loop-k-preserved : goal.write_kids-loop-k-preserved
write_kids-loop-k-preserved t c =
    elim c.match-kid_at.branch [
      | write_kids-in-Some w ↦ rw (w.cells-is, w.notes-is, w.area-is) (tree_kid c.loop-k.invariant c.loop-k-test.true _ (sym c.kid_at.ensures ∙ ap option_to_list w.in-Some.is) w.write_tree.ensures)
      | write_kids-in_default w ↦ rw (w.cells-is, w.notes-is, w.area-is) (tree_absent c.loop-k.invariant c.loop-k-test.true (sym c.kid_at.ensures ∙ ap option_to_list w.in_default.is))
    ]

pub write_kids-shape_of-area : goal.write_kids-shape_of-area
write_kids-shape_of-area t c = tree_long c.loop-k.invariant ∙ written_length _ _

pub write_kids-returns : goal.write_kids-returns
write_kids-returns t c = tree_ends c.loop-k.invariant (omega (arith, c.loop-k-test.false))

-- ---- write_tree

pub write_tree-returns-then-depth-eq0 : goal.write_tree-returns-then-depth-eq0
write_tree-returns-then-depth-eq0 t c = tree_none _ _ _ _ c.requires _ c.if-depth-eq0.true

pub write_tree-write_one-requires : goal.write_tree-write_one-requires
write_tree-write_one-requires t c = c.requires

pub write_tree-write_kids-requires : goal.write_tree-write_kids-requires
write_tree-write_kids-requires t c = (omega (arith, c.decreases, c.if-depth-eq0.false), c.write_one.ensures.held)

pub write_tree-shape_of-area : goal.write_tree-shape_of-area
write_tree-shape_of-area t c = wrote_long _ _ (tree_written _ _ _ _ _ c.if-depth-eq0.false c.write_one.ensures c.expression_row-row.ensures c.write_kids.ensures)

pub write_tree-returns : goal.write_tree-returns
write_tree-returns t c = tree_written _ _ _ _ _ c.if-depth-eq0.false c.write_one.ensures c.expression_row-row.ensures c.write_kids.ensures
