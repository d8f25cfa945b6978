-- `write_one`: a node with room for its word, or without.
use native.Mathlib.Omega.{arith}
use Rattle.report.proofs.Writing.{one_written, one_passed, node_length}
use Rattle.report.proofs.tree.write_one.Goals as goal

pub write_node-requires : goal.write_node-requires
write_node-requires c = (c.requires.live, (rw c.note_at-note.ensures (c.requires.known _), omega (arith, c.if-id-area.true)))

pub shape_of-area : goal.shape_of-area
shape_of-area c = node_length c.write_node.ensures

pub returns-then-id-area : goal.returns-then-id-area
returns-then-id-area c = one_written c.requires _ _ (omega (arith, c.if-id-area.true)) c.note_at-note.ensures c.write_node.ensures c.put_note.ensures

pub returns-else-id-area : goal.returns-else-id-area
returns-else-id-area c = one_passed c.requires _ _ (omega (arith, c.if-id-area.false))
