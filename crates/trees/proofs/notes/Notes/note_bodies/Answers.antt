use Rattle.trees.specs.Nodes.{bodies_of}
use Rattle.trees.proofs.NoteLaws.{left_goes, left_ends, note_single}
use mathlib.Core.Path.{ap, ◌∙◌}
use native.Mathlib.Omega.{arith}
use Rattle.trees.proofs.notes.Notes.note_bodies.Goals as goal

pub loop-i-preserved : goal.loop-i-preserved
loop-i-preserved c = record { hops = c.note.ensures.hops ∙ c.loop-i.invariant.hops; left = left_goes c.loop-i.invariant.left (omega arith) (note_single _ _ (ap (λ r. r.body) c.root_row-root.ensures) c.note.ensures.noted) }

pub returns : goal.returns
returns c = unfold bodies_of in record { noted = left_ends c.loop-i.invariant.left (omega arith); hops = c.loop-i.invariant.hops }
