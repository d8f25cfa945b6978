use Rattle.trees.proofs.NoteLaws.{left_passed, left_ends}
use native.Mathlib.Omega.{arith}
use Rattle.trees.proofs.notes.Notes.note_list.Goals as goal

pub loop-k-preserved : goal.loop-k-preserved
loop-k-preserved c = (left_passed c.loop-k.invariant.0 (omega (arith, c.list_len-n.ensures.same)) c.note_some-passed.ensures.some c.note_some-passed.ensures.leaves, c.note_some-passed.ensures.kept)

pub returns : goal.returns
returns c = record { is = left_ends c.loop-k.invariant.0 (omega (arith, c.list_len-n.ensures.same)); kept = c.loop-k.invariant.1 }
