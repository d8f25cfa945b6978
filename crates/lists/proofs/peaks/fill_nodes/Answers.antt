use Rattle.lists.proofs.PeakLaws.{kept_more, node_more}
use native.Mathlib.Omega.{arith}
use Rattle.lists.proofs.peaks.fill_nodes.Goals as goal

pub loop-y-preserved : goal.loop-y-preserved
loop-y-preserved c = (omega arith, omega arith, node_more c.loop-y.invariant.2 _ _ (omega arith) (omega arith) (omega (arith, c.loop-y.invariant.3.long, c.requires.1.long)) c.max.ensures, kept_more c.loop-y.invariant.3 _ _ (omega arith))
