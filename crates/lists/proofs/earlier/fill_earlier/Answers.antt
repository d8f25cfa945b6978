use Rattle.lists.proofs.NameLaws.{met_none, met_more}
use native.Mathlib.Omega.{arith}
use Rattle.lists.proofs.earlier.fill_earlier.Goals as goal

pub loop-j-init : goal.loop-j-init
loop-j-init c = (omega arith, met_none _ _ c.requires.1 c.told-places)

pub loop-j-preserved : goal.loop-j-preserved
loop-j-preserved c = (omega arith, met_more c.loop-j.invariant.1 c.key-mark.ensures.same c.key-mark.ensures.small (omega (arith, c.region-n.ensures)))
