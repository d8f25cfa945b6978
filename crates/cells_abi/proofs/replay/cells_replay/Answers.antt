use mathlib.Core.Path.{refl, ◌∙◌}
use Rattle.cells_abi.proofs.Replaying.{begins, goes, ends, told_length}
use native.Mathlib.Omega.{arith}
use Rattle.cells_abi.proofs.replay.cells_replay.Goals as goal

pub loop-i-init : goal.loop-i-init
loop-i-init c = (begins _ _ _ c.empty-u.ensures, (rw c.empty-u.ensures.none c.empty-u.ensures.live, refl))

pub step-n-requires : goal.step-n-requires
step-n-requires c = c.loop-i.invariant.1.0

pub loop-i-preserved : goal.loop-i-preserved
loop-i-preserved c = (goes _ _ (omega arith) c.loop-i.invariant.0 c.step-n.ensures, (c.step-n.ensures.live, told_length c.step-n.ensures ∙ c.loop-i.invariant.1.1))

pub shape_of-answers : goal.shape_of-answers
shape_of-answers c = c.loop-i.invariant.1.1

pub returns : goal.returns
returns c = ends _ _ (omega arith) c.loop-i.invariant.0
