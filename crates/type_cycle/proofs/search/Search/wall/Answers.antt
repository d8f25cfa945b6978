use Rattle.type_cycle.proofs.UnresolvedLaws.{wall_starts, wall_goes}
use mathlib.Core.Path.{refl}
use native.Mathlib.Omega.{arith}
use Rattle.type_cycle.proofs.search.Search.wall.Goals as goal

pub loop-at-init : goal.loop-at-init
loop-at-init c = (omega arith, omega arith, wall_starts 2048 refl c.requires, refl)

pub loop-at-preserved : goal.loop-at-preserved
loop-at-preserved c = (omega arith, omega arith, wall_goes c.loop-at.at c.loop-at.invariant.0 c.loop-at-test.true c.loop-at.invariant.2, c.loop-at.invariant.3)
