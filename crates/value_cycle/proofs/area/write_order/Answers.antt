use mathlib.Core.Path.{refl}
use Rattle.value_cycle.proofs.Areas.{write_start, write_turn, write_end}
use Rattle.value_cycle.proofs.area.write_order.Goals as goal

pub loop-k-init : goal.loop-k-init
loop-k-init c = write_start c.requires

pub loop-k-preserved : goal.loop-k-preserved
loop-k-preserved c = write_turn c.loop-k.invariant c.loop-k-test.true refl

pub returns : goal.returns
returns c = write_end c.loop-k.invariant c.loop-k-test.false
