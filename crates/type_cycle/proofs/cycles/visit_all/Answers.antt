use Rattle.type_cycle.proofs.OrderLaws.{list_starts, list_goes, list_ends}
use Rattle.type_cycle.proofs.cycles.visit_all.Goals as goal

pub loop-d-init : goal.loop-d-init
loop-d-init c = list_starts _ c.requires c.empty-search.ensures

pub loop-d-preserved : goal.loop-d-preserved
loop-d-preserved c = list_goes c.loop-d.invariant c.visit_name.ensures

pub returns : goal.returns
returns c = list_ends c.loop-d.invariant c.loop-d-test.false
