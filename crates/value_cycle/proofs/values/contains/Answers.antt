use Rattle.value_cycle.proofs.Asks.{items_all, item_found, item_passes, items_over}
use Rattle.value_cycle.proofs.values.contains.Goals as goal

pub loop-k-init : goal.loop-k-init
loop-k-init c = items_all _ _ _ _ c.list_len-k-end.ensures.same

pub returns-then-list_item-w : goal.returns-then-list_item-w
returns-then-list_item-w c = item_found c.loop-k.invariant c.loop-k-test.true c.list_item.ensures.same c.if-list_item-w.true

pub loop-k-preserved : goal.loop-k-preserved
loop-k-preserved c = item_passes c.loop-k.invariant c.loop-k-test.true c.list_item.ensures.same c.if-list_item-w.false

pub returns : goal.returns
returns c = items_over c.loop-k.invariant c.loop-k-test.false
