use Rattle.pack.specs.Named.{items_of}
use Rattle.slots.specs.Slots.{close_list}
use Rattle.slots.proofs.Steps.{shut_starts, shut_goes, shut_ends}
use Rattle.slots.proofs.close.close_list.Goals as goal

pub loop-k-init : goal.loop-k-init
unfolding close_list items_of
loop-k-init c = shut_starts _ _ c.list_len-k-end.ensures.same

pub loop-k-preserved : goal.loop-k-preserved
loop-k-preserved c = shut_goes c.loop-k.invariant c.loop-k-test.true (rw c.list_item.ensures.same at c.close_slot.ensures)

pub returns : goal.returns
returns c = shut_ends c.loop-k.invariant c.loop-k-test.false
