use Rattle.slots.proofs.Codes.{code_small}
use Rattle.slots.proofs.Steps.{open_starts, open_goes, open_stops, open_ends}
use Rattle.slots.proofs.open.open_each.Goals as goal

pub loop-k-init : goal.loop-k-init
loop-k-init g c = open_starts _ _ _ c.list_len-k-end.ensures.same

pub open_slot-requires : goal.open_slot-requires
open_slot-requires g c = rw c.type_code-code.ensures (code_small _ _ _ _)

pub loop-k-preserved : goal.loop-k-preserved
loop-k-preserved g c = open_goes c.loop-k.invariant c.loop-k-test.true c.list_item-a.ensures.same (rw c.list_item.ensures.same at c.type_code-code.ensures) c.open_slot.ensures.0 c.open_slot.ensures.1 c.if-not-open_slot.false

pub returns-then-not-open_slot : goal.returns-then-not-open_slot
returns-then-not-open_slot g c = open_stops c.loop-k.invariant c.loop-k-test.true c.list_item-a.ensures.same (rw c.list_item.ensures.same at c.type_code-code.ensures) c.open_slot.ensures.0 c.open_slot.ensures.1 c.if-not-open_slot.true

pub returns : goal.returns
returns g c = open_ends c.loop-k.invariant c.loop-k-test.false
