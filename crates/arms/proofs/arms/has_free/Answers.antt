use mathlib.Core.Path.{ap}
use Prim.Native.Nat.{ℕ, ◌*◌}
use Rattle.names.proofs.Items.{next_is}
use Rattle.arms.proofs.Covering.{free_begins, free_goes, free_stops, free_ends}
use native.Mathlib.Omega.{arith}
use Rattle.arms.proofs.arms.has_free.Goals as goal

pub overflow_mul-n : goal.overflow_mul-n
overflow_mul-n c = omega (arith, c.list_len-n.ensures.small)

pub next_item-k-requires : goal.next_item-k-requires
next_item-k-requires c = (c.requires, omega arith, omega (arith, c.list_len-n.ensures.small))

pub loop-k-init : goal.loop-k-init
loop-k-init c = free_begins _ _ _ _ c.next_item-k.ensures

pub is_free-requires : goal.is_free-requires
is_free-requires c = omega (arith, c.list_len-n.ensures.small)

pub returns-then-is_free : goal.returns-then-is_free
returns-then-is_free c = free_stops _ _ _ _ c.loop-k.invariant (omega arith) c.is_free.ensures _ (ap (λ (x : ℕ). 2 * x) c.list_len-n.ensures.same) c.if-is_free.true

pub overflow_add-k : goal.overflow_add-k
overflow_add-k c = omega (arith, c.list_len-n.ensures.small)

pub next_item-k-requires-in-loop-k : goal.next_item-k-requires-in-loop-k
next_item-k-requires-in-loop-k c = (c.requires, omega arith, omega (arith, c.list_len-n.ensures.small))

pub loop-k-smaller : goal.loop-k-smaller
loop-k-smaller c = omega (arith, (next_is _ _ _ _ _ _ (omega arith) c.next_item-k-in-loop-k.ensures).low)

pub loop-k-preserved : goal.loop-k-preserved
loop-k-preserved c = free_goes _ _ _ _ c.loop-k.invariant (omega arith) c.is_free.ensures c.if-is_free.false c.next_item-k-in-loop-k.ensures

pub returns : goal.returns
returns c = free_ends _ _ _ _ _ c.loop-k.invariant (omega arith) (ap (λ (x : ℕ). 2 * x) c.list_len-n.ensures.same)
