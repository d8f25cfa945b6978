use Rattle.value_cycle.proofs.Areas.{Writing}
use Rattle.value_cycle.proofs.area.write_order.Given as goal

abbrev pub invariant-loop-k : goal.invariant-loop-k
invariant-loop-k l = Writing l.listing.values l.n l.initial.area l.area l.k
