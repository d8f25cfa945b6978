use Rattle.laws.proofs.Bounded.{get_in, get_out}
use Rattle.type_cycle.specs.Skips.{skip_places}
use Rattle.type_cycle.proofs.skips.Skips.at.Goals as goal

pub returns-then-at-lt-CAPACITY : goal.returns-then-at-lt-CAPACITY
returns-then-at-lt-CAPACITY c = rw (← c.place_of-at.ensures) (get_in skip_places _ _ c.if-at-lt-CAPACITY.true)

pub returns-else-at-lt-CAPACITY : goal.returns-else-at-lt-CAPACITY
returns-else-at-lt-CAPACITY c = rw (← c.place_of-at.ensures) (get_out skip_places _ _ c.if-at-lt-CAPACITY.false)
