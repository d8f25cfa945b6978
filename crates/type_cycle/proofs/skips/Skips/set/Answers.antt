use Rattle.laws.proofs.Bounded.{put_in, put_out}
use Rattle.type_cycle.specs.Skips.{skip_places}
use Rattle.type_cycle.proofs.skips.Skips.set.Goals as goal

pub returns-then-at-lt-CAPACITY : goal.returns-then-at-lt-CAPACITY
returns-then-at-lt-CAPACITY c = rw (← c.place_of-at.ensures) (put_in skip_places _ _ _ c.if-at-lt-CAPACITY.true)

pub returns-else-at-lt-CAPACITY : goal.returns-else-at-lt-CAPACITY
returns-else-at-lt-CAPACITY c = rw (← c.place_of-at.ensures) (put_out skip_places _ _ _ c.if-at-lt-CAPACITY.false)
