use Rattle.laws.proofs.Bounded.{put_in, put_out}
use Rattle.type_cycle.specs.Graph.{places}
use mathlib.Core.Path.{refl}
use native.Mathlib.Omega.{arith}
use Rattle.type_cycle.proofs.search.Listing.push.Goals as goal

pub returns-then-self-lt-CAPACITY : goal.returns-then-self-lt-CAPACITY
returns-then-self-lt-CAPACITY c = record { stored = put_in places _ _ _ c.if-self-lt-CAPACITY.true; more = λ h. refl; most = omega arith }

pub returns-else-self-lt-CAPACITY : goal.returns-else-self-lt-CAPACITY
returns-else-self-lt-CAPACITY c = record { stored = put_out places _ _ _ c.if-self-lt-CAPACITY.false; more = λ h. absurd (omega arith); most = omega arith }
