use Rattle.unionfind.proofs.States.{makes, makes_none}
use Rattle.unionfind.proofs.store.fresh.Goals as goal

-- `fresh`: a variable's own code in its cell, or 37.
pub returns-then-n-lt-CAPACITY : goal.returns-then-n-lt-CAPACITY
returns-then-n-lt-CAPACITY c = rw c.own_code-x.ensures (makes c.requires _ c.if-n-lt-CAPACITY.true)

pub returns : goal.returns
returns c = rw c.at.ensures (makes_none c.requires _ c.if-n-lt-CAPACITY.false)
