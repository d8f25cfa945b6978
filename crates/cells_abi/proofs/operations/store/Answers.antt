-- The set was done, or refused.
use Rattle.cells_abi.proofs.Stepping.{set_done, set_refused}
use Rattle.cells_abi.proofs.operations.store.Goals as goal

pub returns-in-Ok : goal.returns-in-Ok
returns-in-Ok c = rw c.done.ensures (set_done c.requires c.set.ensures c.in-Ok.is)

pub returns-in-Err : goal.returns-in-Err
returns-in-Err c = rw c.refused.ensures (set_refused c.requires c.set.ensures c.in-Err.is)
