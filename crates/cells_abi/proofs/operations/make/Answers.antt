-- A code was made, or there was no room.
use Rattle.cells_abi.proofs.Stepping.{made_code, made_none}
use Rattle.cells_abi.proofs.operations.make.Goals as goal

pub returns-in-Ok : goal.returns-in-Ok
returns-in-Ok c = rw c.done.ensures (made_code c.fresh.ensures c.in-Ok.is)

pub returns-in-Err : goal.returns-in-Err
returns-in-Err c = rw c.refused.ensures (made_none c.fresh.ensures c.in-Err.is)
