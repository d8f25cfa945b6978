-- The three numbers that were read, the operation, the two that were written.
use Rattle.cells_abi.proofs.Replaying.{told}
use Rattle.cells_abi.proofs.replay.step.Goals as goal

pub returns : goal.returns
returns c = told _ _ _ _ _ c.number_at-op.ensures c.number_at-v.ensures c.number_at-x.ensures c.operate-s.ensures c.put_number.ensures c.put_number-2.ensures
