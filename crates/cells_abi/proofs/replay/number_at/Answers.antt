use Rattle.std.proofs.Common.{rules}
use Rattle.cells_abi.specs.Script.{number_at}
use Rattle.cells_abi.proofs.replay.number_at.Goals as goal

pub returns : goal.returns
unfolding number_at
returns c = search rules
