use Rattle.structure.proofs.Arrays.{clear}
use Rattle.structure.proofs.table.TypeTable.empty.Goals as goal

pub returns : goal.returns
returns c = (clear, clear)
