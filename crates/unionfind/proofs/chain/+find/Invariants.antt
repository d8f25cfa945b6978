use lib.ListN.{length}
use Rattle.unionfind.specs.Cells.{trail}
use Rattle.unionfind.proofs.chain.+find.Given as goal

abbrev pub decreases-find : goal.decreases-find
decreases-find l = length (trail l.cells.now l.v)
