use lib.ListN.{length}
use Rattle.unionfind.specs.Cells.{trail}
use Rattle.unionfind.proofs.chain.+find_ref.Given as goal

abbrev pub decreases-find_ref : goal.decreases-find_ref
decreases-find_ref l = length (trail l.cells.now l.v)
