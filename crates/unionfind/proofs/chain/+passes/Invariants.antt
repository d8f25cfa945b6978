use lib.ListN.{length}
use Rattle.unionfind.specs.Cells.{trail}
use Rattle.unionfind.proofs.chain.+passes.Given as goal

abbrev pub decreases-passes : goal.decreases-passes
decreases-passes l = length (trail l.cells.now l.w)
