use Rattle.structure.specs.Tree.{ended, missed}
use Rattle.structure.proofs.tree.ListTrees.find_below.Goals as goal

pub returns-in-None : goal.returns-in-None
returns-in-None c = ended _ c.walk-stop.ensures c.in-None.ensures c.at_end.ensures

pub returns-in-Some : goal.returns-in-Some
returns-in-Some c = missed _ _ c.walk-stop.ensures c.in-Some.ensures c.at_fork.ensures
