use Rattle.structure.specs.Tree.{below}
use Rattle.structure.proofs.tree.ListTrees.find.Goals as goal

pub returns-in-Some : goal.returns-in-Some
returns-in-Some c = below _ c.in-Some.ensures c.find_below.ensures
