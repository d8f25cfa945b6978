use Rattle.std.proofs.Common.{Ok}
use Rattle.laws.proofs.First.{Left}
use Rattle.pack.specs.Answer.{refuse}
use Rattle.trees.specs.Nodes.{node_fits, test_fault, nodes_of}
use Rattle.formed.proofs.whole.nodes.Given as goal

abbrev pub invariant-loop-e : goal.invariant-loop-e
invariant-loop-e l = Left (node_fits l.pack l.c l.test) (λ k. refuse (test_fault l.test) k 0) (Ok l.c) l.e l.c.expressions (nodes_of l.pack l.c l.test)
