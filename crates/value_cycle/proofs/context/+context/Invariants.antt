-- The measures of the cycle.
use Prim.Native.Nat.{◌+◌, ◌*◌}
use Rattle.value_cycle.proofs.Contexts.{Searching}
use Rattle.value_cycle.specs.Context.{unvisited}
use Rattle.value_cycle.proofs.context.+context.Given as goal

abbrev pub decreases-any_uses_context : goal.decreases-any_uses_context
decreases-any_uses_context l = 2 * unvisited l.visited.now + 1

abbrev pub decreases-determine_uses_context : goal.decreases-determine_uses_context
decreases-determine_uses_context l = 2 * unvisited l.visited.now

abbrev pub invariant-any_uses_context-loop-k : goal.invariant-any_uses_context-loop-k
invariant-any_uses_context-loop-k l = Searching l.pack l.c l.s l.initial.visited l.k-end l.visited l.k
