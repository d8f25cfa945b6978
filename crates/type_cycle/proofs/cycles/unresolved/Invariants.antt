use Rattle.laws.specs.declared.fault.Fault.TheVariants as fault
use Rattle.std.proofs.Common.{Ok}
use Rattle.laws.proofs.First.{Left}
use Rattle.pack.specs.Answer.{refuse}
use Rattle.type_cycle.specs.Cycles.{resolved, unresolved_of}
use Rattle.type_cycle.proofs.UnresolvedLaws.{Walls}
use Rattle.type_cycle.proofs.cycles.unresolved.Given as goal

abbrev pub invariant-loop-d : goal.invariant-loop-d
invariant-loop-d l =
    Walls l.pack l.c l.search.marks l.search.skips.cells × Left (resolved l.pack l.c) (λ k. refuse fault.Unresolved k 0) (Ok l.c) l.d l.c.definitions (unresolved_of l.pack l.c)
