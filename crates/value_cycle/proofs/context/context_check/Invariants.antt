use mathlib.Core.Bool.{not}
use Rattle.laws.proofs.First.{Left}
use Rattle.pack.specs.Named.{refs_of}
use Rattle.components.specs.Answers.{uses_context}
use Rattle.tarjan.specs.Values.{kind_of}
use Rattle.value_cycle.specs.Context.{Sized, Clear}
use Rattle.value_cycle.specs.Order.{context_at}
use Rattle.value_cycle.proofs.context.context_check.Given as goal

abbrev pub invariant-loop-v : goal.invariant-loop-v
invariant-loop-v l =
    Sized l.visited × Clear l.pack l.c l.visited × Left (λ k. not (uses_context (kind_of l.pack l.c) (refs_of l.pack l.c) l.c.values k)) (λ k. k) l.c.values l.v l.c.values (context_at l.pack l.c)
