use mathlib.Core.Bool.{not}
use Rattle.laws.proofs.First.{Left}
use Rattle.value_cycle.specs.Order.{lists_itself_in, self_at}
use Rattle.value_cycle.proofs.recursive.first_self.Given as goal

abbrev pub invariant-loop-v : goal.invariant-loop-v
invariant-loop-v l = Left (λ k. not (lists_itself_in l.pack l.c k)) (λ k. k) l.c.values l.v l.c.values (self_at l.pack l.c)
