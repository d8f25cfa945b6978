use Rattle.value_cycle.proofs.Contexts.{asks_constant}
use borrow.Author.Rules.{rules}
use Rattle.value_cycle.proofs.context.constant_uses_context.Goals as goal

pub returns-then-kind_of : goal.returns-then-kind_of
returns-then-kind_of c = search (rules, asks_constant)
