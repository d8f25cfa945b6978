use Rattle.std.proofs.Common.{Err}
use mathlib.Core.Path.{ap}
use Rattle.value_cycle.proofs.Outcomes.{refused₅₀, refused₅₁, refused₅₂, all_listed, writes}
use Rattle.value_cycle.proofs.whole.find_compilation_order.Goals as goal

pub returns-in-Some : goal.returns-in-Some
returns-in-Some c = refused₅₀ c.requires c.in-Some.ensures (ap Err c.at.ensures)

pub returns-in-Some-first_looped : goal.returns-in-Some-first_looped
returns-in-Some-first_looped c = refused₅₁ c.requires c.in_default.ensures c.in-Some-first_looped.ensures (ap Err c.at-in-Some-first_looped.ensures)

pub returns-in-Some-context_check : goal.returns-in-Some-context_check
returns-in-Some-context_check c = refused₅₂ c.requires c.in_default.ensures c.in_default-first_looped.ensures c.in-Some-context_check.ensures (ap Err c.at-in-Some-context_check.ensures)

pub write_order-requires : goal.write_order-requires
write_order-requires c = writes c.requires c.tarjan-search.ensures

pub returns : goal.returns
returns c = all_listed c.requires c.in_default.ensures c.in_default-first_looped.ensures c.in_default-context_check.ensures c.tarjan-search.ensures c.write_order.ensures
