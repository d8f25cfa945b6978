use Rattle.type_cycle.proofs.OrderLaws.{refused_at, none_refused}
use Rattle.std.proofs.Common.{Err}
use mathlib.Core.Path.{ap, ◌∙◌}
use Rattle.type_cycle.proofs.cycles.cycle.Goals as goal

pub returns-in-Some : goal.returns-in-Some
returns-in-Some c = ap Err c.at.ensures ∙ refused_at _ c.smallest-d.ensures

pub returns-in-None : goal.returns-in-None
returns-in-None c = none_refused _ _ c.in-None.ensures
