-- 6 is asked of a pack whose header passed.
use mathlib.Core.Path.{sym, ◌∙◌}
use Rattle.laws.proofs.Answers.{passed_on}
use Rattle.entries.proofs.ReadyLaws.{order_goes, order_stops}
use Rattle.entries.proofs.ready.ready_to_order.Goals as goal

pub returns : goal.returns
returns c = order_goes _ _ _ (sym c.in_ok-c.ensures) c.with_room.ensures

pub returns-in_err-c : goal.returns-in_err-c
returns-in_err-c c = passed_on _ c.in_err-c.field-0.0 c.from_residual.ensures.1 ∙ order_stops _ _ _ (sym c.in_err-c.ensures)
