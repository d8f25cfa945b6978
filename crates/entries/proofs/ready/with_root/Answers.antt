use mathlib.Core.Path.{◌∙◌}
use Rattle.laws.proofs.Answers.{passed_on}
use Rattle.pack.proofs.NeedLaws.{met, unmet}
use Rattle.entries.proofs.ready.with_root.Goals as goal

pub returns : goal.returns
returns c = rw (← c.from.ensures) (met _ _ _ c.in_ok-need.ensures c.with_room.ensures)

pub returns-in_err-need : goal.returns-in_err-need
returns-in_err-need c = rw (← c.from.ensures) (passed_on _ c.in_err-need.field-0.0 c.from_residual.ensures.1 ∙ unmet _ _ _ c.in_err-need.ensures)
