-- 5 and 6 are asked of a pack whose header passed.
use mathlib.Core.Path.{sym, ◌∙◌}
use Rattle.laws.proofs.Answers.{passed_on}
use Rattle.entries.proofs.ReadyLaws.{root_goes, root_stops}
use Rattle.entries.proofs.ready.ready_to_check.Goals as goal

pub returns : goal.returns
returns c = root_goes _ _ _ _ (sym c.in_ok-c.ensures) c.with_root.ensures

pub returns-in_err-c : goal.returns-in_err-c
returns-in_err-c c = passed_on _ c.in_err-c.field-0.0 c.from_residual.ensures.1 ∙ root_stops _ _ _ _ (sym c.in_err-c.ensures)
