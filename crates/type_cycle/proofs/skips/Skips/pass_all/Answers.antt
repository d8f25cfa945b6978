-- The skip at the list's first item passes all of them.
use mathlib.Core.Path.{◌∙◌}
use borrow.Author.Tests.{leb-true}
use Rattle.type_cycle.proofs.StepLaws.{all_passed}
use Rattle.type_cycle.proofs.skips.Skips.pass_all.Goals as goal

pub returns : goal.returns
returns c = record { all = λ e. all_passed _ _ _ _ _ _ c.length_of.ensures.same (c.from.ensures ∙ c.at.ensures) (leb-true _ _ e) }
