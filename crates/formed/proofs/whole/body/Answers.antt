use Rattle.laws.proofs.Answers.{passed_on, went_on, gave_up}
use Rattle.laws.specs.Faults.{passes}
use Rattle.formed.specs.Formed.{body_of}
use mathlib.Core.Path.{ap, sym}
use Rattle.formed.proofs.whole.body.Goals as goal

pub rows-requires : goal.rows-requires
rows-requires c = c.requires

pub trees-requires : goal.trees-requires
trees-requires c = (c.requires, sym (ap passes c.in_ok-rows.ensures))

pub returns-in_err-rows : goal.returns-in_err-rows
unfolding body_of
returns-in_err-rows c = gave_up _ _ (passed_on _ c.in_err-rows.field-0.0 c.from_residual.ensures.1) c.in_err-rows.ensures

pub returns : goal.returns
unfolding body_of
returns c = went_on _ _ c.in_ok-rows.ensures c.trees.ensures
