use Rattle.laws.proofs.Answers.{passed_on, went_on, gave_up}
use Rattle.pack.proofs.HeaderLaws.{header_is}
use Rattle.formed.specs.Formed.{body_of, formed_of}
use mathlib.Core.Path.{ap, sym, ◌∙◌}
use Rattle.formed.proofs.whole.formed.Goals as goal

pub body-requires : goal.body-requires
body-requires c = (header_is _ _ (sym c.in_ok-c.ensures)).limits

pub returns-in_err-c : goal.returns-in_err-c
unfolding formed_of
returns-in_err-c c = gave_up _ _ (passed_on _ c.in_err-c.field-0.0 c.from_residual.ensures.1) c.in_err-c.ensures

pub returns : goal.returns
unfolding formed_of
returns c = went_on _ _ c.in_ok-c.ensures (c.body.ensures ∙ ap (body_of _) (header_is _ _ (sym c.in_ok-c.ensures)).counts)
