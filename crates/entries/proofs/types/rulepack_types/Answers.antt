use mathlib.Core.Path.{ap, ◌∙◌}
use Rattle.pack.specs.Answer.{Reading}
use Rattle.entries.specs.Answers.{answer_told}
use Rattle.entries.proofs.types.rulepack_types.Goals as goal

pub returns : goal.returns
returns c = c.tell.ensures ∙ ap (λ (a : Reading). answer_told a) c.check_types.ensures
