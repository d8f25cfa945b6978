use Rattle.entries.proofs.AnswerLaws.{root_handed}
use Rattle.entries.proofs.root.rulepack_root.Goals as goal

pub returns : goal.returns
returns c = root_handed c.tell.ensures c.check_one-answer.ensures
