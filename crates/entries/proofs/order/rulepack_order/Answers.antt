use Rattle.entries.proofs.AnswerLaws.{order_handed}
use Rattle.entries.proofs.order.rulepack_order.Goals as goal

pub returns : goal.returns
returns c = order_handed c.tell.ensures c.order_values-answer.ensures
