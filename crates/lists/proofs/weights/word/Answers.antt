use Rattle.pack.specs.Lists.{list_len}
use Rattle.lists.proofs.weights.word.Goals as goal

pub returns : goal.returns
returns c = unfold list_len in c.list_len.ensures.same
