use Rattle.pack.specs.Lists.{list_len}
use Rattle.lists.proofs.weights.arm_ids.Goals as goal

pub returns : goal.returns
returns c = unfold list_len in rw (← c.list_len.ensures.same, ← c.saturating_sub-guard.ensures, ← c.word.ensures) c.max.ensures
