use mathlib.Core.Path.{refl}
use Rattle.laws.proofs.Choice.{yes, no}
use Rattle.laws.proofs.Told.{lt, nlt}
use Rattle.pack.specs.Lists.{list_len}
use Rattle.lists.proofs.weights.rise_weight.Goals as goal

pub returns-then-list_len : goal.returns-then-list_len
unfolding list_len
returns-then-list_len c = yes _ _ _ (lt c.list_len.ensures.same c.list_len-2.ensures.same c.if-list_len.true) refl

pub returns-else-list_len : goal.returns-else-list_len
unfolding list_len
returns-else-list_len c = no _ _ _ (nlt c.list_len.ensures.same c.list_len-2.ensures.same c.if-list_len.false) refl
