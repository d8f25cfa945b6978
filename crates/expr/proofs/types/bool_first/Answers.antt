-- `bool_first`: for the first eight operators.
use Rattle.laws.proofs.Choice.{yes, no}
use borrow.Author.Tests.{le-leb, lt-leb}
use Rattle.expr.specs.Rules.{bool_first}
use Rattle.expr.proofs.Steps.{is}
use Rattle.expr.proofs.Coding.{bool_coded}
use Rattle.expr.proofs.Kept.{ran_keeps}
use Rattle.expr.proofs.Leaves.{bool_first_keeps}
use Rattle.expr.proofs.types.bool_first.Goals as goal

pub returns-then-op-le-NE : goal.returns-then-op-le-NE
returns-then-op-le-NE c = record { ran = λ slots notes h. ran_keeps (bool_first_keeps _ _ _ _ _ _ h c.requires.1) (unfold bool_first in yes _ _ _ (le-leb _ _ c.if-op-le-NE.true) (c.meet.ensures.ran slots notes h).same) }

pub returns-else-op-le-NE : goal.returns-else-op-le-NE
returns-else-op-le-NE c = record { ran = λ slots notes h. ran_keeps (bool_first_keeps _ _ _ _ _ _ h c.requires.1) (unfold bool_first in no _ _ _ (lt-leb _ _ c.if-op-le-NE.false) (is c.done.ensures)) }

pub meet-requires : goal.meet-requires
meet-requires c = (c.requires.0, (c.requires.1, bool_coded _))
