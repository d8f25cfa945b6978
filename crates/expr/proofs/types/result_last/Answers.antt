-- `result_last`: for the operators past the first eight.
use Rattle.laws.proofs.Choice.{yes, no}
use borrow.Author.Tests.{le-leb, lt-leb}
use Rattle.expr.specs.Rules.{result_last}
use Rattle.expr.proofs.Steps.{is}
use Rattle.expr.proofs.Kept.{ran_keeps}
use Rattle.expr.proofs.Leaves.{result_last_keeps}
use Rattle.expr.proofs.types.result_last.Goals as goal

pub returns-then-op-le-NE : goal.returns-then-op-le-NE
returns-then-op-le-NE c = record { ran = λ slots notes h. ran_keeps (result_last_keeps _ _ _ _ _ _ _ h c.requires.1.0 c.requires.1.1) (unfold result_last in yes _ _ _ (le-leb _ _ c.if-op-le-NE.true) (is c.done.ensures)) }

pub returns-else-op-le-NE : goal.returns-else-op-le-NE
returns-else-op-le-NE c = record { ran = λ slots notes h. ran_keeps (result_last_keeps _ _ _ _ _ _ _ h c.requires.1.0 c.requires.1.1) (unfold result_last in no _ _ _ (lt-leb _ _ c.if-op-le-NE.false) (c.meet.ensures.ran slots notes h).same) }

pub meet-requires : goal.meet-requires
meet-requires c = (c.requires.0, (c.requires.1.0, c.requires.1.1))
