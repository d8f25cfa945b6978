-- `slot`: open, or 33.
use Rattle.laws.proofs.Choice.{yes, no, lets}
use borrow.Author.Tests.{le-leb, lt-leb}
use Rattle.std.proofs.Common.{Err}
use mathlib.Core.Path.{ap}
use Rattle.expr.specs.Rules.{slot_rule}
use Rattle.expr.proofs.Steps.{is}
use Rattle.expr.proofs.Kept.{ran_keeps}
use Rattle.expr.proofs.Leaves.{slot_keeps}
use Rattle.expr.proofs.types.slot.Goals as goal

pub returns-then-x-ge-OPEN : goal.returns-then-x-ge-OPEN
returns-then-x-ge-OPEN c = record { ran = λ notes h. ran_keeps (slot_keeps _ _ c.args.n _ _ _ h c.requires.1.0) (unfold slot_rule in lets _ c.slot_at-x.ensures (yes _ _ _ (le-leb _ _ c.if-x-ge-OPEN.true) (c.meet.ensures.ran _ notes h).same)) }

pub returns-else-x-ge-OPEN : goal.returns-else-x-ge-OPEN
returns-else-x-ge-OPEN c = record { ran = λ notes h. ran_keeps (slot_keeps _ _ c.args.n _ _ _ h c.requires.1.0) (unfold slot_rule in lets _ c.slot_at-x.ensures (no _ _ _ (lt-leb _ _ c.if-x-ge-OPEN.false) (is (ap Err c.at.ensures)))) }

pub meet-requires : goal.meet-requires
meet-requires c = (c.requires.0, (c.requires.1.0, rw c.slot_at-x.ensures (c.requires.1.1.each _)))
