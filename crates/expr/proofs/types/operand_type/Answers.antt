-- `operand_type`: bool for And and Or, else a fresh variable.
use mathlib.Core.Path.{refl}
use Rattle.laws.proofs.Choice.{yes, no}
use borrow.Author.Tests.{le-leb, lt-leb}
use Rattle.expr.specs.Rules.{operand_type}
use Rattle.expr.proofs.Kept.{types_keeps}
use Rattle.expr.proofs.Leaves.{operand_type_keeps}
use Rattle.expr.proofs.types.operand_type.Goals as goal

pub returns-then-op-le-OR : goal.returns-then-op-le-OR
returns-then-op-le-OR c = record { ran = λ slots notes h. types_keeps (operand_type_keeps _ _ _ h) (unfold operand_type in yes _ _ _ (le-leb _ _ c.if-op-le-OR.true) refl) }

pub returns-else-op-le-OR : goal.returns-else-op-le-OR
returns-else-op-le-OR c = record { ran = λ slots notes h. types_keeps (operand_type_keeps _ _ _ h) (unfold operand_type in no _ _ _ (lt-leb _ _ c.if-op-le-OR.false) (c.fresh_type.ensures.ran slots notes h).same) }
