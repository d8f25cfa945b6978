-- `literal_code`: unit for 7, else the primitive of that number.
use Rattle.laws.proofs.Choice.{yes, no}
use borrow.Author.Tests.{eq-eqb, ne_eqb}
use mathlib.Core.Path.{refl}
use Rattle.expr.specs.Rules.{literal_code}
use Rattle.expr.proofs.types.literal_code.Goals as goal

pub returns-then-op-eq-UNIT_LITERAL : goal.returns-then-op-eq-UNIT_LITERAL
unfolding literal_code
returns-then-op-eq-UNIT_LITERAL c = yes _ _ _ (eq-eqb _ _ c.if-op-eq-UNIT_LITERAL.true) refl

pub returns-else-op-eq-UNIT_LITERAL : goal.returns-else-op-eq-UNIT_LITERAL
unfolding literal_code
returns-else-op-eq-UNIT_LITERAL c = no _ _ _ (ne_eqb _ _ c.if-op-eq-UNIT_LITERAL.false) c.code_of.ensures
