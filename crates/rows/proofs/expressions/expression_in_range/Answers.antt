use Rattle.laws.specs.Choice.{by_kind}
use Rattle.pack.specs.Kinds.{node_number}
use Rattle.rows.specs.Expressions.{expression_in_range}
use mathlib.Core.Path.{refl, ap, ◌∙◌}
use Rattle.rows.proofs.expressions.expression_in_range.Goals as goal

pub returns-then-items_fit : goal.returns-then-items_fit
unfolding expression_in_range by_kind
returns-then-items_fit c = rw (c.in-Ok-Block.ensures ∙ ap node_number c.in-Ok-Block.field-0-is, ← c.items_fit.ensures, c.if-items_fit.true) c.optional_below.ensures

pub returns-else-items_fit : goal.returns-else-items_fit
unfolding expression_in_range by_kind
returns-else-items_fit c = rw (c.in-Ok-Block.ensures ∙ ap node_number c.in-Ok-Block.field-0-is, ← c.items_fit.ensures, c.if-items_fit.false) refl
