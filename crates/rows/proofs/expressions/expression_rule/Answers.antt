use mathlib.Core.Path.{refl, ◌∙◌}
use Rattle.rows.proofs.RowLaws.{ruled}
use Rattle.rows.specs.Expressions.{expression_rule}
use Rattle.rows.proofs.expressions.expression_rule.Goals as goal

pub returns : goal.returns
returns c = unfold expression_rule in rw (← c.expression_row-row.ensures) (c.fault_of.ensures ∙ ruled c.expression_known-known.ensures c.expression_in_range-ranged.ensures (λ t. refl))
