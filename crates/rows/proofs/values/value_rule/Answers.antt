use mathlib.Core.Path.{refl, ◌∙◌}
use Rattle.rows.specs.Values.{value_rule}
use Rattle.rows.proofs.RowLaws.{ruled, listed}
use Rattle.rows.proofs.values.value_rule.Goals as goal

pub returns : goal.returns
returns c = unfold value_rule in rw (← c.value_row-row.ensures) (c.fault_of.ensures ∙ ruled refl c.items_fit-ranged.ensures (λ t. c.items_rise-rise.ensures (listed _ _ _ _ t)))
