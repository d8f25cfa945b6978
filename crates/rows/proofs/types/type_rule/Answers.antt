use mathlib.Core.Path.{◌∙◌}
use Rattle.rows.specs.Types.{type_rule}
use Rattle.rows.proofs.RowLaws.{ruled}
use Rattle.rows.proofs.types.type_rule.Goals as goal

pub returns : goal.returns
returns c = unfold type_rule in rw (← c.type_row-row.ensures) (c.fault_of.ensures ∙ ruled c.type_known-known.ensures c.type_in_range-ranged.ensures c.type_distinct-distinct.ensures)
