use mathlib.Core.Path.{◌∙◌}
use Rattle.rows.specs.Definitions.{definition_rule}
use Rattle.rows.proofs.RowLaws.{ruled}
use Rattle.rows.proofs.definitions.definition_rule.Goals as goal

pub returns : goal.returns
returns c = unfold definition_rule in rw (← c.definition_row-row.ensures) (c.fault_of.ensures ∙ ruled c.definition_known-known.ensures c.definition_in_range-ranged.ensures c.definition_distinct-distinct.ensures)
