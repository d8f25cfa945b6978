use mathlib.Core.Path.{refl, ◌∙◌}
use Rattle.rows.proofs.RowLaws.{ruled}
use Rattle.rows.specs.Roots.{root_rule}
use Rattle.rows.proofs.roots.root_rule.Goals as goal

pub returns : goal.returns
returns c = unfold root_rule in rw (← c.root_row-row.ensures) (c.fault_of.ensures ∙ ruled refl c.root_in_range-ranged.ensures (λ t. refl))
