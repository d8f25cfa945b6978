use mathlib.Core.Path.{ap}
use Rattle.pack.specs.declared.rows.ValueRow.{ValueRow}
use Rattle.tarjan.proofs.values.list_of.Goals as goal

pub returns : goal.returns
returns c = ap (λ (r : ValueRow). r.list) c.value_row-row.ensures
