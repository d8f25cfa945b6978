use Rattle.laws.specs.Choice.{pick}
use Rattle.pack.specs.Kinds.{type_number}
use Rattle.rows.specs.Types.{type_distinct}
use Rattle.rows.proofs.RowLaws.{named_5, named_10}
use mathlib.Core.Path.{ap, ◌∙◌}
use Rattle.rows.proofs.types.type_distinct.Goals as goal

pub returns-in-Ok-Record : goal.returns-in-Ok-Record
unfolding type_distinct pick
returns-in-Ok-Record c = λ t. let k = c.in-Ok-Record.ensures ∙ ap type_number c.in-Ok-Record.field-0-is in rw k (c.names_differ.ensures (named_5 _ _ _ _ k t))

pub returns-in-Ok-RecordVar : goal.returns-in-Ok-RecordVar
unfolding type_distinct pick
returns-in-Ok-RecordVar c = λ t. let k = c.in-Ok-RecordVar.ensures ∙ ap type_number c.in-Ok-RecordVar.field-0-is in rw k (c.names_differ-in-Ok-RecordVar.ensures (named_10 _ _ _ _ k t))
