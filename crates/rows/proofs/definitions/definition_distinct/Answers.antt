use Rattle.laws.specs.Choice.{by_kind}
use Rattle.pack.specs.Kinds.{definition_number}
use Rattle.rows.specs.Definitions.{definition_distinct}
use Rattle.rows.proofs.RowLaws.{named_enum, named_record}
use mathlib.Core.Path.{ap, ◌∙◌}
use Rattle.rows.proofs.definitions.definition_distinct.Goals as goal

pub returns-in-Ok-Enum : goal.returns-in-Ok-Enum
unfolding definition_distinct by_kind
returns-in-Ok-Enum c = λ t. let k = c.in-Ok-Enum.ensures ∙ ap definition_number c.in-Ok-Enum.field-0-is in rw k (c.names_differ.ensures (named_enum _ _ _ k t))

pub returns-in-Ok-Record : goal.returns-in-Ok-Record
unfolding definition_distinct by_kind
returns-in-Ok-Record c = λ t. let k = c.in-Ok-Record.ensures ∙ ap definition_number c.in-Ok-Record.field-0-is in rw k (c.names_differ-in-Ok-Record.ensures (named_record _ _ _ k t))
