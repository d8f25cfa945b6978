use Rattle.laws.specs.Choice.{by_kind}
use Rattle.pack.specs.Kinds.{definition_number}
use Rattle.rows.specs.Definitions.{definition_kind}
use mathlib.Core.Path.{refl, ap, ◌∙◌}
use Rattle.rows.proofs.definitions.definition_kind.Goals as goal

pub returns-in-Ok-Runtime : goal.returns-in-Ok-Runtime
unfolding definition_kind by_kind
returns-in-Ok-Runtime c = rw (c.in-Ok-Runtime.ensures ∙ ap definition_number c.in-Ok-Runtime.field-0-is) refl
