use Rattle.laws.specs.Choice.{by_kind}
use Rattle.pack.specs.Kinds.{type_number}
use Rattle.rows.specs.Types.{type_in_range}
use mathlib.Core.Path.{refl, ap, ◌∙◌}
use Rattle.rows.proofs.types.type_in_range.Goals as goal

pub returns-in-Ok-Primitive : goal.returns-in-Ok-Primitive
unfolding type_in_range by_kind
returns-in-Ok-Primitive c = rw (c.in-Ok-Primitive.ensures ∙ ap type_number c.in-Ok-Primitive.field-0-is) refl
