use Rattle.laws.specs.Choice.{by_kind}
use Rattle.pack.specs.Kinds.{type_number}
use Rattle.rows.specs.Types.{type_known}
use mathlib.Core.Path.{refl, ap, ◌∙◌}
use Rattle.rows.proofs.types.type_known.Goals as goal

pub returns-then-is_primitive : goal.returns-then-is_primitive
unfolding type_known by_kind
returns-then-is_primitive c =
    rw (c.in-Ok-Primitive.ensures ∙ ap type_number c.in-Ok-Primitive.field-0-is, ← c.is_primitive.ensures, c.if-is_primitive.true) refl

pub returns-else-is_primitive : goal.returns-else-is_primitive
unfolding type_known by_kind
returns-else-is_primitive c =
    rw (c.in-Ok-Primitive.ensures ∙ ap type_number c.in-Ok-Primitive.field-0-is, ← c.is_primitive.ensures, c.if-is_primitive.false) refl
