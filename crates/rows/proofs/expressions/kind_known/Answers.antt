use Rattle.laws.specs.Choice.{by_kind}
use Rattle.pack.specs.Kinds.{node_number}
use Rattle.rows.specs.Expressions.{kind_known}
use mathlib.Core.Path.{ap, ◌∙◌}
use Rattle.rows.proofs.expressions.kind_known.Goals as goal

pub returns-in-Ok-Block : goal.returns-in-Ok-Block
unfolding kind_known by_kind
returns-in-Ok-Block c = rw (c.in-Ok-Block.ensures ∙ ap node_number c.in-Ok-Block.field-0-is) c.unused-in-Ok-Block.ensures
