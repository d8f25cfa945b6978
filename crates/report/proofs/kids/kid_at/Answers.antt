-- `kid_at`: of a block.
use mathlib.Core.Path.{ap, ◌∙◌}
use Rattle.laws.specs.Choice.{by_kind}
use Rattle.pack.specs.Kinds.{node_number}
use Rattle.report.specs.Kids.{kid_at}
use Rattle.report.proofs.kids.kid_at.Goals as goal

pub returns-in-Ok-Block : goal.returns-in-Ok-Block
returns-in-Ok-Block c = unfold kid_at by_kind in rw (c.in-Ok-Block.ensures ∙ ap node_number c.in-Ok-Block.field-0-is) c.block_kid.ensures
