-- `kids_room`: of a block one place more than its statements.
use mathlib.Core.Path.{ap, ◌∙◌}
use Prim.Native.Nat.{ℕ, ◌+◌}
use Rattle.laws.specs.Choice.{by_kind}
use Rattle.pack.specs.Kinds.{node_number}
use Rattle.report.specs.Kids.{kids_room}
use native.Mathlib.Omega.{arith}
use Rattle.report.proofs.kids.kids_room.Goals as goal

pub returns-in-Ok-Block : goal.returns-in-Ok-Block
unfolding kids_room by_kind
returns-in-Ok-Block c =
    record {
      same = rw (c.in-Ok-Block.ensures ∙ ap node_number c.in-Ok-Block.field-0-is) (ap (λ (n : ℕ). n + 1) c.list_len.ensures.same);
      small = omega (arith, c.list_len.ensures.small);
    }
