use mathlib.Core.Path.{refl}
use Rattle.pack.specs.Lists.{list_len}
use native.Mathlib.Omega.{arith}
use Rattle.lists.proofs.earlier.key.Goals as goal

pub returns : goal.returns
returns c = unfold list_len in record { same = rw (← c.list_len.ensures.same, ← c.min-name.ensures) refl; small = omega (arith, c.min-name.ensures) }
