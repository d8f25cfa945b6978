-- A variable in use is found; another is 38.
use Rattle.cells_abi.proofs.Stepping.{found_step, unknown_find}
use native.Mathlib.Omega.{arith}
use Rattle.cells_abi.proofs.operations.look.Goals as goal

pub find-x-requires : goal.find-x-requires
find-x-requires c = (omega (arith, c.requires.room, c.if-v-n.true), c.requires.loopfree)

pub returns-then-v-n : goal.returns-then-v-n
returns-then-v-n c = rw c.done.ensures (found_step c.requires _ c.if-v-n.true c.find-x.ensures)

pub returns : goal.returns
returns c = rw c.refused.ensures (unknown_find c.requires _ c.if-v-n.false)
