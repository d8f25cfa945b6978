-- A variable in use is found; another is 38.
use Rattle.cells_abi.proofs.Stepping.{ref_step_lem, unknown_ref}
use native.Mathlib.Omega.{arith}
use Rattle.cells_abi.proofs.operations.peek.Goals as goal

pub find_ref-x-requires : goal.find_ref-x-requires
find_ref-x-requires c = (omega (arith, c.requires.room, c.if-v-n.true), c.requires.loopfree)

pub returns-then-v-n : goal.returns-then-v-n
returns-then-v-n c = rw c.done.ensures (ref_step_lem c.requires _ c.if-v-n.true c.find_ref-x.ensures)

pub returns : goal.returns
returns c = rw c.refused.ensures (unknown_ref c.requires _ c.if-v-n.false)
