-- Each number's operation, and set for all others.
use Rattle.laws.specs.Choice.{by_kind}
use Rattle.cells_abi.specs.Script.{operation_of}
use Rattle.cells_abi.proofs.Stepping.{past_operations}
use Rattle.cells_abi.proofs.operations.operate.Goals as goal

pub returns-in-0 : goal.returns-in-0
unfolding operation_of by_kind
returns-in-0 c = rw c.in-0.is c.make.ensures

pub returns-in-1 : goal.returns-in-1
unfolding operation_of by_kind
returns-in-1 c = rw c.in-1.is c.make-in-1.ensures

pub returns-in-2 : goal.returns-in-2
unfolding operation_of by_kind
returns-in-2 c = rw c.in-2.is c.make-in-2.ensures

pub returns-in-3 : goal.returns-in-3
unfolding operation_of by_kind
returns-in-3 c = rw c.in-3.is c.look.ensures

pub returns-in-4 : goal.returns-in-4
unfolding operation_of by_kind
returns-in-4 c = rw c.in-4.is c.peek.ensures

pub returns-in-5 : goal.returns-in-5
unfolding operation_of by_kind
returns-in-5 c = rw c.in-5.is c.cell.ensures

pub returns-in_default : goal.returns-in_default
returns-in_default c = rw (← past_operations _ _ _ _ _ c.in_default.in_default-own.rest) c.store.ensures
