use Rattle.lists.proofs.RunLaws.{by_runs, past_runs}
use Prim.Native.Nat.{◌+◌}
use native.Mathlib.Omega.{arith}
use Rattle.lists.proofs.runs.ids_fit.Goals as goal

pub returns-then-s-n : goal.returns-then-s-n
returns-then-s-n c = rw (c.list_len.ensures.same, c.from-end.ensures, c.requires.1.each (c.args.s + 1) (omega arith)) (by_runs _ _ _ _ (omega arith))

pub returns-else-s-n : goal.returns-else-s-n
returns-else-s-n c = past_runs _ _ _ _ c.if-s-n.false
