use Rattle.laws.proofs.Choice.{yes, no}
use Rattle.laws.proofs.Told.{lt, nlt}
use Rattle.pack.specs.Lists.{list_len}
use Rattle.lists.proofs.RunLaws.{last, more, end_most}
use mathlib.Core.Path.{refl}
use native.Mathlib.Omega.{arith}
use Rattle.lists.proofs.runs.fill_runs.Goals as goal
use Rattle.lists.proofs.runs.fill_runs.Goals.{then-limit-list_len, else-limit-list_len}

pub loop-k-init : goal.loop-k-init
loop-k-init c = last _ _ _ c.requires c.args.ends.now c.told-ends

pub overflow_cast-ends-in-loop-k : goal.overflow_cast-ends-in-loop-k
overflow_cast-ends-in-loop-k c =
    elim c.if-limit-list_len.branch [
      | then-limit-list_len w ↦ omega (arith, c.loop-k.invariant.low)
      | else-limit-list_len w ↦ omega (arith, end_most c.loop-k.invariant)
    ]

pub loop-k-preserved : goal.loop-k-preserved
unfolding list_len
loop-k-preserved c =
    elim c.if-limit-list_len.branch [
      | then-limit-list_len w ↦ more _ _ _ c.requires c.loop-k.invariant _ _ (omega arith) (no _ _ _ (nlt c.list_len.ensures.same refl w.if-limit-list_len.true) w.end-is)
      | else-limit-list_len w ↦ more _ _ _ c.requires c.loop-k.invariant _ _ (omega arith) (yes _ _ _ (lt c.list_len.ensures.same refl w.if-limit-list_len.false) w.end-is)
    ]
