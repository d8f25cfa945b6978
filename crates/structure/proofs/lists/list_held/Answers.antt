use mathlib.Core.Path.{refl, ap}
use mathlib.Core.Bool.{not}
use Rattle.laws.proofs.First.{goes, stops, ends}
use Rattle.laws.proofs.Told.{eq, ne}
use Rattle.structure.specs.Table.{held_in}
use native.Mathlib.Omega.{arith}
use Rattle.structure.proofs.lists.list_held.Goals as goal

pub loop-m-preserved : goal.loop-m-preserved
loop-m-preserved c = goes c.loop-m.invariant (omega (arith, c.len_at-m-end.ensures.same)) (eq (rw c.part_at.ensures.same at c.entry_at.ensures) refl c.if-entry_at-ne0.false)

pub returns-then-entry_at-ne0 : goal.returns-then-entry_at-ne0
unfolding held_in
returns-then-entry_at-ne0 c = ap not (stops c.loop-m.invariant (omega (arith, c.len_at-m-end.ensures.same)) (ne (rw c.part_at.ensures.same at c.entry_at.ensures) refl c.if-entry_at-ne0.true))

pub returns : goal.returns
unfolding held_in
returns c = ap not (ends c.loop-m.invariant (omega (arith, c.len_at-m-end.ensures.same)))
