use mathlib.Core.Path.{sym, ◌∙◌}
use native.Mathlib.Omega.{arith}
use Rattle.laws.proofs.First.{goes, stops, ends}
use Rattle.structure.proofs.numbering.all_fit.Goals as goal

pub loop-k-preserved : goal.loop-k-preserved
loop-k-preserved c = goes c.loop-k.invariant (omega arith) (rw (← c.slot_at.ensures.same) (sym c.fits_at.ensures ∙ c.if-not-fits_at.false))

pub returns-then-not-fits_at : goal.returns-then-not-fits_at
returns-then-not-fits_at c = stops c.loop-k.invariant (omega arith) (rw (← c.slot_at.ensures.same) (sym c.fits_at.ensures ∙ c.if-not-fits_at.true))

pub returns : goal.returns
returns c = ends c.loop-k.invariant (omega arith)
