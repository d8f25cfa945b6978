use Rattle.trees.specs.Notes.{nodes}
use Rattle.trees.proofs.StepLaws.{start, step}
use Rattle.trees.proofs.HopLaws.{hops_none}
use Rattle.laws.proofs.Bounded.{get_in}
use mathlib.Core.Path.{◌∙◌}
use native.Mathlib.Omega.{arith}
use Rattle.trees.proofs.notes.Notes.note_pack.Goals as goal

pub loop-i-init : goal.loop-i-init
loop-i-init c = (start _ _ _ c.requires.0 c.requires.1 c.note_bodies.ensures.noted, hops_none _ _ _ (c.note_bodies.ensures.hops ∙ c.requires.1.no_hops))

pub loop-i-preserved : goal.loop-i-preserved
loop-i-preserved c = (step _ _ c.loop-i.invariant.0 _ _ (omega arith) (get_in nodes _ _ (omega (arith, c.loop-i.invariant.0.low, c.loop-i.invariant.0.few))) (rw c.expression_row-row.ensures at c.note_row.ensures.is), c.note_row.ensures.kept)
