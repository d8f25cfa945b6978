use mathlib.Core.Path.{sym, ◌∙◌}
use native.Mathlib.Omega.{arith}
use Rattle.laws.proofs.Bounded.{get_in}
use Rattle.laws.proofs.Choice.{by_eq}
use Rattle.structure.specs.Words.{looks}
use Rattle.structure.proofs.Spots.{steps}
use Rattle.structure.proofs.compare.words_apart.Goals as goal

pub loop-m-preserved : goal.loop-m-preserved
loop-m-preserved g c k l =
    let h = steps g.row.STEP _ _ c.loop-m-test.true in
    by_eq k c.loop-m.m
    (λ e. rw e (sym (get_in looks _ _ (omega (arith, h, c.requires.0))) ∙ c.if-look-a.false ∙ get_in looks _ _ (omega (arith, h, c.requires.1))))
    (λ e. c.loop-m.invariant k (omega (arith, l, e)))

pub returns-then-look-a : goal.returns-then-look-a
returns-then-look-a g c =
    let h = steps g.row.STEP _ _ c.loop-m-test.true in
    (c.loop-m-test.true, λ q. c.if-look-a.true (get_in looks _ _ (omega (arith, h, c.requires.0)) ∙ q ∙ sym (get_in looks _ _ (omega (arith, h, c.requires.1)))), c.loop-m.invariant)
