-- `pass_on`: by the test that the array has for each fork.
use mathlib.Core.Path.{refl}
use native.Mathlib.Omega.{arith}
use Rattle.structure.specs.Words.{look_at}
use Rattle.structure.proofs.Walking.{passes_none, passes_on, passed, own_is, stopped_at, cell_rises}
use Rattle.structure.proofs.tree.ListTrees.pass_on.Goals as goal

pub loop-fork-init : goal.loop-fork-init
loop-fork-init c = passes_none c.requires.0

pub returns-then-value-test : goal.returns-then-value-test
returns-then-value-test c =
    passed _ c.loop-fork.invariant
    (stopped_at (look_at c.args.look.now c.args.s) c.args.self.now.cells c.args.self.now.tests _ (omega (arith, c.in-Some.ensures, c.requires.1.high c.loop-fork.cell)) refl (rw c.place_of.ensures.same at c.look_at-value.ensures.same) c.in-Some.ensures c.if-value-test.true)
    (omega (arith, c.in-Some.ensures, c.requires.1.high c.loop-fork.cell), c.look_at-value.ensures.small)

pub loop-fork-smaller : goal.loop-fork-smaller
loop-fork-smaller c = omega (arith, cell_rises (look_at c.args.look.now c.args.s) c.args.self.now.cells c.args.self.now.tests c.args.from _ _ c.requires.1 c.loop-fork.invariant.inside c.in-Some.ensures, c.loop-fork.invariant.inside)

pub loop-fork-preserved : goal.loop-fork-preserved
loop-fork-preserved c =
    passes_on (look_at c.args.look.now c.args.s) c.args.self.now.cells c.args.self.now.tests c.args.from _ _ c.requires.1 c.loop-fork.invariant.inside c.in-Some.ensures
    (own_is (look_at c.args.look.now c.args.s) c.args.self.now.tests (omega (arith, c.in-Some.ensures, c.requires.1.high c.loop-fork.cell)) refl (rw c.place_of.ensures.same at c.look_at-value.ensures.same) c.if-value-test.false)
    c.loop-fork.invariant
