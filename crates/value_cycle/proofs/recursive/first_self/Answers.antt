use mathlib.Core.Path.{refl}
use Rattle.laws.proofs.First.{goes, stops, ends}
use Rattle.components.specs.Answers.{first₅₀}
use Rattle.value_cycle.proofs.Constants.{held, passed_by}
use native.Mathlib.Omega.{arith}
use Rattle.value_cycle.proofs.recursive.first_self.Goals as goal

pub loop-v-init : goal.loop-v-init
unfolding first₅₀
loop-v-init c = record { says = refl }

pub returns-then-lists_itself : goal.returns-then-lists_itself
returns-then-lists_itself c =
    let e = stops c.loop-v.invariant c.loop-v-test.true (held c.lists_itself.ensures c.if-lists_itself.true) in
    (omega (arith, e, c.loop-v-test.true), e)

pub loop-v-preserved : goal.loop-v-preserved
loop-v-preserved c = goes c.loop-v.invariant c.loop-v-test.true (passed_by c.lists_itself.ensures c.if-lists_itself.false)

pub returns : goal.returns
returns c = omega (arith, ends c.loop-v.invariant c.loop-v-test.false)
