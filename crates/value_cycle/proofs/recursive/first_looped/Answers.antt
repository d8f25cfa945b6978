use mathlib.Core.Path.{refl}
use Rattle.laws.proofs.First.{ends}
use Rattle.components.specs.Answers.{first₅₁}
use Rattle.value_cycle.proofs.Looped.{listed_small, loop_found, loop_passes}
use native.Mathlib.Omega.{arith}
use Rattle.value_cycle.proofs.recursive.first_looped.Goals as goal

pub loop-d-init : goal.loop-d-init
unfolding first₅₁
loop-d-init c = record { says = refl }

pub is_looped-requires : goal.is_looped-requires
is_looped-requires c =
    let q = c.requires in
    omega (arith, listed_small q.0 q.1 c.loop-d-test.true c.value_at-v.ensures)

pub returns-then-is_looped : goal.returns-then-is_looped
returns-then-is_looped c =
    let q = c.requires in
    loop_found q.0 q.1 c.loop-d-test.true c.value_at-v.ensures c.loop-d.invariant c.is_looped.ensures c.if-is_looped.true

pub loop-d-preserved : goal.loop-d-preserved
loop-d-preserved c =
    let q = c.requires in
    loop_passes q.0 q.1 c.loop-d-test.true c.value_at-v.ensures c.loop-d.invariant c.is_looped.ensures c.if-is_looped.false

pub returns : goal.returns
returns c = omega (arith, ends c.loop-d.invariant c.loop-d-test.false)
