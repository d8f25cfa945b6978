use mathlib.Core.Path.{◌≡◌, refl, sym, ◌∙◌}
use Rattle.laws.proofs.First.{goes, stops, ends}
use Rattle.components.specs.Answers.{first₅₂}
use Rattle.laws.proofs.Choice.{fails}
use Rattle.laws.proofs.Members.{by_le}
use Rattle.tarjan.specs.Values.{capacity}
use Prim.Native.Nat.{ℕ}
use lib.ListN.{get_or, replicate, length-replicate, get_or-replicate, get_or-eq_default}
use mathlib.Core.Bool.{Bool, false}
use Rattle.value_cycle.proofs.Constants.{held, passed_by}
use native.Mathlib.Omega.{arith}
use Rattle.value_cycle.proofs.context.context_check.Goals as goal

none : (y : ℕ) → get_or (replicate {A = Bool} capacity false) y false ≡ false
none y = by_le capacity y (λ h. get_or-eq_default (replicate {A = Bool} capacity false) false {n = y} (omega (arith, length-replicate {A = Bool} capacity false))) (λ h. get_or-replicate {A = Bool} capacity y false false h)

pub loop-v-init : goal.loop-v-init
unfolding first₅₂
loop-v-init c = (length-replicate {A = Bool} capacity false, λ y h. absurd (fails (sym h ∙ none y)), record { says = refl })

pub constant_uses_context-requires : goal.constant_uses_context-requires
constant_uses_context-requires c = (c.requires, c.loop-v.invariant.0, c.loop-v-test.true)

pub returns-then-constant_uses_context : goal.returns-then-constant_uses_context
returns-then-constant_uses_context c =
    let inv = c.loop-v.invariant in
    let e = stops inv.2 c.loop-v-test.true (held (c.constant_uses_context.ensures.is inv.1) c.if-constant_uses_context.true) in
    (omega (arith, e, c.loop-v-test.true), e)

pub loop-v-preserved : goal.loop-v-preserved
loop-v-preserved c =
    let inv = c.loop-v.invariant in
    let q = c.constant_uses_context.ensures in
    (q.sized, q.clear inv.1 c.if-constant_uses_context.false, goes inv.2 c.loop-v-test.true (passed_by (q.is inv.1) c.if-constant_uses_context.false))

pub returns : goal.returns
returns c = omega (arith, ends c.loop-v.invariant.2 c.loop-v-test.false)
