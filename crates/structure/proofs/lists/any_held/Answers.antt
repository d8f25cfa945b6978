use mathlib.Core.Path.{sym, ◌∙◌}
use native.Mathlib.Omega.{arith}
use Prim.Native.Nat.{◌+◌, ◌*◌, ◌≤◌}
use Rattle.std.proofs.Math.Nat.{mul-le-mul_left, mul-add}
use Rattle.structure.proofs.Counting.{run_clear, run_fails, all_clear}
use Rattle.structure.proofs.Spots.{run_at}
use Rattle.structure.proofs.lists.any_held.Goals as goal

pub run_held-requires : goal.run_held-requires
run_held-requires g c =
    let l : 128 * c.loop-r.r + c.min.result ≤ c.args.n = omega (arith, c.min.ensures, c.loop-r-test.true) in
    let m = mul-le-mul_left g.row.STEP l in
    (omega (arith, mul-add g.row.STEP (128 * c.loop-r.r) c.min.result, m, c.requires.0), omega (arith, c.min.ensures, c.requires.1))

pub returns-then-run_held : goal.returns-then-run_held
returns-then-run_held g c =
    sym (run_fails _ _ _ _ (run_at c.args.look.now c.args.a g.row.STEP (128 * c.loop-r.r)) c.args.n (sym c.run_held.ensures ∙ c.if-run_held.true) (omega (arith, c.min.ensures, c.loop-r-test.true)))

pub loop-r-preserved : goal.loop-r-preserved
loop-r-preserved g c =
    run_clear _ _ _ _ (run_at c.args.look.now c.args.a g.row.STEP (128 * c.loop-r.r)) (sym c.run_held.ensures ∙ c.if-run_held.false) c.loop-r.invariant (λ k h l. omega (arith, c.min.ensures))

pub returns : goal.returns
returns g c = all_clear _ c.args.n (λ k l. c.loop-r.invariant k (omega (arith, c.loop-r-test.false)) l)
