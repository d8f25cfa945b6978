use Prim.Native.Nat.{ℕ, ◌+◌, ◌*◌}
use mathlib.Core.Path.{sym, ap, ◌∙◌}
use mathlib.Core.Bool.{true, false}
use Rattle.laws.specs.First.{all}
use Rattle.laws.proofs.First.{first_past}
use Rattle.lists.proofs.PeakLaws.{below, halves, edge_fails}
use native.Mathlib.Omega.{arith}
use Rattle.lists.proofs.peaks.range_below.Goals as goal

pub loop-l-preserved : goal.loop-l-preserved
loop-l-preserved c = (omega arith, omega arith, record { says = sym (halves c.args.cells.now c.args.limit _ c.requires.1 c.loop-l.l c.loop-l.r c.loop-l.invariant.0 (omega arith) (omega arith) (sym c.edges_below-fit.ensures ∙ c.if-not-fit.false)) ∙ c.loop-l.invariant.2.says })

pub returns-then-not-fit : goal.returns-then-not-fit
returns-then-not-fit c = sym (edge_fails c.args.cells.now c.args.limit c.loop-l.l c.loop-l.r (omega arith) (sym c.edges_below-fit.ensures ∙ c.if-not-fit.true)) ∙ c.loop-l.invariant.2.says ∙ ap (λ (x : ℕ). all (below c.args.cells.now c.args.limit) (6 * x + c.args.from) (6 * x + c.args.from + c.args.n)) c.region.ensures

pub returns : goal.returns
returns c = sym (first_past (below c.args.cells.now c.args.limit) (λ k. false) true c.loop-l.l c.loop-l.r (omega arith)) ∙ c.loop-l.invariant.2.says ∙ ap (λ (x : ℕ). all (below c.args.cells.now c.args.limit) (6 * x + c.args.from) (6 * x + c.args.from + c.args.n)) c.region.ensures
