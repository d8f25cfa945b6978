use Rattle.laws.proofs.First.{goes, stops, ends}
use Rattle.laws.specs.Faults.{refusal}
use Rattle.std.proofs.Common.{Err}
use Rattle.trees.specs.Nodes.{nodes_of}
use mathlib.Core.Path.{refl, sym, ap, ◌∙◌}
use native.Mathlib.Omega.{arith}
use Rattle.formed.proofs.whole.nodes.Goals as goal

pub loop-e-init : goal.loop-e-init
unfolding nodes_of
loop-e-init c = record { says = refl }

pub node_fits-fits-requires : goal.node_fits-fits-requires
node_fits-fits-requires c = (omega arith, c.requires)

pub loop-e-preserved : goal.loop-e-preserved
loop-e-preserved c = goes c.loop-e.invariant (omega arith) (sym c.if-not-fits.ensures)

pub returns-then-not-fits : goal.returns-then-not-fits
returns-then-not-fits c =
    ap Err (c.at.ensures ∙ ap (λ f. refusal f c.loop-e.e 0) c.fault.ensures) ∙ stops c.loop-e.invariant (omega arith) (sym c.if-not-fits.ensures)

pub returns : goal.returns
returns c = ends c.loop-e.invariant (omega arith)
