use mathlib.Core.Path.{refl, ap}
use mathlib.Core.Bool.{not}
use Rattle.laws.proofs.First.{goes, stops, ends}
use Rattle.laws.proofs.Told.{eq, ne}
use Rattle.names.specs.Index.{next_item}
use native.Mathlib.Omega.{arith}
use Rattle.names.proofs.search.item_walked.Goals as goal

pub loop-k-init : goal.loop-k-init
unfolding next_item
loop-k-init c = record { says = refl }

pub returns-then-list_item-name : goal.returns-then-list_item-name
returns-then-list_item-name c = stops c.loop-k.invariant (omega arith) (ap not (eq c.list_item.ensures.same refl c.if-list_item-name.true))

pub loop-k-preserved : goal.loop-k-preserved
loop-k-preserved c = goes c.loop-k.invariant (omega arith) (ap not (ne c.list_item.ensures.same refl c.if-list_item-name.false))

pub returns : goal.returns
returns c = ends c.loop-k.invariant (omega arith)
