use mathlib.Core.Path.{sym, ◌∙◌}
use Rattle.laws.proofs.First.{goes, stops, ends}
use native.Mathlib.Omega.{arith}
use Rattle.structure.proofs.lists.items_like.Goals as goal

pub loop-m-preserved : goal.loop-m-preserved
loop-m-preserved c = goes c.loop-m.invariant (omega arith) (sym c.item_like.ensures ∙ c.if-not-item_like.false)

pub returns-then-not-item_like : goal.returns-then-not-item_like
returns-then-not-item_like c = stops c.loop-m.invariant (omega arith) (sym c.item_like.ensures ∙ c.if-not-item_like.true)

pub returns : goal.returns
returns c = ends c.loop-m.invariant (omega arith)
