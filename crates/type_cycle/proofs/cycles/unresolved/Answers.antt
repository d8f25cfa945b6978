use Rattle.std.proofs.Common.{Err}
use Rattle.laws.proofs.First.{goes, stops, ends}
use Rattle.type_cycle.specs.Cycles.{unresolved_of}
use Rattle.type_cycle.proofs.UnresolvedLaws.{starts, clear, met}
use mathlib.Core.Path.{refl, ap, ◌∙◌}
use Rattle.type_cycle.specs.declared.skips.Skips.{Skips}
use Rattle.type_cycle.proofs.cycles.unresolved.Goals as goal

pub loop-d-init : goal.loop-d-init
loop-d-init c = unfold unresolved_of in (starts c.requires c.wall.ensures.walled (ap (λ (s : Skips). s.cells) c.wall.ensures.skips ∙ c.empty-search.ensures.skips_are), record { says = refl })

pub loop-d-preserved : goal.loop-d-preserved
loop-d-preserved c = let r = clear c.requires c.loop-d.invariant.0 _ c.loop-d-test.true c.visit_fields.ensures c.if-search-offset2560.false in (r.1, goes c.loop-d.invariant.1 c.loop-d-test.true r.0)

pub returns-then-search-offset2560 : goal.returns-then-search-offset2560
returns-then-search-offset2560 c = ap Err c.at.ensures ∙ stops c.loop-d.invariant.1 c.loop-d-test.true (met c.requires c.loop-d.invariant.0 _ c.loop-d-test.true c.visit_fields.ensures c.if-search-offset2560.true)

pub returns : goal.returns
returns c = ends c.loop-d.invariant.1 c.loop-d-test.false
