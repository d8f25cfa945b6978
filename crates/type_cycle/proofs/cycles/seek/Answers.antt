use Rattle.type_cycle.proofs.OrderLaws.{seek_starts, seek_passes, seek_goes, seek_stops, seek_ends}
use native.Mathlib.Omega.{arith}
use Rattle.type_cycle.proofs.cycles.seek.Goals as goal
use Rattle.type_cycle.proofs.cycles.seek.Goals.{then-low-d+then-d-m+else-search-d, else-low-d, else-low-d-via-then-low-d+else-d-m, else-low-d-via-else-low-d}

pub loop-i-init : goal.loop-i-init
loop-i-init c = seek_starts _ _ _ c.requires.0 c.empty-search.ensures

pub returns-then-search-d : goal.returns-then-search-d
returns-then-search-d c = seek_stops c.requires.0 c.requires.2 c.requires.1 c.loop-i.invariant _ c.at-d.ensures c.if-low-d.true c.if-d-m.true c.loop-i-test.true c.visit_fields.ensures c.if-search-d.true

pub loop-i-preserved : goal.loop-i-preserved
loop-i-preserved c = elim c.if-low-d.branch [
  | then-low-d+then-d-m+else-search-d w ↦ rw w.search-is (seek_goes c.requires.0 c.requires.2 c.requires.1 c.loop-i.invariant _ c.at-d.ensures w.if-low-d.true w.if-d-m.true c.loop-i-test.true w.visit_fields.ensures w.if-search-d.false)
  | else-low-d w ↦ rw w.search-is (elim w.else-low-d.branch [
    | else-low-d-via-then-low-d+else-d-m v ↦ seek_passes c.requires.0 c.requires.2 c.requires.1 c.loop-i.invariant (λ h. omega (arith, h.1, v.if-d-m.false, c.at-d.ensures))
    | else-low-d-via-else-low-d v ↦ seek_passes c.requires.0 c.requires.2 c.requires.1 c.loop-i.invariant (λ h. omega (arith, h.0, v.if-low-d.false, c.at-d.ensures))
  ])
]

pub returns : goal.returns
returns c = seek_ends c.requires.0 c.requires.2 c.requires.1 c.loop-i.invariant c.requires.3.each c.loop-i-test.false
