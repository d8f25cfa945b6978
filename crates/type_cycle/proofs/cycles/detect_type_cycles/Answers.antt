use mathlib.Core.Path.{sym}
use native.Mathlib.Omega.{arith}
use Rattle.laws.proofs.Answers.{passed_on, went_on, gave_up}
use Rattle.laws.proofs.First.{first_past}
use Rattle.type_cycle.specs.Cycles.{unresolved_of, cycle_of, type_cycles_of}
use Rattle.type_cycle.proofs.Ready.{good}
use Rattle.type_cycle.proofs.cycles.detect_type_cycles.Goals as goal

pub unresolved-requires : goal.unresolved-requires
unresolved-requires c = good _ _ c.requires.0 c.requires.1

pub cycle-requires : goal.cycle-requires
cycle-requires c = good _ _ c.requires.0 c.requires.1

pub returns-in_err-unresolved : goal.returns-in_err-unresolved
unfolding type_cycles_of
returns-in_err-unresolved c = gave_up _ _ (passed_on _ c.in_err-unresolved.field-0.0 c.from_residual.ensures.1) c.in_err-unresolved.ensures

pub returns : goal.returns
unfolding type_cycles_of
returns c = went_on _ _ c.in_ok-unresolved.ensures c.cycle.ensures

pub returns-then-c-eq0 : goal.returns-then-c-eq0
unfolding type_cycles_of unresolved_of cycle_of
returns-then-c-eq0 c = went_on _ _ (sym (first_past _ _ _ 0 _ (omega (arith, c.if-c-eq0.true)))) (sym (first_past _ _ _ 0 _ (omega (arith, c.if-c-eq0.true))))
