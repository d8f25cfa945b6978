-- Module 3 is asked of a well-formed pack alone.
use mathlib.Core.Path.{sym, ap, ◌∙◌}
use Rattle.laws.proofs.Answers.{passed_on, went_on, gave_up}
use Rattle.type_cycle.specs.Cycles.{type_cycles_of}
use Rattle.entries.specs.Types.{types_answer}
use Rattle.entries.proofs.ReadyLaws.{types_ready, counts_are}
use Rattle.entries.proofs.types.check_types.Goals as goal

pub detect_type_cycles-requires : goal.detect_type_cycles-requires
detect_type_cycles-requires c = types_ready _ _ (sym c.in_ok-c.ensures)

pub returns : goal.returns
unfolding types_answer
returns c = went_on _ _ c.in_ok-c.ensures (c.detect_type_cycles.ensures ∙ ap (type_cycles_of _) (counts_are _ _ (sym c.in_ok-c.ensures)))

pub returns-in_err-c : goal.returns-in_err-c
unfolding types_answer
returns-in_err-c c = gave_up _ _ (passed_on _ c.in_err-c.field-0.0 c.from_residual.ensures.1) c.in_err-c.ensures
