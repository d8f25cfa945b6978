-- Module 5 is asked of a well-formed pack and an area with room alone.
use mathlib.Core.Path.{sym, ap, ◌∙◌}
use Rattle.laws.proofs.Answers.{passed_on}
use Rattle.value_cycle.specs.Order.{outcome}
use Rattle.value_cycle.proofs.WellFormed.{orders}
use Rattle.entries.specs.Order.{order_answer, ordered}
use Rattle.entries.proofs.ReadyLaws.{order_ready}
use Rattle.entries.proofs.order.order_values.Goals as goal

pub find_compilation_order-requires : goal.find_compilation_order-requires
find_compilation_order-requires c =
    let ready = order_ready _ _ _ (sym c.in_ok-c.ensures) in
    orders _ _ _ ready.0 ready.1

pub returns : goal.returns
unfolding order_answer
returns c = c.find_compilation_order.ensures ∙ ap (ordered _ _) c.in_ok-c.ensures

pub returns-in_err-c : goal.returns-in_err-c
unfolding order_answer
returns-in_err-c c = ap (λ r. outcome r c.args.area.now) (passed_on _ c.in_err-c.field-0.0 c.from_residual.ensures.1) ∙ ap (ordered _ _) c.in_err-c.ensures
