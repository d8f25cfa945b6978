use native.Mathlib.Omega.{arith}
use Rattle.value_cycle.proofs.Contexts.{search_value, search_found, search_end, marking, is_context, entered, less, marked_sized}
use mathlib.Core.Path.{sym, ◌∙◌}
use Rattle.tarjan.proofs.Leaves.{refs_values}
use Rattle.value_cycle.proofs.context.+context.Goals as goal

pub any_uses_context-determine_uses_context-requires : goal.any_uses_context-determine_uses_context-requires
any_uses_context-determine_uses_context-requires t c = (omega (arith, c.decreases, c.loop-k.invariant.fewer), (c.requires.0, c.loop-k.invariant.sized, search_value c.loop-k.invariant c.loop-k-test.true c.list_item-w.ensures.same c.requires.2))

pub any_uses_context-returns-then-determine_uses_context : goal.any_uses_context-returns-then-determine_uses_context
any_uses_context-returns-then-determine_uses_context t c = search_found c.loop-k.invariant c.loop-k-test.true c.list_item-w.ensures.same c.determine_uses_context.ensures c.if-determine_uses_context.true

pub any_uses_context-returns : goal.any_uses_context-returns
any_uses_context-returns t c = search_end c.loop-k.invariant c.loop-k-test.false

pub determine_uses_context-returns-then-kind_of : goal.determine_uses_context-returns-then-kind_of
determine_uses_context-returns-then-kind_of t c = is_context c.requires.1 (sym c.kind_of.ensures ∙ c.if-kind_of.true)

pub determine_uses_context-any_uses_context-requires : goal.determine_uses_context-any_uses_context-requires
determine_uses_context-any_uses_context-requires t c =
    let t = c.requires.0 in
    let u = c.if-visited-v.false in
    let d = c.if-kind_of.false in
    let e = c.list_of.ensures in
    let m = marking c.args.visited.now t c.requires.1 c.requires.2 u c.kind_of.ensures d e in
    (omega (arith, c.decreases, less m), (t, marked_sized m, refs_values t c.requires.2 e))

pub determine_uses_context-returns : goal.determine_uses_context-returns
determine_uses_context-returns t c =
    let u = c.if-visited-v.false in
    let d = c.if-kind_of.false in
    let e = c.list_of.ensures in
    entered
    (marking c.args.visited.now c.requires.0 c.requires.1 c.requires.2 u c.kind_of.ensures d e)
    c.any_uses_context.ensures
