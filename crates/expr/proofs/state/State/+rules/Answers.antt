use borrow.Author.Rules.{rules}
use Rattle.std.proofs.Common.{Err, ℕ}
use Rattle.laws.specs.Faults.{refusal}
use Rattle.laws.specs.declared.fault.Fault.TheVariants.{NotExhaustive}
use mathlib.Core.Path.{refl, sym, ap, ◌∙◌}
use Rattle.expr.specs.Rules.{expr_rule, guard_rule, last_rule, returned_rule, kind_rule}
use Rattle.expr.proofs.Steps.{is}
use Rattle.expr.proofs.Meets.{meets_expr, meets_guard, meets_last, meets_returned, meets_kind}
use Rattle.expr.proofs.Paths.{field_stops, field_is, field_found, arm_refuses, arm_bound, arm_is, body_guard_stops, body_stops, body_is, operator_none, operator_stops, operator_is, block_stops, block_last_stops, block_is, cases_stop, cases_are, cases_miss, expr_stops, expr_is, kind_is, let_none, let_stops, let_is, let_bound, match_stops, match_diverges, match_is, record_refuses, record_stops, record_meet_stops, record_is, right_refuses, right_stops, right_last_stops, right_is, stmt_let, stmt_none, stmt_is, field_none, match_none, operator_first, return_stops, return_is}
use Rattle.expr.proofs.Given.{ready_settled, accessed_given, ready_typed, ready_inner, own_inner, coded_inner, inner_live, ready_opened, ready_recorded, field_coded, fielded_from}
use Rattle.expr.proofs.Kept.{after, coded_more, handed_on}
use Rattle.expr.proofs.Keeps.{lent}
use Rattle.expr.specs.Lent.{env_of}
use Rattle.expr.proofs.Lists.{arms_end, arms_ended, arms_stop, arms_go, fields_end, fields_stop, fields_go, stmts_end, stmts_stop, stmts_go}
use Rattle.expr.proofs.Recursions.{expr_none, guard_none, guard_more, last_none, last_more, returned_none, returned_more, unknown_kind}
use Rattle.expr.proofs.Coding.{plan_coded, bool_coded, unit_coded, definition_coded}
use Rattle.laws.proofs.Choice.{yes, no}
use native.Mathlib.Omega.{arith}
use Rattle.laws.specs.Choice.{pick}
use Rattle.pack.specs.Kinds.{node_number}
use Rattle.expr.proofs.state.State.+rules.Goals as goal

-- ---- access_field

pub access_field-expr-requires : goal.access_field-expr-requires
access_field-expr-requires t c = (search rules, ready_typed c.requires.0 c.fresh_type.ensures c.in_ok-own.was)

pub access_field-resolve_type-x-requires : goal.access_field-resolve_type-x-requires
access_field-resolve_type-x-requires t c = inner_live c.requires.0 c.fresh_type.ensures c.in_ok-own.was c.expr.ensures.ran c.in_ok-o.was

pub access_field-field_type-requires : goal.access_field-field_type-requires
access_field-field_type-requires t c = ((ready_settled (ready_inner c.requires.0 c.fresh_type.ensures c.in_ok-own.was c.expr.ensures.ran c.in_ok-o.was) c.resolve_type-x.ensures).live, (coded_inner c.requires.0 c.fresh_type.ensures c.in_ok-own.was c.expr.ensures.ran c.in_ok-o.was c.requires.1, accessed_given (env_of c.args.env.now) c.args.env.now.marked _ _ c.accessed.ensures c.in-Ok.is _))

pub access_field-returns-in_err-own-clause-ran : goal.access_field-returns-in_err-own-clause-ran
access_field-returns-in_err-own-clause-ran t c = handed_on c.from_residual.ensures.1 (field_none (lent c.args.env.now c.requires.0) c.requires.1 _ _ c.args.n c.fresh_type.ensures c.in_err-own.was)

pub access_field-returns-in_err-o-clause-ran : goal.access_field-returns-in_err-o-clause-ran
access_field-returns-in_err-o-clause-ran t c = handed_on c.from_residual-in_err-o.ensures.1 (field_stops (lent c.args.env.now c.requires.0) c.requires.1 _ _ _ c.fresh_type.ensures c.in_ok-own.was c.expr.ensures.ran c.in_err-o.was)

pub access_field-returns-in-Err-clause-ran : goal.access_field-returns-in-Err-clause-ran
access_field-returns-in-Err-clause-ran t c = field_is (lent c.args.env.now c.requires.0) c.requires.1 _ _ _ c.fresh_type.ensures c.in_ok-own.was c.expr.ensures.ran c.in_ok-o.was c.resolve_type-x.ensures c.accessed.ensures c.in-Err.is (is (ap Err c.at.ensures))

pub access_field-returns-in-Ok-clause-ran : goal.access_field-returns-in-Ok-clause-ran
access_field-returns-in-Ok-clause-ran t c = field_found (lent c.args.env.now c.requires.0) c.requires.1 _ _ _ c.fresh_type.ensures c.in_ok-own.was c.expr.ensures.ran c.in_ok-o.was c.resolve_type-x.ensures c.accessed.ensures c.in-Ok.is c.field_type.ensures

-- ---- arm

pub arm-arm_body-requires : goal.arm-arm_body-requires
arm-arm_body-requires t c = (search rules, (c.requires.0, ((ready_opened (lent c.args.env.now c.requires.1.0) _ _ _ c.arm_fault-found.ensures c.in_default.is c.open_payload.ensures), c.requires.1.1)))

pub arm-returns-then-open_payload-clause-ran : goal.arm-returns-then-open_payload-clause-ran
arm-returns-then-open_payload-clause-ran t c = arm_is (lent c.args.env.now c.requires.1.0) c.requires.1.1 _ _ _ _ _ c.list_item-name.ensures.same c.list_item-payload.ensures.same c.arm_fault-found.ensures c.in_default.is c.open_payload.ensures c.if-open_payload.true c.arm_body.ensures.ran

pub arm-returns-else-open_payload-clause-ran : goal.arm-returns-else-open_payload-clause-ran
arm-returns-else-open_payload-clause-ran t c = arm_bound (lent c.args.env.now c.requires.1.0) c.requires.1.1 _ _ _ _ _ c.list_item-name.ensures.same c.list_item-payload.ensures.same c.arm_fault-found.ensures c.in_default.is c.open_payload.ensures c.if-open_payload.false (is (ap Err c.at-else-open_payload.ensures))

pub arm-returns-in-Some-clause-ran : goal.arm-returns-in-Some-clause-ran
arm-returns-in-Some-clause-ran t c = arm_refuses (lent c.args.env.now c.requires.1.0) c.requires.1.1 _ _ _ _ _ c.list_item-name.ensures.same c.list_item-payload.ensures.same c.arm_fault-found.ensures c.in-Some.is (is (ap Err c.at.ensures))

-- ---- arm_body

pub arm_body-returns-in_err-g-clause-ran : goal.arm_body-returns-in_err-g-clause-ran
arm_body-returns-in_err-g-clause-ran t c = handed_on c.from_residual.ensures.1 (body_guard_stops (lent c.args.env.now c.requires.1.0) c.requires.1.1 _ _ _ _ c.list_item-guard.ensures.same c.guarded.ensures.ran c.in_err-g.was)

pub arm_body-returns-in_err-o-clause-ran : goal.arm_body-returns-in_err-o-clause-ran
arm_body-returns-in_err-o-clause-ran t c = handed_on c.from_residual-in_err-o.ensures.1 (body_stops (lent c.args.env.now c.requires.1.0) c.requires.1.1 _ _ _ _ c.list_item-guard.ensures.same c.guarded.ensures.ran c.in_ok-g.was c.list_item-body.ensures.same c.expr.ensures.ran c.in_err-o.was)

pub arm_body-returns-clause-ran : goal.arm_body-returns-clause-ran
arm_body-returns-clause-ran t c = body_is (lent c.args.env.now c.requires.1.0) c.requires.1.1 _ _ _ _ c.list_item-guard.ensures.same c.guarded.ensures.ran c.in_ok-g.was c.list_item-body.ensures.same c.expr.ensures.ran c.in_ok-o.was c.close_payload.ensures c.done.ensures

-- ---- arms_in_order

pub arms_in_order-returns-then-ended-clause-ran : goal.arms_in_order-returns-then-ended-clause-ran
arms_in_order-returns-then-ended-clause-ran t c = arms_ended (lent c.args.env.now c.requires.1.0) _ _ _ _ c.requires.1.1 _ _ _ _ c.loop-k.invariant.left c.loop-k-test.true c.if-ended.true c.list_item.ensures.same (is (ap Err c.at.ensures))

pub arms_in_order-returns-in_err-o-clause-ran : goal.arms_in_order-returns-in_err-o-clause-ran
arms_in_order-returns-in_err-o-clause-ran t c = handed_on c.from_residual.ensures.1 (arms_stop (lent c.args.env.now c.requires.1.0) _ _ _ _ c.requires.1.1 _ _ _ _ c.loop-k.invariant.left c.loop-k-test.true c.if-ended.false c.arm.ensures.ran c.in_err-o.was)

pub arms_in_order-loop-k-preserved : goal.arms_in_order-loop-k-preserved
arms_in_order-loop-k-preserved t c = record { loans = search rules; left = arms_go (lent c.args.env.now c.requires.1.0) _ _ _ _ c.requires.1.1 _ _ _ _ c.loop-k.invariant.left c.loop-k-test.true c.if-ended.false c.arm.ensures.ran c.in_ok-o.was c.ends_arms-ended.ensures (search rules) }

pub arms_in_order-returns-clause-ran : goal.arms_in_order-returns-clause-ran
arms_in_order-returns-clause-ran t c = arms_end (lent c.args.env.now c.requires.1.0) _ _ _ _ c.requires.1.1 _ _ _ _ c.loop-k.invariant.left c.loop-k-test.false c.done.ensures

-- ---- binop

pub binop-operand_type-requires : goal.binop-operand_type-requires
binop-operand_type-requires t c = (after (c.bool_first.ensures.ran _ _ c.requires.0) c.in_ok-u.was).1.live

pub binop-expr-requires : goal.binop-expr-requires
binop-expr-requires t c = (search rules, ready_typed (after (c.bool_first.ensures.ran _ _ c.requires.0) c.in_ok-u.was).1 c.operand_type.ensures c.in_ok-own.was)

pub binop-right-requires : goal.binop-right-requires
binop-right-requires t c =
    let ran = c.bool_first.ensures.ran _ _ c.requires.0 in
    let given = (after ran c.in_ok-u.was).1 in
    let asked = c.operand_type.ensures in
    let typed = c.in_ok-own.was in
    let left = c.expr.ensures.ran in
    let done = c.in_ok-l.was in
    let coded = coded_inner given asked typed left done (coded_more (after ran c.in_ok-u.was).0 c.requires.1) in
    (search (rules, c.decreases), (ready_inner given asked typed left done, (coded, own_inner given asked typed left done)))

pub binop-returns-in_err-u-clause-ran : goal.binop-returns-in_err-u-clause-ran
binop-returns-in_err-u-clause-ran t c = handed_on c.from_residual.ensures.1 (operator_first (lent c.args.env.now c.requires.0) c.requires.1 _ _ c.args.n c.bool_first.ensures c.in_err-u.was)

pub binop-returns-in_err-own-clause-ran : goal.binop-returns-in_err-own-clause-ran
binop-returns-in_err-own-clause-ran t c = handed_on c.from_residual-in_err-own.ensures.1 (operator_none (lent c.args.env.now c.requires.0) c.requires.1 _ _ _ c.bool_first.ensures c.in_ok-u.was c.operand_type.ensures c.in_err-own.was)

pub binop-returns-in_err-l-clause-ran : goal.binop-returns-in_err-l-clause-ran
binop-returns-in_err-l-clause-ran t c = handed_on c.from_residual-in_err-l.ensures.1 (operator_stops (lent c.args.env.now c.requires.0) c.requires.1 _ _ _ c.bool_first.ensures c.in_ok-u.was c.operand_type.ensures c.in_ok-own.was c.expr.ensures.ran c.in_err-l.was)

pub binop-returns-clause-ran : goal.binop-returns-clause-ran
binop-returns-clause-ran t c = operator_is (lent c.args.env.now c.requires.0) c.requires.1 _ _ _ c.bool_first.ensures c.in_ok-u.was c.operand_type.ensures c.in_ok-own.was c.expr.ensures.ran c.in_ok-l.was c.right.ensures.ran

-- ---- block

pub block-returns-in_err-o-clause-ran : goal.block-returns-in_err-o-clause-ran
block-returns-in_err-o-clause-ran t c = handed_on c.from_residual.ensures.1 (block_stops (lent c.args.env.now c.requires.0) c.requires.1 _ _ _ c.list_len-left.ensures.same c.stmts.ensures.ran c.in_err-o.was)

pub block-returns-in_err-l-clause-ran : goal.block-returns-in_err-l-clause-ran
block-returns-in_err-l-clause-ran t c = handed_on c.from_residual-in_err-l.ensures.1 (block_last_stops (lent c.args.env.now c.requires.0) c.requires.1 _ _ _ c.list_len-left.ensures.same c.stmts.ensures.ran c.in_ok-o.was c.last.ensures.ran c.in_err-l.was)

pub block-returns-clause-ran : goal.block-returns-clause-ran
block-returns-clause-ran t c = block_is (lent c.args.env.now c.requires.0) c.requires.1 _ _ _ c.list_len-left.ensures.same c.stmts.ensures.ran c.in_ok-o.was c.last.ensures.ran c.in_ok-l.was c.close_lets.ensures c.last_code-code.ensures c.record_type.ensures (search rules) c.done.ensures

-- ---- cases

pub cases-returns-in_err-o-clause-ran : goal.cases-returns-in_err-o-clause-ran
cases-returns-in_err-o-clause-ran t c = handed_on c.from_residual.ensures.1 (cases_stop (lent c.args.env.now c.requires.0) c.requires.1 _ _ _ _ c.list_len-left.ensures.same c.arms_in_order.ensures.ran c.in_err-o.was)

pub cases-returns-then-missing-eq0-clause-ran : goal.cases-returns-then-missing-eq0-clause-ran
cases-returns-then-missing-eq0-clause-ran t c = cases_are (lent c.args.env.now c.requires.0) c.requires.1 _ _ _ _ c.list_len-left.ensures.same c.arms_in_order.ensures.ran c.in_ok-o.was c.missing_variants-missing.ensures c.if-missing-eq0.true c.done.ensures

pub cases-returns-else-missing-eq0-clause-ran : goal.cases-returns-else-missing-eq0-clause-ran
cases-returns-else-missing-eq0-clause-ran t c = cases_miss (lent c.args.env.now c.requires.0) c.requires.1 _ _ _ _ c.list_len-left.ensures.same c.arms_in_order.ensures.ran c.in_ok-o.was c.missing_variants-missing.ensures c.if-missing-eq0.false (is (ap (λ (d : ℕ). Err (refusal NotExhaustive c.args.id d)) c.from.ensures))

-- ---- expr

pub expr-returns-then-depth-eq0-clause-ran : goal.expr-returns-then-depth-eq0-clause-ran
expr-returns-then-depth-eq0-clause-ran t c = meets_expr (lent c.args.env.now c.requires.0) _ c.requires.1 _ (expr_none _ _ _ _ _ _ c.if-depth-eq0.true (unfold expr_rule in is (ap Err c.at.ensures)))

pub expr-rule-requires : goal.expr-rule-requires
expr-rule-requires t c = (search rules, ((ready_recorded c.requires.0 _ _ c.record_type.ensures c.requires.1), c.requires.1))

pub expr-returns-in_err-o-clause-ran : goal.expr-returns-in_err-o-clause-ran
expr-returns-in_err-o-clause-ran t c = handed_on c.from_residual.ensures.1 (expr_stops (lent c.args.env.now c.requires.0) c.requires.1 _ _ c.if-depth-eq0.false c.expression_row-n.ensures c.record_type.ensures c.rule.ensures.ran c.in_err-o.was)

pub expr-returns-clause-ran : goal.expr-returns-clause-ran
expr-returns-clause-ran t c = expr_is (lent c.args.env.now c.requires.0) c.requires.1 _ _ c.if-depth-eq0.false c.expression_row-n.ensures c.record_type.ensures c.rule.ensures.ran c.in_ok-o.was c.seal.ensures

-- ---- fields_in_order

pub fields_in_order-expr-requires : goal.fields_in_order-expr-requires
fields_in_order-expr-requires t c = (search rules, (c.loop-k.invariant.left.ready, field_coded c.requires.0.1 c.loop-k-test.true c.list_item-name.ensures.same c.member_of-t.ensures c.type_code-code.ensures))

pub fields_in_order-returns-in_err-o-clause-ran : goal.fields_in_order-returns-in_err-o-clause-ran
fields_in_order-returns-in_err-o-clause-ran t c = handed_on c.from_residual.ensures.1 (fields_stop (lent c.args.env.now c.requires.1) _ _ _ _ _ _ c.requires.0.1 c.loop-k.invariant.left c.loop-k-test.true c.list_item-name.ensures.same c.list_item-value.ensures.same c.member_of-t.ensures c.type_code-code.ensures c.expr.ensures.ran c.in_err-o.was)

pub fields_in_order-loop-k-preserved : goal.fields_in_order-loop-k-preserved
fields_in_order-loop-k-preserved t c = record { loans = search rules; left = fields_go (lent c.args.env.now c.requires.1) _ _ _ _ _ _ c.requires.0.1 c.loop-k.invariant.left c.loop-k-test.true c.list_item-name.ensures.same c.list_item-value.ensures.same c.member_of-t.ensures c.type_code-code.ensures c.expr.ensures.ran c.in_ok-o.was (search rules) }

pub fields_in_order-returns-clause-ran : goal.fields_in_order-returns-clause-ran
fields_in_order-returns-clause-ran t c = fields_end (lent c.args.env.now c.requires.1) _ _ _ _ _ _ c.requires.0.1 c.loop-k.invariant.left c.loop-k-test.false c.done.ensures

-- ---- guarded

pub guarded-expr-requires : goal.guarded-expr-requires
guarded-expr-requires t c = (search rules, (c.requires, bool_coded _))

pub guarded-returns-then-guard-eq0-clause-ran : goal.guarded-returns-then-guard-eq0-clause-ran
guarded-returns-then-guard-eq0-clause-ran t c = meets_guard (lent c.args.env.now c.requires) _ _ (guard_none _ _ _ _ c.if-guard-eq0.true (unfold guard_rule in is c.done.ensures))

pub guarded-returns-clause-ran : goal.guarded-returns-clause-ran
guarded-returns-clause-ran t c = meets_guard (lent c.args.env.now c.requires) _ _ (guard_more _ _ _ _ c.if-guard-eq0.false (unfold guard_rule in c.expr.ensures.ran.same))

-- ---- last

pub last-meet-requires : goal.last-meet-requires
last-meet-requires t c = (c.requires.0.live, (c.requires.1, unit_coded _))

pub last-returns-then-d-clause-ran : goal.last-returns-then-d-clause-ran
last-returns-then-d-clause-ran t c = meets_last (lent c.args.env.now c.requires.0) _ c.requires.1 _ _ _ (last_none _ _ _ _ _ _ _ _ c.if-last-eq0.true (unfold last_rule in yes _ _ _ c.if-d.true (is c.done.ensures)))

pub last-returns-then-last-eq0-clause-ran : goal.last-returns-then-last-eq0-clause-ran
last-returns-then-last-eq0-clause-ran t c = meets_last (lent c.args.env.now c.requires.0) _ c.requires.1 _ _ _ (last_none _ _ _ _ _ _ _ _ c.if-last-eq0.true (unfold last_rule in no _ _ _ c.if-d.false (c.meet.ensures.ran _ _ c.requires.0).same))

pub last-returns-clause-ran : goal.last-returns-clause-ran
last-returns-clause-ran t c = meets_last (lent c.args.env.now c.requires.0) _ c.requires.1 _ _ _ (last_more _ _ _ _ _ _ _ _ c.if-last-eq0.false (unfold last_rule in c.expr.ensures.ran.same))

-- ---- let_stmt

pub let_stmt-expr-requires : goal.let_stmt-expr-requires
let_stmt-expr-requires t c = (search rules, ready_typed (ready_recorded c.requires _ _ c.record_type.ensures (unit_coded _)) c.let_type.ensures c.in_ok-own.was)

pub let_stmt-open_slot-requires : goal.let_stmt-open_slot-requires
let_stmt-open_slot-requires t c = (ready_typed (ready_recorded c.requires _ _ c.record_type.ensures (unit_coded _)) c.let_type.ensures c.in_ok-own.was).1.small

pub let_stmt-returns-in_err-own-clause-ran : goal.let_stmt-returns-in_err-own-clause-ran
let_stmt-returns-in_err-own-clause-ran t c = handed_on c.from_residual.ensures.1 (let_none (lent c.args.env.now c.requires) _ _ _ c.record_type.ensures c.let_type.ensures c.in_err-own.was)

pub let_stmt-returns-in_err-o-clause-ran : goal.let_stmt-returns-in_err-o-clause-ran
let_stmt-returns-in_err-o-clause-ran t c = handed_on c.from_residual-in_err-o.ensures.1 (let_stops (lent c.args.env.now c.requires) _ _ _ c.record_type.ensures c.let_type.ensures c.in_ok-own.was c.expr.ensures.ran c.in_err-o.was)

pub let_stmt-returns-then-open_slot-clause-ran : goal.let_stmt-returns-then-open_slot-clause-ran
let_stmt-returns-then-open_slot-clause-ran t c = let_is (lent c.args.env.now c.requires) _ _ _ c.record_type.ensures c.let_type.ensures c.in_ok-own.was c.expr.ensures.ran c.in_ok-o.was c.open_slot.ensures c.if-open_slot.true c.seal.ensures c.done.ensures

pub let_stmt-returns-else-open_slot-clause-ran : goal.let_stmt-returns-else-open_slot-clause-ran
let_stmt-returns-else-open_slot-clause-ran t c = let_bound (lent c.args.env.now c.requires) _ _ _ c.record_type.ensures c.let_type.ensures c.in_ok-own.was c.expr.ensures.ran c.in_ok-o.was c.open_slot.ensures c.if-open_slot.false (is (ap Err c.at.ensures))

-- ---- match_expr

pub match_expr-expr-requires : goal.match_expr-expr-requires
match_expr-expr-requires t c = (search rules, ready_typed c.requires.0 c.fresh_type.ensures c.in_ok-own.was)

pub match_expr-returns-then-o-clause-ran : goal.match_expr-returns-then-o-clause-ran
match_expr-returns-then-o-clause-ran t c = match_diverges (lent c.args.env.now c.requires.0) c.requires.1 _ _ _ c.fresh_type.ensures c.in_ok-own.was c.expr.ensures.ran c.in_ok-o.was c.if-o.true (is (ap Err c.at.ensures))

pub match_expr-resolve_type-x-requires : goal.match_expr-resolve_type-x-requires
match_expr-resolve_type-x-requires t c = inner_live c.requires.0 c.fresh_type.ensures c.in_ok-own.was c.expr.ensures.ran c.in_ok-o.was

pub match_expr-cases-requires : goal.match_expr-cases-requires
match_expr-cases-requires t c = (search (rules, c.decreases), (ready_settled (ready_inner c.requires.0 c.fresh_type.ensures c.in_ok-own.was c.expr.ensures.ran c.in_ok-o.was) c.resolve_type-x.ensures, coded_inner c.requires.0 c.fresh_type.ensures c.in_ok-own.was c.expr.ensures.ran c.in_ok-o.was c.requires.1))

pub match_expr-returns-in_err-own-clause-ran : goal.match_expr-returns-in_err-own-clause-ran
match_expr-returns-in_err-own-clause-ran t c = handed_on c.from_residual.ensures.1 (match_none (lent c.args.env.now c.requires.0) c.requires.1 _ _ c.args.n c.fresh_type.ensures c.in_err-own.was)

pub match_expr-returns-in_err-o-clause-ran : goal.match_expr-returns-in_err-o-clause-ran
match_expr-returns-in_err-o-clause-ran t c = handed_on c.from_residual-in_err-o.ensures.1 (match_stops (lent c.args.env.now c.requires.0) c.requires.1 _ _ _ c.fresh_type.ensures c.in_ok-own.was c.expr.ensures.ran c.in_err-o.was)

pub match_expr-returns-in-Other-clause-ran : goal.match_expr-returns-in-Other-clause-ran
match_expr-returns-in-Other-clause-ran t c = match_is (lent c.args.env.now c.requires.0) c.requires.1 _ _ _ c.fresh_type.ensures c.in_ok-own.was c.expr.ensures.ran c.in_ok-o.was c.resolve_type-x.ensures c.if-o.false c.examined.ensures c.in-Other.is (is (ap Err c.at-in-Other.ensures))

pub match_expr-returns-in-Generic-clause-ran : goal.match_expr-returns-in-Generic-clause-ran
match_expr-returns-in-Generic-clause-ran t c = match_is (lent c.args.env.now c.requires.0) c.requires.1 _ _ _ c.fresh_type.ensures c.in_ok-own.was c.expr.ensures.ran c.in_ok-o.was c.resolve_type-x.ensures c.if-o.false c.examined.ensures c.in-Generic.is (is (ap Err c.at-in-Generic.ensures))

pub match_expr-returns-in-Enum-clause-ran : goal.match_expr-returns-in-Enum-clause-ran
match_expr-returns-in-Enum-clause-ran t c = match_is (lent c.args.env.now c.requires.0) c.requires.1 _ _ _ c.fresh_type.ensures c.in_ok-own.was c.expr.ensures.ran c.in_ok-o.was c.resolve_type-x.ensures c.if-o.false c.examined.ensures c.in-Enum.is c.cases.ensures.ran.same

-- ---- record_fields

pub record_fields-fields_in_order-requires : goal.record_fields-fields_in_order-requires
record_fields-fields_in_order-requires t c = (search rules, ((search rules, fielded_from _ _ c.args.env.now.marked c.record_fault.ensures c.in_default.is c.definition_row-row.ensures c.list_len-left.ensures.same), c.requires.0))

pub record_fields-meet-requires : goal.record_fields-meet-requires
record_fields-meet-requires t c = ((after c.fields_in_order.ensures.ran c.in_ok-o.was).1.live, (coded_more (after c.fields_in_order.ensures.ran c.in_ok-o.was).0 c.requires.1, rw c.definition_code-code.ensures (definition_coded _ _)))

pub record_fields-returns-in_err-o-clause-ran : goal.record_fields-returns-in_err-o-clause-ran
record_fields-returns-in_err-o-clause-ran t c = handed_on c.from_residual.ensures.1 (record_stops (lent c.args.env.now c.requires.0) c.requires.1 _ _ _ c.record_fault.ensures c.in_default.is c.definition_row-row.ensures c.list_len-left.ensures.same c.fields_in_order.ensures.ran c.in_err-o.was)

pub record_fields-returns-in_err-u-clause-ran : goal.record_fields-returns-in_err-u-clause-ran
record_fields-returns-in_err-u-clause-ran t c = handed_on c.from_residual-in_err-u.ensures.1 (record_meet_stops (lent c.args.env.now c.requires.0) c.requires.1 _ _ _ c.record_fault.ensures c.in_default.is c.definition_row-row.ensures c.list_len-left.ensures.same c.fields_in_order.ensures.ran c.in_ok-o.was c.definition_code-code.ensures c.meet.ensures c.in_err-u.was)

pub record_fields-returns-clause-ran : goal.record_fields-returns-clause-ran
record_fields-returns-clause-ran t c = record_is (lent c.args.env.now c.requires.0) c.requires.1 _ _ _ c.record_fault.ensures c.in_default.is c.definition_row-row.ensures c.list_len-left.ensures.same c.fields_in_order.ensures.ran c.in_ok-o.was c.definition_code-code.ensures c.meet.ensures c.in_ok-u.was c.done.ensures

pub record_fields-returns-in-Some-clause-ran : goal.record_fields-returns-in-Some-clause-ran
record_fields-returns-in-Some-clause-ran t c = record_refuses (lent c.args.env.now c.requires.0) c.requires.1 _ _ _ c.record_fault.ensures c.in-Some.is refl

-- ---- return_expr

pub return_expr-returns-in_err-o-clause-ran : goal.return_expr-returns-in_err-o-clause-ran
return_expr-returns-in_err-o-clause-ran t c = handed_on c.from_residual.ensures.1 (return_stops (lent c.args.env.now c.requires) _ _ c.args.n c.returned.ensures.ran c.in_err-o.was)

pub return_expr-returns-clause-ran : goal.return_expr-returns-clause-ran
return_expr-returns-clause-ran t c = return_is (lent c.args.env.now c.requires) _ _ c.args.n c.returned.ensures.ran c.in_ok-o.was c.done.ensures

-- ---- returned

pub returned-meet-requires : goal.returned-meet-requires
returned-meet-requires t c = (c.requires.live, ((coded_more (omega arith) c.args.env.now.returns), unit_coded _))

pub returned-returns-then-value-eq0-clause-ran : goal.returned-returns-then-value-eq0-clause-ran
returned-returns-then-value-eq0-clause-ran t c = meets_returned (lent c.args.env.now c.requires) _ _ _ (returned_none _ _ _ _ _ _ c.if-value-eq0.true (unfold returned_rule in (c.meet.ensures.ran _ _ c.requires).same))

pub returned-returns-clause-ran : goal.returned-returns-clause-ran
returned-returns-clause-ran t c = meets_returned (lent c.args.env.now c.requires) _ _ _ (returned_more _ _ _ _ _ _ c.if-value-eq0.false (unfold returned_rule in c.expr.ensures.ran.same))

-- ---- right

pub right-expr-requires : goal.right-expr-requires
right-expr-requires t c = (search rules, ((ready_settled c.requires.0 c.resolve_type-x.ensures), (plan_coded _ _ _ _ (sym c.operator_plan.ensures ∙ c.in-Ok.is) c.requires.1.1).0))

pub right-result_last-requires : goal.right-result_last-requires
right-result_last-requires t c = ((after c.expr.ensures.ran c.in_ok-r-in-Ok.was).1.live, (coded_more (after c.expr.ensures.ran c.in_ok-r-in-Ok.was).0 c.requires.1.0, coded_more (after c.expr.ensures.ran c.in_ok-r-in-Ok.was).0 (plan_coded _ _ _ _ (sym c.operator_plan.ensures ∙ c.in-Ok.is) c.requires.1.1).1))

pub right-returns-in_err-r-in-Ok-clause-ran : goal.right-returns-in_err-r-in-Ok-clause-ran
right-returns-in_err-r-in-Ok-clause-ran t c = handed_on c.from_residual.ensures.1 (right_stops (lent c.args.env.now c.requires.0) c.requires.1.0 _ _ _ c.requires.1.1 _ c.resolve_type-x.ensures c.is_list-list.ensures c.operator_plan.ensures c.in-Ok.is c.expr.ensures.ran c.in_err-r-in-Ok.was)

pub right-returns-in_err-u-in-Ok-clause-ran : goal.right-returns-in_err-u-in-Ok-clause-ran
right-returns-in_err-u-in-Ok-clause-ran t c = handed_on c.from_residual-in_err-u-in-Ok.ensures.1 (right_last_stops (lent c.args.env.now c.requires.0) c.requires.1.0 _ _ _ c.requires.1.1 _ c.resolve_type-x.ensures c.is_list-list.ensures c.operator_plan.ensures c.in-Ok.is c.expr.ensures.ran c.in_ok-r-in-Ok.was c.result_last.ensures c.in_err-u-in-Ok.was)

pub right-returns-after-d-clause-ran : goal.right-returns-after-d-clause-ran
right-returns-after-d-clause-ran t c = right_is (lent c.args.env.now c.requires.0) c.requires.1.0 _ _ _ c.requires.1.1 _ c.resolve_type-x.ensures c.is_list-list.ensures c.operator_plan.ensures c.in-Ok.is c.expr.ensures.ran c.in_ok-r-in-Ok.was c.result_last.ensures c.in_ok-u-in-Ok.was (search rules) (rw c.call_number.ensures at c.done.ensures)

pub right-returns-in-Err-clause-ran : goal.right-returns-in-Err-clause-ran
right-returns-in-Err-clause-ran t c = right_refuses (lent c.args.env.now c.requires.0) c.requires.1.0 _ _ _ c.requires.1.1 _ c.resolve_type-x.ensures c.is_list-list.ensures c.operator_plan.ensures c.in-Err.is (is (ap Err c.at.ensures))

-- ---- rule

pub rule-returns-in-Ok-Literal-clause-ran : goal.rule-returns-in-Ok-Literal-clause-ran
rule-returns-in-Ok-Literal-clause-ran t c = kind_is (lent c.args.env.now c.requires.0) c.requires.1 _ _ c.args.n (c.in-Ok-Literal.ensures ∙ ap node_number c.in-Ok-Literal.field-0-is) (unfold kind_rule pick in (c.literal.ensures.ran _ _ c.requires.0).same)

pub rule-returns-in-Ok-Slot-clause-ran : goal.rule-returns-in-Ok-Slot-clause-ran
rule-returns-in-Ok-Slot-clause-ran t c = kind_is (lent c.args.env.now c.requires.0) c.requires.1 _ _ c.args.n (c.in-Ok-Slot.ensures ∙ ap node_number c.in-Ok-Slot.field-0-is) (unfold kind_rule pick in (c.slot.ensures.ran _ c.requires.0).same)

pub rule-returns-in-Ok-Block-clause-ran : goal.rule-returns-in-Ok-Block-clause-ran
rule-returns-in-Ok-Block-clause-ran t c = kind_is (lent c.args.env.now c.requires.0) c.requires.1 _ _ c.args.n (c.in-Ok-Block.ensures ∙ ap node_number c.in-Ok-Block.field-0-is) (unfold kind_rule pick in c.block.ensures.ran.same)

pub rule-returns-in-Ok-Let-clause-ran : goal.rule-returns-in-Ok-Let-clause-ran
rule-returns-in-Ok-Let-clause-ran t c = kind_is (lent c.args.env.now c.requires.0) c.requires.1 _ _ c.args.n (c.in-Ok-Let.ensures ∙ ap node_number c.in-Ok-Let.field-0-is) (unfold kind_rule pick in is (ap Err c.at.ensures))

pub rule-returns-in-Ok-Match-clause-ran : goal.rule-returns-in-Ok-Match-clause-ran
rule-returns-in-Ok-Match-clause-ran t c = kind_is (lent c.args.env.now c.requires.0) c.requires.1 _ _ c.args.n (c.in-Ok-Match.ensures ∙ ap node_number c.in-Ok-Match.field-0-is) (unfold kind_rule pick in c.match_expr.ensures.ran.same)

pub rule-returns-in-Ok-Operator-clause-ran : goal.rule-returns-in-Ok-Operator-clause-ran
rule-returns-in-Ok-Operator-clause-ran t c = kind_is (lent c.args.env.now c.requires.0) c.requires.1 _ _ c.args.n (c.in-Ok-Operator.ensures ∙ ap node_number c.in-Ok-Operator.field-0-is) (unfold kind_rule pick in c.binop.ensures.ran.same)

pub rule-returns-in-Ok-Record-clause-ran : goal.rule-returns-in-Ok-Record-clause-ran
rule-returns-in-Ok-Record-clause-ran t c = kind_is (lent c.args.env.now c.requires.0) c.requires.1 _ _ c.args.n (c.in-Ok-Record.ensures ∙ ap node_number c.in-Ok-Record.field-0-is) (unfold kind_rule pick in c.record_fields.ensures.ran.same)

pub rule-returns-in-Ok-Field-clause-ran : goal.rule-returns-in-Ok-Field-clause-ran
rule-returns-in-Ok-Field-clause-ran t c = kind_is (lent c.args.env.now c.requires.0) c.requires.1 _ _ c.args.n (c.in-Ok-Field.ensures ∙ ap node_number c.in-Ok-Field.field-0-is) (unfold kind_rule pick in c.access_field.ensures.ran.same)

pub rule-returns-in-Ok-Return-clause-ran : goal.rule-returns-in-Ok-Return-clause-ran
rule-returns-in-Ok-Return-clause-ran t c = kind_is (lent c.args.env.now c.requires.0) c.requires.1 _ _ c.args.n (c.in-Ok-Return.ensures ∙ ap node_number c.in-Ok-Return.field-0-is) (unfold kind_rule pick in c.return_expr.ensures.ran.same)

pub rule-returns-in-Err-clause-ran : goal.rule-returns-in-Err-clause-ran
rule-returns-in-Err-clause-ran t c = meets_kind (lent c.args.env.now c.requires.0) _ c.requires.1 _ c.args.n _ (unknown_kind _ _ _ c.args.n _ _ _ c.in-Err.ensures.0 (is (ap Err c.at-in-Err.ensures)))

-- ---- stmt

pub stmt-returns-then-n-clause-ran : goal.stmt-returns-then-n-clause-ran
stmt-returns-then-n-clause-ran t c = stmt_let (lent c.args.env.now c.requires) _ _ c.expression_row-n.ensures c.if-n.true c.let_stmt.ensures.ran

pub stmt-expr-requires : goal.stmt-expr-requires
stmt-expr-requires t c = (search rules, ready_typed c.requires c.fresh_type.ensures c.in_ok-own.was)

pub stmt-returns-in_err-own-clause-ran : goal.stmt-returns-in_err-own-clause-ran
stmt-returns-in_err-own-clause-ran t c = handed_on c.from_residual.ensures.1 (stmt_none (lent c.args.env.now c.requires) _ _ c.expression_row-n.ensures c.if-n.false c.fresh_type.ensures c.in_err-own.was)

pub stmt-returns-clause-ran : goal.stmt-returns-clause-ran
stmt-returns-clause-ran t c = stmt_is (lent c.args.env.now c.requires) _ _ c.expression_row-n.ensures c.if-n.false c.fresh_type.ensures c.in_ok-own.was c.expr.ensures.ran

-- ---- stmts

pub stmts-returns-in_err-o-clause-ran : goal.stmts-returns-in_err-o-clause-ran
stmts-returns-in_err-o-clause-ran t c = handed_on c.from_residual.ensures.1 (stmts_stop (lent c.args.env.now c.requires) _ _ _ _ _ c.loop-k.invariant.left c.loop-k-test.true c.list_item-id.ensures.same c.stmt.ensures.ran c.in_err-o.was)

pub stmts-loop-k-preserved : goal.stmts-loop-k-preserved
stmts-loop-k-preserved t c = record { loans = search rules; left = stmts_go (lent c.args.env.now c.requires) _ _ _ _ _ c.loop-k.invariant.left c.loop-k-test.true c.list_item-id.ensures.same c.stmt.ensures.ran c.in_ok-o.was (search rules) }

pub stmts-returns-clause-ran : goal.stmts-returns-clause-ran
stmts-returns-clause-ran t c = stmts_end (lent c.args.env.now c.requires) _ _ _ _ _ c.loop-k.invariant.left c.loop-k-test.false c.done.ensures
