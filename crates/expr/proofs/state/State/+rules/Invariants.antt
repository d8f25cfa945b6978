-- The measures of the cycle.
use Prim.Native.Nat.{◌+◌, ◌*◌}
use Rattle.expr.specs.Lent.{SameLoans, env_of, state_of}
use Rattle.expr.proofs.Lists.{ArmsLeft, FieldsLeft, StmtsLeft}
use Rattle.expr.proofs.state.State.+rules.Given as goal

abbrev pub decreases-access_field : goal.decreases-access_field
decreases-access_field l = l.depth * 1000000 + 800000

abbrev pub decreases-arm : goal.decreases-arm
decreases-arm l = l.depth * 1000000 + 3

abbrev pub decreases-arm_body : goal.decreases-arm_body
decreases-arm_body l = l.depth * 1000000 + 2

abbrev pub decreases-arms_in_order : goal.decreases-arms_in_order
decreases-arms_in_order l = l.depth * 1000000 + 4

abbrev pub decreases-binop : goal.decreases-binop
decreases-binop l = l.depth * 1000000 + 800000

abbrev pub decreases-block : goal.decreases-block
decreases-block l = l.depth * 1000000 + 800000

abbrev pub decreases-cases : goal.decreases-cases
decreases-cases l = l.depth * 1000000 + 700000

abbrev pub decreases-expr : goal.decreases-expr
decreases-expr l = l.depth * 1000000

abbrev pub decreases-fields_in_order : goal.decreases-fields_in_order
decreases-fields_in_order l = l.depth * 1000000 + 1

abbrev pub decreases-guarded : goal.decreases-guarded
decreases-guarded l = l.depth * 1000000 + 1

abbrev pub decreases-last : goal.decreases-last
decreases-last l = l.depth * 1000000 + 1

abbrev pub decreases-let_stmt : goal.decreases-let_stmt
decreases-let_stmt l = l.depth * 1000000 + 1

abbrev pub decreases-match_expr : goal.decreases-match_expr
decreases-match_expr l = l.depth * 1000000 + 800000

abbrev pub decreases-record_fields : goal.decreases-record_fields
decreases-record_fields l = l.depth * 1000000 + 800000

abbrev pub decreases-return_expr : goal.decreases-return_expr
decreases-return_expr l = l.depth * 1000000 + 2

abbrev pub decreases-returned : goal.decreases-returned
decreases-returned l = l.depth * 1000000 + 1

abbrev pub decreases-right : goal.decreases-right
decreases-right l = l.depth * 1000000 + 1

abbrev pub decreases-rule : goal.decreases-rule
decreases-rule l = l.depth * 1000000 + 900000

abbrev pub decreases-stmt : goal.decreases-stmt
decreases-stmt l = l.depth * 1000000 + 2

abbrev pub decreases-stmts : goal.decreases-stmts
decreases-stmts l = l.depth * 1000000 + 3

abbrev pub invariant-arms_in_order-loop-k : goal.invariant-arms_in_order-loop-k
invariant-arms_in_order-loop-k l =
    record { loans : SameLoans l.initial.self l.self; left : ArmsLeft l.depth (env_of l.env) l.id l.list l.arms l.n l.want l.vars (state_of l.initial.self) l.k l.ended l.d l.used (state_of l.self) }

abbrev pub invariant-fields_in_order-loop-k : goal.invariant-fields_in_order-loop-k
invariant-fields_in_order-loop-k l =
    record { loans : SameLoans l.initial.self l.self; left : FieldsLeft l.depth (env_of l.env) l.list l.fields l.n l.vars (state_of l.initial.self) l.k l.d l.used (state_of l.self) }

abbrev pub invariant-stmts-loop-k : goal.invariant-stmts-loop-k
invariant-stmts-loop-k l =
    record { loans : SameLoans l.initial.self l.self; left : StmtsLeft l.depth (env_of l.env) l.list l.n l.vars (state_of l.initial.self) l.k l.d l.used (state_of l.self) }
