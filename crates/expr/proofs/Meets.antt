-- The contract of each function below `expr`, from its answer: the rule keeps the state ready.
-- Assumes nothing.
use mathlib.Core.Path.{◌≡◌}
use mathlib.Core.List.{List}
use mathlib.Core.Bool.{Bool}
use Prim.Native.Nat.{ℕ}
use Rattle.pack.specs.declared.rows.ExpressionRow.{ExpressionRow}
use Rattle.expr.specs.State.{Env, State, Ans, ran, Step}
use Rattle.expr.specs.Rules.{let_rule, stmt_rule, stmts_rule, last_rule, block_rule, right_rule, operator_rule, guard_rule, body_rule, arm_rule, arms_rule, cases_rule, match_rule, fields_rule, record_rule, field_rule, returned_rule, return_rule, kind_rule, expr_rule}
use Rattle.expr.specs.Ready.{Coded, Fielded, Ran}
use Rattle.expr.proofs.Kept.{ran_keeps}
use Rattle.expr.proofs.Leaves.{guard_keeps}
use Rattle.expr.proofs.Keeps.{let_keeps, stmt_keeps, stmts_keeps, last_keeps, block_keeps, right_keeps, operator_keeps, body_keeps, arm_keeps, arms_keeps, cases_keeps, match_keeps, fields_keeps, record_keeps, field_keeps, returned_keeps, return_keeps, kind_keeps, Given, run_given}

-- an answer, which is the step and the arrays that it leaves, that is what a rule says
abbrev Met : ℕ → Step → List ℕ → List ℕ → List ℕ → Ans → Type 0
Met vars r c l w a = ran r c l w ≡ a → Ran vars a r c l w

module _ {e : Env} {vars : ℕ} {s : State} (g : Given e vars s) (depth : ℕ) {r : Step} {c l w : List ℕ} where
  pub meets_let : (id : ℕ) (n : ExpressionRow) → Met vars r c l w (let_rule (expr_rule depth e) e id n vars s)
  meets_let id n = ran_keeps (let_keeps _ _ id n vars s (run_given g depth) g.returns g.marked g.ready)

  pub meets_stmt : (id : ℕ) → Met vars r c l w (stmt_rule (expr_rule depth e) e id vars s)
  meets_stmt id = ran_keeps (stmt_keeps _ _ id vars s (run_given g depth) g.returns g.marked g.ready)

  pub meets_stmts : (list left k : ℕ) (d : Bool) → Met vars r c l w (stmts_rule (expr_rule depth e) e list left k d vars s)
  meets_stmts list left k d = ran_keeps (stmts_keeps _ _ list left k d vars s (run_given g depth) g.returns g.marked g.ready)

  pub meets_guard : (guard : ℕ) → Met vars r c l w (guard_rule (expr_rule depth e) guard vars s)
  meets_guard guard = ran_keeps (guard_keeps _ guard vars s (run_given g depth) g.ready)

  pub meets_fields : (list fields left k : ℕ) (d : Bool) → Fielded e list fields left k → Met vars r c l w (fields_rule (expr_rule depth e) e list fields left k d vars s)
  meets_fields list fields left k d f = ran_keeps (fields_keeps _ _ list fields left k d vars s (run_given g depth) g.returns f g.ready)

  pub meets_returned : (id value : ℕ) → Met vars r c l w (returned_rule (expr_rule depth e) e id value vars s)
  meets_returned id value = ran_keeps (returned_keeps _ _ id value vars s (run_given g depth) g.returns g.ready)

  pub meets_return : (id : ℕ) (n : ExpressionRow) → Met vars r c l w (return_rule (expr_rule depth e) e id n vars s)
  meets_return id n = ran_keeps (return_keeps _ _ id n vars s (run_given g depth) g.returns g.ready)

  module _ {want : ℕ} (k : Coded vars want) where
    pub meets_last : (id last : ℕ) (d : Bool) → Met vars r c l w (last_rule (expr_rule depth e) e id last want d vars s)
    meets_last id last d = ran_keeps (last_keeps _ _ id last want d vars s (run_given g depth) g.returns g.ready k)

    pub meets_block : (id : ℕ) (n : ExpressionRow) → Met vars r c l w (block_rule (expr_rule depth e) e id n want vars s)
    meets_block id n = ran_keeps (block_keeps _ _ id n want vars s (run_given g depth) g.returns g.marked g.ready k)

    pub meets_right : (id : ℕ) (n : ExpressionRow) {own : ℕ} → Coded vars own → (d : Bool) → Met vars r c l w (right_rule (expr_rule depth e) e id n want own d vars s)
    meets_right id n {own = own} o d = ran_keeps (right_keeps _ _ id n want own d vars s (run_given g depth) g.returns g.ready k o)

    pub meets_operator : (id : ℕ) (n : ExpressionRow) → Met vars r c l w (operator_rule (expr_rule depth e) e id n want vars s)
    meets_operator id n = ran_keeps (operator_keeps _ _ id n want vars s (run_given g depth) g.returns g.ready k)

    pub meets_body : (arms j payload : ℕ) → Met vars r c l w (body_rule (expr_rule depth e) e arms j payload want vars s)
    meets_body arms j payload = ran_keeps (body_keeps _ _ arms j payload want vars s (run_given g depth) g.returns g.ready k)

    pub meets_arm : (id list arms j : ℕ) → Met vars r c l w (arm_rule (expr_rule depth e) e id list arms j want vars s)
    meets_arm id list arms j = ran_keeps (arm_keeps _ _ id list arms j want vars s (run_given g depth) g.returns g.marked g.ready k)

    pub meets_arms : (id list arms left j : ℕ) (ended d : Bool) → Met vars r c l w (arms_rule (expr_rule depth e) e id list arms left j ended d want vars s)
    meets_arms id list arms left j ended d = ran_keeps (arms_keeps _ _ id list arms left j ended d want vars s (run_given g depth) g.returns g.marked g.ready k)

    pub meets_cases : (id list arms : ℕ) → Met vars r c l w (cases_rule (expr_rule depth e) e id list arms want vars s)
    meets_cases id list arms = ran_keeps (cases_keeps _ _ id list arms want vars s (run_given g depth) g.returns g.marked g.ready k)

    pub meets_match : (id : ℕ) (n : ExpressionRow) → Met vars r c l w (match_rule (expr_rule depth e) e id n want vars s)
    meets_match id n = ran_keeps (match_keeps _ _ id n want vars s (run_given g depth) g.returns g.marked g.ready k)

    pub meets_record : (id : ℕ) (n : ExpressionRow) → Met vars r c l w (record_rule (expr_rule depth e) e id n want vars s)
    meets_record id n = ran_keeps (record_keeps _ _ id n want vars s (run_given g depth) g.returns g.marked g.ready k)

    pub meets_field : (id : ℕ) (n : ExpressionRow) → Met vars r c l w (field_rule (expr_rule depth e) e id n want vars s)
    meets_field id n = ran_keeps (field_keeps _ _ id n want vars s (run_given g depth) g.returns g.marked g.ready k)

    pub meets_kind : (id : ℕ) (n : ExpressionRow) (kind : ℕ) → Met vars r c l w (kind_rule (expr_rule depth e) e id n want vars s kind)
    meets_kind id n kind = ran_keeps (kind_keeps _ _ id n want vars s kind (run_given g depth) g.returns g.marked g.ready k)

    pub meets_expr : (id : ℕ) → Met vars r c l w (expr_rule depth e id want vars s)
    meets_expr id = ran_keeps ((run_given g depth).keeps id want vars s g.ready k)
