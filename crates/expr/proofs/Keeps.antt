-- Every rule keeps the state ready, over a checker of the parts that does. A rule's proof is the rule's own text.
--     let_keeps .. node_keeps             a law for each rule that has parts (those without: Leaves)
--     expr_keeps                          the checker, whatever the depth
--     Given, run_given, lent                                   for the functions, which are given all of it at once
-- Assumes nothing.
use mathlib.Core.Bool.{Bool, true, false, ◌&&◌, ◌||◌}
use Prim.Native.Nat.{ℕ, zero, suc, ◌+◌}
use native.Mathlib.Omega.{arith}
use Rattle.pack.specs.declared.rows.ExpressionRow.{ExpressionRow}
use Rattle.unionfind.specs.declared.codes.Kind.TheVariants.{Var}
use Rattle.members.specs.Field.{accessed_by}
use Rattle.arms.specs.Match.{subject_of}
use Rattle.arms.specs.declared.answer.Subject.{Subject}
use Rattle.arms.specs.declared.answer.Subject.TheVariants as subject
use Rattle.expr.specs.State.{Env, State}
use Rattle.expr.specs.Rules.{Run, let_rule, stmt_rule, stmts_rule, last_rule, block_rule, right_rule, operator_rule, body_rule, arm_rule, arms_rule, cases_rule, subject_rule, match_rule, fields_rule, record_rule, field_rule, returned_rule, return_rule, kind_rule, node_rule, expr_rule}
use Rattle.expr.specs.Ready.{Coded, Fielded, Ready}
use Rattle.expr.specs.Lent.{env_of}
use Rattle.expr.specs.declared.state.Env.{Env as Lent}
use Rattle.expr.proofs.Coding.{MarkedIn, unit_coded, definition_coded, last_coded, recorded_ready, sealed_ready, opened_ready, close_lets_ready, payload_opens_ready, payload_closes_ready, plan_coded, fielded, field_first, fields_next, accessed_coded}
use Rattle.expr.proofs.Kept.{Keeps, RunKeeps, coded_more, dones, refuses, picks, lets, thens, givens, resolved, fresh_keeps, unify_keeps}
use Rattle.expr.proofs.Decided.{by_found, by_decided}
use Rattle.expr.proofs.Leaves.{literal_keeps, slot_keeps, let_type_keeps, bool_first_keeps, operand_type_keeps, result_last_keeps, guard_keeps, accessed_keeps}

module _ (run : Run) (e : Env) where
  -- ---- let

  pub let_keeps : (id : ℕ) (n : ExpressionRow) (vars : ℕ) (s : State) → RunKeeps run → Coded 0 e.ret → MarkedIn e → Ready vars s → Keeps vars (let_rule run e id n vars s)
  unfolding let_rule
  let_keeps id n vars s run-keeps ret m h =
      lets _ _ (givens (let_type_keeps e.p e.c e.same e.marks id n.c vars _ m (recorded_ready id _ h (unit_coded vars))) λ x v s le h k.
      thens (run-keeps.keeps n.b x v s h k) λ o s le h.
      lets _ _ (lets _ _ (picks _
      (λ t. lets _ _ (dones (sealed_ready id o.diverges 0 (opened_ready n.a x h (coded_more le k)))))
      (λ f. refuses))))

  -- ---- block

  pub stmt_keeps : (id vars : ℕ) (s : State) → RunKeeps run → Coded 0 e.ret → MarkedIn e → Ready vars s → Keeps vars (stmt_rule run e id vars s)
  unfolding stmt_rule
  stmt_keeps id vars s run-keeps ret m h =
      lets _ _ (picks _ (λ t. let_keeps id _ vars s run-keeps ret m h)
      (λ f. givens (fresh_keeps Var vars s h) λ x v s le h k. run-keeps.keeps id x v s h k))

  pub stmts_keeps : (list left k : ℕ) (d : Bool) (vars : ℕ) (s : State) → RunKeeps run → Coded 0 e.ret → MarkedIn e → Ready vars s → Keeps vars (stmts_rule run e list left k d vars s)
  unfolding stmts_rule
  stmts_keeps list zero k d vars s run-keeps ret m h = dones h
  stmts_keeps list (suc left) k d vars s run-keeps ret m h =
      lets _ _ (thens (stmt_keeps _ vars s run-keeps ret m h) λ o s le h.
      lets _ _ (stmts_keeps list left (k + 1) (d || o.diverges) o.vars s run-keeps ret m h))

  pub last_keeps : (id b want : ℕ) (d : Bool) (vars : ℕ) (s : State) → RunKeeps run → Coded 0 e.ret → Ready vars s → Coded vars want → Keeps vars (last_rule run e id b want d vars s)
  unfolding last_rule
  last_keeps id zero want d vars s run-keeps ret h w = picks _ (λ t. dones h) (λ f. unify_keeps e.marks id want _ vars s h w (unit_coded vars))
  last_keeps id (suc l) want d vars s run-keeps ret h w = run-keeps.keeps l want vars s h w

  pub block_keeps : (id : ℕ) (n : ExpressionRow) (want vars : ℕ) (s : State) → RunKeeps run → Coded 0 e.ret → MarkedIn e → Ready vars s → Coded vars want → Keeps vars (block_rule run e id n want vars s)
  unfolding block_rule
  block_keeps id n want vars s run-keeps ret m h w =
      lets _ _ (thens (stmts_keeps n.a _ 0 false vars s run-keeps ret m h) λ o s le h.
      thens (last_keeps id n.b want o.diverges o.vars s run-keeps ret h (coded_more le w)) λ l s le h.
      lets _ _ (lets _ _ (lets _ _ (lets _ _
      (dones (recorded_ready id _ (close_lets_ready e.p e.c n.a h) (last_coded n.b h.notes)))))))

  -- ---- operators

  pub right_keeps : (id : ℕ) (n : ExpressionRow) (want own : ℕ) (d : Bool) (vars : ℕ) (s : State) → RunKeeps run → Coded 0 e.ret → Ready vars s → Coded vars want → Coded vars own
      → Keeps vars (right_rule run e id n want own d vars s)
  unfolding right_rule
  right_keeps id n want own d vars s run-keeps ret h w k =
      resolved h k λ x s h.
      lets _ _ (lets _ _ (by_decided (Keeps vars) _ _ _
      (λ plan t.
      let q = plan_coded n.op own x _ t k in
      thens (run-keeps.keeps n.b _ vars s h q.0) λ r s le h.
      thens (result_last_keeps e.marks id n.op want _ r.vars s h (coded_more le w) (coded_more le q.1)) λ u s le h.
      lets _ _ (dones h))
      (λ f t. refuses)))

  pub operator_keeps : (id : ℕ) (n : ExpressionRow) (want vars : ℕ) (s : State) → RunKeeps run → Coded 0 e.ret → Ready vars s → Coded vars want → Keeps vars (operator_rule run e id n want vars s)
  unfolding operator_rule
  operator_keeps id n want vars s run-keeps ret h w =
      thens (bool_first_keeps e.marks id n.op want vars s h w) λ u s le h.
      givens (operand_type_keeps n.op u.vars s h) λ own v s more h k.
      thens (run-keeps.keeps n.a own v s h k) λ l s most h.
      right_keeps id n want own l.diverges l.vars s run-keeps ret h (coded_more most (coded_more more (coded_more le w))) (coded_more most k)

  -- ---- match

  pub body_keeps : (arms k payload want vars : ℕ) (s : State) → RunKeeps run → Coded 0 e.ret → Ready vars s → Coded vars want → Keeps vars (body_rule run e arms k payload want vars s)
  unfolding body_rule
  body_keeps arms k payload want vars s run-keeps ret h w =
      lets _ _ (thens (guard_keeps run _ vars s run-keeps h) λ g s le h.
      lets _ _ (thens (run-keeps.keeps _ want g.vars s h (coded_more le w)) λ o s le h.
      lets _ _ (dones (payload_closes_ready e.p e.c payload h))))

  pub arm_keeps : (id list arms k want vars : ℕ) (s : State) → RunKeeps run → Coded 0 e.ret → MarkedIn e → Ready vars s → Coded vars want → Keeps vars (arm_rule run e id list arms k want vars s)
  unfolding arm_rule
  arm_keeps id list arms k want vars s run-keeps ret m h w =
      lets _ _ (lets _ _ (lets _ _ (by_found (Keeps vars) _ _ _
      (λ t. lets _ _ (picks _
      (λ ok. body_keeps arms k _ want vars _ run-keeps ret (payload_opens_ready e list _ _ m t h) w)
      (λ f. refuses)))
      (λ f t. refuses))))

  pub arms_keeps : (id list arms left k : ℕ) (ended d : Bool) (want vars : ℕ) (s : State) → RunKeeps run → Coded 0 e.ret → MarkedIn e → Ready vars s → Coded vars want
      → Keeps vars (arms_rule run e id list arms left k ended d want vars s)
  unfolding arms_rule
  arms_keeps id list arms zero k ended d want vars s run-keeps ret m h w = dones h
  arms_keeps id list arms (suc left) k ended d want vars s run-keeps ret m h w =
      picks _ (λ t. lets _ _ refuses)
      (λ f. thens (arm_keeps id list arms k want vars s run-keeps ret m h w) λ o s le h.
      lets _ _ (lets _ _ (arms_keeps id list arms left (k + 1) _ (d && o.diverges) want o.vars s run-keeps ret m h (coded_more le w))))

  pub cases_keeps : (id list arms want vars : ℕ) (s : State) → RunKeeps run → Coded 0 e.ret → MarkedIn e → Ready vars s → Coded vars want → Keeps vars (cases_rule run e id list arms want vars s)
  unfolding cases_rule
  cases_keeps id list arms want vars s run-keeps ret m h w =
      lets _ _ (thens (arms_keeps id list arms _ 0 false true want vars s run-keeps ret m h w) λ o s le h.
      lets _ _ (picks _ (λ t. dones h) (λ f. refuses)))

  pub subject_keeps : (id : ℕ) (n : ExpressionRow) (want vars : ℕ) (s : State) (x : Subject) → RunKeeps run → Coded 0 e.ret → MarkedIn e → Ready vars s → Coded vars want
      → Keeps vars (subject_rule run e id n want vars s x)
  subject_keeps id n want vars s subject.Other run-keeps ret m h w = refuses
  subject_keeps id n want vars s subject.Generic run-keeps ret m h w = refuses
  subject_keeps id n want vars s (subject.Enum list) run-keeps ret m h w = cases_keeps id list n.b want vars s run-keeps ret m h w

  pub match_keeps : (id : ℕ) (n : ExpressionRow) (want vars : ℕ) (s : State) → RunKeeps run → Coded 0 e.ret → MarkedIn e → Ready vars s → Coded vars want → Keeps vars (match_rule run e id n want vars s)
  unfolding match_rule
  match_keeps id n want vars s run-keeps ret m h w =
      givens (fresh_keeps Var vars s h) λ own v s le h k.
      thens (run-keeps.keeps n.a own v s h k) λ o s more h.
      picks _ (λ t. refuses)
      (λ f. resolved h (coded_more more k) λ x s h.
      lets _ _ (subject_keeps id n want o.vars s (subject_of e.p e.c x) run-keeps ret m h (coded_more more (coded_more le w))))

  -- ---- record

  pub fields_keeps : (list fields left k : ℕ) (d : Bool) (vars : ℕ) (s : State) → RunKeeps run → Coded 0 e.ret → Fielded e list fields left k → Ready vars s
      → Keeps vars (fields_rule run e list fields left k d vars s)
  unfolding fields_rule
  fields_keeps list fields zero k d vars s run-keeps ret m h = dones h
  fields_keeps list fields (suc left) k d vars s run-keeps ret m h =
      lets _ _ (lets _ _ (lets _ _ (lets _ _ (thens (run-keeps.keeps _ _ vars s h (field_first m vars)) λ o s le h.
      lets _ _ (fields_keeps list fields left (k + 1) (d || o.diverges) o.vars s run-keeps ret (fields_next m) h)))))

  pub record_keeps : (id : ℕ) (n : ExpressionRow) (want vars : ℕ) (s : State) → RunKeeps run → Coded 0 e.ret → MarkedIn e → Ready vars s → Coded vars want → Keeps vars (record_rule run e id n want vars s)
  unfolding record_rule
  record_keeps id n want vars s run-keeps ret m h w =
      lets _ _ (by_found (Keeps vars) _ _ _
      (λ t. lets _ _ (lets _ _ (thens (fields_keeps _ n.b _ 0 false vars s run-keeps ret (fielded e n.a n.b m t) h) λ o s le h.
      lets _ _ (thens (unify_keeps e.marks id want _ o.vars s h (coded_more le w) (definition_coded o.vars n.a)) λ u s le h. dones h))))
      (λ f t. refuses))

  -- ---- field

  pub field_keeps : (id : ℕ) (n : ExpressionRow) (want vars : ℕ) (s : State) → RunKeeps run → Coded 0 e.ret → MarkedIn e → Ready vars s → Coded vars want → Keeps vars (field_rule run e id n want vars s)
  unfolding field_rule
  field_keeps id n want vars s run-keeps ret m h w =
      givens (fresh_keeps Var vars s h) λ own v s le h k.
      thens (run-keeps.keeps n.a own v s h k) λ o s more h.
      resolved h (coded_more more k) λ x s h.
      lets _ _ (accessed_keeps e id want o.diverges o.vars s (accessed_by e.p e.c e.marks x n.b) h (coded_more more (coded_more le w)) (λ t q. accessed_coded e x n.b m q o.vars))

  -- ---- return

  pub returned_keeps : (id a vars : ℕ) (s : State) → RunKeeps run → Coded 0 e.ret → Ready vars s → Keeps vars (returned_rule run e id a vars s)
  unfolding returned_rule
  returned_keeps id zero vars s run-keeps ret h = unify_keeps e.marks id e.ret _ vars s h (coded_more (omega arith) ret) (unit_coded vars)
  returned_keeps id (suc v) vars s run-keeps ret h = run-keeps.keeps v e.ret vars s h (coded_more (omega arith) ret)

  pub return_keeps : (id : ℕ) (n : ExpressionRow) (vars : ℕ) (s : State) → RunKeeps run → Coded 0 e.ret → Ready vars s → Keeps vars (return_rule run e id n vars s)
  unfolding return_rule
  return_keeps id n vars s run-keeps ret h = thens (returned_keeps id n.a vars s run-keeps ret h) λ o s le h. dones h

  -- ---- all kinds

  pub kind_keeps : (id : ℕ) (n : ExpressionRow) (want vars : ℕ) (s : State) (kind : ℕ) → RunKeeps run → Coded 0 e.ret → MarkedIn e → Ready vars s → Coded vars want
      → Keeps vars (kind_rule run e id n want vars s kind)
  unfolding kind_rule
  kind_keeps id n want vars s kind run-keeps ret m h w =
      picks _ (λ t. literal_keeps e.marks id n want vars s h w)
      (λ f. picks _ (λ t. slot_keeps e.marks id n want vars s h w)
      (λ f. picks _ (λ t. block_keeps id n want vars s run-keeps ret m h w)
      (λ f. picks _ (λ t. match_keeps id n want vars s run-keeps ret m h w)
      (λ f. picks _ (λ t. operator_keeps id n want vars s run-keeps ret h w)
      (λ f. picks _ (λ t. record_keeps id n want vars s run-keeps ret m h w)
      (λ f. picks _ (λ t. field_keeps id n want vars s run-keeps ret m h w)
      (λ f. picks _ (λ t. return_keeps id n vars s run-keeps ret h)
      (λ f. refuses))))))))

  pub node_keeps : (id want vars : ℕ) (s : State) → RunKeeps run → Coded 0 e.ret → MarkedIn e → Ready vars s → Coded vars want → Keeps vars (node_rule run e id want vars s)
  unfolding node_rule
  node_keeps id want vars s run-keeps ret m h w =
      lets _ _ (lets _ _ (thens (lets _ _ (kind_keeps id _ want vars _ _ run-keeps ret m (recorded_ready id want h w) w)) λ o s le h.
      lets _ _ (dones (sealed_ready id o.diverges o.call h))))

pub expr_keeps : (depth : ℕ) (e : Env) → Coded 0 e.ret → MarkedIn e → RunKeeps (expr_rule depth e)
unfolding expr_rule
expr_keeps zero e ret m = record { keeps = λ id want vars s h w. refuses }
expr_keeps (suc left) e ret m = record { keeps = λ id want vars s h w. node_keeps (expr_rule left e) e id want vars s (expr_keeps left e ret m) ret m h w }

-- ---- what a rule is given

pub record Given (e : Env) (vars : ℕ) (s : State) : Type 0 where
  pub ready : Ready vars s
  pub returns : Coded 0 e.ret
  pub marked : MarkedIn e

-- the parts keep what is ready
pub run_given : {e : Env} {vars : ℕ} {s : State} → Given e vars s → (depth : ℕ) → RunKeeps (expr_rule depth e)
run_given {e = e} g depth = expr_keeps depth e g.returns g.marked

-- the two structs that a function is lent, with what is true of every `Env`
pub lent : (e : Lent) {vars : ℕ} {s : State} → Ready vars s → Given (env_of e) vars s
lent e h = record { ready = h; returns = e.returns; marked = e.marked }
