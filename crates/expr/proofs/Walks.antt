-- In plain words: every rule of module 4 is one of the ways of `Walk`, so that what has the laws of Walk holds of each rule and of a node.
-- A rule's proof is the rule's own text. The count of a rule is that of its children (`kids_of`), in checking order.
--     let_holds .. kind_holds     each rule, over two checkers of the parts
--     node_holds                  a node: itself and its children
-- Assumes nothing.
use mathlib.Core.Path.{◌≡◌, refl, ap, subst}
use mathlib.Core.Logic.{◌⊎◌, inl, inr}
use mathlib.Core.List.{List, [], ◌∷◌}
use mathlib.Core.Bool.{Bool, true, false, ◌&&◌, ◌||◌}
use Prim.Native.Nat.{ℕ, zero, suc, ◌+◌, ◌*◌, ◌≤◌}
use native.Mathlib.Omega.{arith}
use native.Mathlib.Numerals.{add-one}
use lib.Dec.{eqb}
use borrow.Author.Tests.{eqb-true, eqb-false}
use Rattle.laws.specs.Choice.{by_kind}
use Rattle.laws.specs.Lists.{gather}
use Rattle.laws.proofs.Choice.{past, by_eq}
use Rattle.pack.specs.Lists.{list_len, list_item}
use Rattle.pack.specs.Rows.{expression_row}
use Rattle.pack.specs.Named.{optional, items_of, seconds_of, arm_kids, row_statements, row_operands, statements_of, operands_of, kids_of}
use Rattle.pack.specs.declared.rows.ExpressionRow.{ExpressionRow}
use Rattle.unionfind.specs.declared.codes.Kind.TheVariants.{Var}
use Rattle.members.specs.Field.{accessed_by}
use Rattle.arms.specs.Match.{subject_of}
use Rattle.arms.specs.declared.answer.Subject.{Subject}
use Rattle.arms.specs.declared.answer.Subject.TheVariants as subject
use Rattle.expr.proofs.Decided.{both_found, both_recorded, both_decided}
use Rattle.laws.specs.declared.fault.Fault.TheVariants.{StrayLet, ExamineeDiverges, NotAnEnum, ArmAfterAny, NotExhaustive, SlotBoundBefore, NotPlain}
use Rattle.expr.specs.State.{Env, State, Ans, with_notes, refuse}
use Rattle.expr.specs.Rules.{Run, recorded, let_rule, stmt_rule, stmts_rule, last_rule, block_rule, right_rule, operator_rule, guard_rule, body_rule, arm_rule, arms_rule, cases_rule, subject_rule, match_rule, fields_rule, record_rule, field_rule, returned_rule, return_rule, kind_rule, node_rule}
use Rattle.report.specs.Visits.{sum}
use Rattle.expr.proofs.Numbers.{plan_late, arm_late, record_late, accessed_late}
use Rattle.expr.proofs.Nodes.{operands_at, none_stated, stated_at, with_kind}
use Rattle.expr.proofs.WalkLeaves.{literal_holds, slot_holds, first_holds, result_holds, none, accessed_holds}
use Rattle.expr.proofs.Walk.{Laws, Each, each_append, sum_append, Runs, Statements, fresh_asks, let_asks, operand_asks, dones, refused, picks, lets, givens, resolved, unified}

module _ {P : ℕ → List ℕ → Ans → Ans → Type 0} {own : ℕ → ℕ} (l : Laws P own) (e : Env) (count : ℕ → ℕ) (Fine Stated : ℕ → Type 0) (b : Statements e own count Fine Stated)
    (run also : Run) (r : Runs P count Fine run also) where
  let_holds : (id : ℕ) (n : ExpressionRow) (vars : ℕ) (s : State) → Fine n.b → P (own id + count n.b) s.notes (let_rule run e id n vars s) (let_rule also e id n vars s)
  unfolding let_rule
  let_holds id n vars s h =
      lets l _ _ _ (l.counts (λ z. omega (arith, z)) (λ z. omega (arith, z)) (l.notes id _ (givens l (let_asks e.p e.c e.same e.marks id n.c vars _) λ x vars s.
      l.thens (r.holds n.b x vars s h) λ o s.
      lets l _ _ _ (lets l _ _ _ (picks l _
      (λ t. lets l _ _ _ (l.seals id o.diverges 0 (dones l refl)))
      (λ f. refused l SlotBoundBefore id 0 refl (omega arith)))))))

  -- ---- block

  stmt_holds : (id vars : ℕ) (s : State) → Stated id → P (count id) s.notes (stmt_rule run e id vars s) (stmt_rule also e id vars s)
  unfolding stmt_rule
  stmt_holds id vars s h =
      lets l _ _ _ (picks l _
      (λ t. let v = b.value id (eqb-true _ 3 t) h in l.counts (λ z. omega (arith, v.0, z)) (λ z. omega (arith, v.0, z)) (let_holds id (expression_row e.p e.c id) vars s v.1))
      (λ f. givens l (fresh_asks Var vars s) λ x vars s. r.holds id x vars s (b.other id (eqb-false _ 3 f) h)))

  abbrev items : ℕ → ℕ → ℕ → List ℕ
  items list k left = gather (λ i. list_item e.p e.c list i ∷ []) k left

  stmts_holds : (list left k : ℕ) (d : Bool) (vars : ℕ) (s : State) → Each Stated (items list k left)
      → P (sum count (items list k left)) s.notes (stmts_rule run e list left k d vars s) (stmts_rule also e list left k d vars s)
  unfolding stmts_rule gather
  stmts_holds list zero k d vars s h = dones l refl
  stmts_holds list (suc left) k d vars s h =
      lets l _ _ _ (l.thens (stmt_holds _ vars s h.0) λ o s.
      lets l _ _ _ (rw (add-one k) (stmts_holds list left (suc k) (d || o.diverges) o.vars s h.1)))

  last_holds : (id last want : ℕ) (d : Bool) (vars : ℕ) (s : State) → Each Fine (optional last)
      → P (sum count (optional last)) s.notes (last_rule run e id last want d vars s) (last_rule also e id last want d vars s)
  unfolding last_rule
  last_holds id zero want d vars s h = picks l _ (λ t. dones l refl) (λ f. unified l e.marks id want _ vars s)
  last_holds id (suc k) want d vars s h = l.counts (λ z. omega (arith, z)) (λ z. omega (arith, z)) (r.holds k want vars s h.0)

  block_holds : (id : ℕ) (n : ExpressionRow) (want vars : ℕ) (s : State) → Each Stated (items_of e.p e.c n.a) → Each Fine (optional n.b)
      → P (sum count (items_of e.p e.c n.a) + (sum count (optional n.b) + (own id + 0))) s.notes (block_rule run e id n want vars s) (block_rule also e id n want vars s)
  unfolding block_rule items_of
  block_holds id n want vars s h k =
      lets l _ _ _ (l.thens (stmts_holds n.a _ 0 false vars s h) λ o s.
      l.thens (last_holds id n.b want o.diverges o.vars s k) λ last s.
      lets l _ _ _ (lets l _ _ _ (lets l _ _ _ (lets l _ _ _ (l.notes id _ (dones l refl))))))

  -- ---- operators

  right_holds : (id : ℕ) (n : ExpressionRow) (want own : ℕ) (d : Bool) (vars : ℕ) (s : State) → Fine n.b
      → P (count n.b + 0) s.notes (right_rule run e id n want own d vars s) (right_rule also e id n want own d vars s)
  unfolding right_rule
  right_holds id n want own d vars s h =
      resolved l own s λ x s.
      lets l _ _ _ (lets l _ _ _ (both_decided (P _ s.notes) _ _ _ _ _ (plan_late n.op own x _)
      (λ plan. l.thens (r.holds n.b _ vars s h) λ o s.
      none l (l.thens (result_holds l e.marks id n.op want _ o.vars s) λ u s.
      lets l _ _ _ (dones l refl)))
      (λ f late. refused l f n.a 0 refl late)))

  operator_holds : (id : ℕ) (n : ExpressionRow) (want vars : ℕ) (s : State) → Each Fine (n.a ∷ n.b ∷ [])
      → P (sum count (n.a ∷ n.b ∷ [])) s.notes (operator_rule run e id n want vars s) (operator_rule also e id n want vars s)
  unfolding operator_rule
  operator_holds id n want vars s h =
      l.counts (λ z. omega (arith, z)) (λ z. omega (arith, z)) (l.thens (first_holds l e.marks id n.op want vars s) λ u s.
      givens l (operand_asks n.op u.vars s) λ own vars s.
      l.thens (r.holds n.a own vars s h.0) λ o s.
      right_holds id n want own o.diverges o.vars s h.1.0)

  -- ---- match

  guard_holds : (guard vars : ℕ) (s : State) → Each Fine (optional guard) → P (sum count (optional guard)) s.notes (guard_rule run guard vars s) (guard_rule also guard vars s)
  unfolding guard_rule
  guard_holds zero vars s h = dones l refl
  guard_holds (suc g) vars s h = l.counts (λ z. omega (arith, z)) (λ z. omega (arith, z)) (r.holds g _ vars s h.0)

  body_holds : (arms k payload want vars : ℕ) (s : State) → Each Fine (arm_kids e.p e.c arms k)
      → P (sum count (arm_kids e.p e.c arms k)) s.notes (body_rule run e arms k payload want vars s) (body_rule also e arms k payload want vars s)
  unfolding body_rule
  body_holds arms k payload want vars s h =
      let guard = list_item e.p e.c arms (4 * k + 2) in
      let body = list_item e.p e.c arms (4 * k + 3) in
      let q = each_append Fine (optional guard) (body ∷ []) h in
      let w = sum_append count (optional guard) (body ∷ []) in
      l.counts (λ z. omega (arith, z, w)) (λ z. omega (arith, z, w))
      (lets l _ _ _ (l.thens (guard_holds guard vars s q.0) λ g s.
      lets l _ _ _ (l.thens (r.holds body want g.vars s q.1.0) λ o s.
      lets l _ _ _ (dones l refl))))

  arm_holds : (id list arms k want vars : ℕ) (s : State) → Each Fine (arm_kids e.p e.c arms k)
      → P (sum count (arm_kids e.p e.c arms k)) s.notes (arm_rule run e id list arms k want vars s) (arm_rule also e id list arms k want vars s)
  unfolding arm_rule
  arm_holds id list arms k want vars s h =
      lets l _ _ _ (lets l _ _ _ (lets l _ _ _ (both_found (P _ s.notes) _ _ _ _ _ (arm_late e.p e.c e.marks list _ _)
      (lets l _ _ _ (picks l _
      (λ ok. body_holds arms k _ want vars _ h)
      (λ f. refused l SlotBoundBefore id 0 refl (omega arith))))
      (λ f late. refused l f id 0 refl late))))

  arms_holds : (id list arms left k : ℕ) (ended d : Bool) (want vars : ℕ) (s : State) → Each Fine (gather (arm_kids e.p e.c arms) k left)
      → P (sum count (gather (arm_kids e.p e.c arms) k left)) s.notes (arms_rule run e id list arms left k ended d want vars s) (arms_rule also e id list arms left k ended d want vars s)
  unfolding arms_rule gather
  arms_holds id list arms zero k ended d want vars s h = dones l refl
  arms_holds id list arms (suc left) k ended d want vars s h =
      let rest = gather (arm_kids e.p e.c arms) (suc k) left in
      let q = each_append Fine (arm_kids e.p e.c arms k) rest h in
      let w = sum_append count (arm_kids e.p e.c arms k) rest in
      picks l _ (λ t. lets l _ _ _ (refused l ArmAfterAny _ 0 refl (omega arith)))
      (λ f. l.counts (λ z. omega (arith, z, w)) (λ z. omega (arith, z, w)) (l.thens {m = sum count rest} (arm_holds id list arms k want vars s q.0) λ o s.
      lets l _ _ _ (lets l _ _ _ (rw (add-one k) (arms_holds id list arms left (suc k) _ (d && o.diverges) want o.vars s q.1)))))

  cases_holds : (id list arms want vars : ℕ) (s : State) → Each Fine (gather (arm_kids e.p e.c arms) 0 (list_len e.p e.c arms))
      → P (sum count (gather (arm_kids e.p e.c arms) 0 (list_len e.p e.c arms))) s.notes (cases_rule run e id list arms want vars s) (cases_rule also e id list arms want vars s)
  unfolding cases_rule
  cases_holds id list arms want vars s h =
      l.counts (λ z. omega (arith, z)) (λ z. omega (arith, z)) (lets l _ _ _ (l.thens (arms_holds id list arms _ 0 false true want vars s h) λ o s.
      lets l _ _ _ (picks l _ (λ t. dones l refl) (λ f. refused l NotExhaustive id _ refl (omega arith)))))

  subject_holds : (id : ℕ) (n : ExpressionRow) (want vars : ℕ) (s : State) (x : Subject) → Each Fine (gather (arm_kids e.p e.c n.b) 0 (list_len e.p e.c n.b))
      → P (sum count (gather (arm_kids e.p e.c n.b) 0 (list_len e.p e.c n.b))) s.notes (subject_rule run e id n want vars s x) (subject_rule also e id n want vars s x)
  subject_holds id n want vars s subject.Other h = refused l NotAnEnum n.a 0 refl (omega arith)
  subject_holds id n want vars s subject.Generic h = refused l NotPlain id 0 refl (omega arith)
  subject_holds id n want vars s (subject.Enum list) h = cases_holds id list n.b want vars s h

  match_holds : (id : ℕ) (n : ExpressionRow) (want vars : ℕ) (s : State) → Each Fine (n.a ∷ gather (arm_kids e.p e.c n.b) 0 (list_len e.p e.c n.b))
      → P (sum count (n.a ∷ gather (arm_kids e.p e.c n.b) 0 (list_len e.p e.c n.b))) s.notes (match_rule run e id n want vars s) (match_rule also e id n want vars s)
  unfolding match_rule
  match_holds id n want vars s h =
      givens l (fresh_asks Var vars s) λ own vars s.
      l.thens (r.holds n.a own vars s h.0) λ o s.
      picks l _ (λ t. refused l ExamineeDiverges n.a 0 refl (omega arith))
      (λ f. resolved l own s λ x s.
      lets l _ _ _ (subject_holds id n want o.vars s (subject_of e.p e.c x) h.1))

  -- ---- record

  abbrev seconds : ℕ → ℕ → ℕ → List ℕ
  seconds fields k left = gather (λ i. list_item e.p e.c fields (2 * i + 1) ∷ []) k left

  fields_holds : (list fields left k : ℕ) (d : Bool) (vars : ℕ) (s : State) → Each Fine (seconds fields k left)
      → P (sum count (seconds fields k left)) s.notes (fields_rule run e list fields left k d vars s) (fields_rule also e list fields left k d vars s)
  unfolding fields_rule gather
  fields_holds list fields zero k d vars s h = dones l refl
  fields_holds list fields (suc left) k d vars s h =
      lets l _ _ _ (lets l _ _ _ (lets l _ _ _ (lets l _ _ _ (l.thens (r.holds _ _ vars s h.0) λ o s.
      lets l _ _ _ (rw (add-one k) (fields_holds list fields left (suc k) (d || o.diverges) o.vars s h.1))))))

  record_holds : (id : ℕ) (n : ExpressionRow) (want vars : ℕ) (s : State) → Each Fine (seconds_of e.p e.c n.b)
      → P (sum count (seconds_of e.p e.c n.b)) s.notes (record_rule run e id n want vars s) (record_rule also e id n want vars s)
  unfolding record_rule seconds_of
  record_holds id n want vars s h =
      lets l _ _ _ (both_recorded (P _ s.notes) _ _ _ _ _ (record_late e.p e.c e.marks n.a n.b)
      (l.counts (λ z. omega (arith, z)) (λ z. omega (arith, z)) (lets l _ _ _ (lets l _ _ _ (l.thens (fields_holds _ n.b _ 0 false vars s h) λ o s.
      lets l _ _ _ (l.thens (unified l e.marks id want _ o.vars s) λ u s. dones l refl)))))
      (λ f late. refused l f.fault id f.detail refl late))

  -- ---- field

  field_holds : (id : ℕ) (n : ExpressionRow) (want vars : ℕ) (s : State) → Each Fine (n.a ∷ []) → P (sum count (n.a ∷ [])) s.notes (field_rule run e id n want vars s) (field_rule also e id n want vars s)
  unfolding field_rule
  field_holds id n want vars s h =
      givens l (fresh_asks Var vars s) λ own vars s.
      l.thens (r.holds n.a own vars s h.0) λ o s.
      resolved l own s λ x s.
      lets l _ _ _ (accessed_holds l e id want o.diverges o.vars s (accessed_by e.p e.c e.marks x n.b) (accessed_late e.p e.c e.marks x n.b))

  -- ---- return

  returned_holds : (id value vars : ℕ) (s : State) → Each Fine (optional value) → P (sum count (optional value)) s.notes (returned_rule run e id value vars s) (returned_rule also e id value vars s)
  unfolding returned_rule
  returned_holds id zero vars s h = unified l e.marks id e.ret _ vars s
  returned_holds id (suc v) vars s h = l.counts (λ z. omega (arith, z)) (λ z. omega (arith, z)) (r.holds v e.ret vars s h.0)

  return_holds : (id : ℕ) (n : ExpressionRow) (vars : ℕ) (s : State) → Each Fine (optional n.a) → P (sum count (optional n.a)) s.notes (return_rule run e id n vars s) (return_rule also e id n vars s)
  unfolding return_rule
  return_holds id n vars s h = l.counts (λ z. omega (arith, z)) (λ z. omega (arith, z)) (l.thens (returned_holds id n.a vars s h) λ o s. dones l refl)

  -- ---- all kinds

  -- what a row of kind k names, other than a block
  at_kind : (id want : ℕ) (n : ExpressionRow) (s : State) {x y : Ans} (k : ℕ) → eqb n.kind k ≡ true → eqb k 2 ≡ false → Each Fine (row_operands e.p e.c n)
      → (Each Fine (row_operands e.p e.c (with_kind k n)) → P (sum count (row_operands e.p e.c (with_kind k n))) (recorded s.notes id want) x y)
      → P (own id + (sum count (row_statements e.p e.c n) + sum count (row_operands e.p e.c n))) s.notes x y
  at_kind id want n s k t u h f =
      let q = operands_at e.p e.c n k (eqb-true n.kind k t) in
      let w = ap (sum count) (none_stated e.p e.c n k (eqb-true n.kind k t) u) in
      let v = ap (sum count) q in
      l.counts (λ z. omega (arith, z, w, v)) (λ z. omega (arith, z, w, v)) (l.notes id want (f (subst (Each Fine) q h)))

  -- a kind that no rule has
  abbrev pub Stray : ℕ → ℕ → Type 0
  Stray id kind = (m : ℕ) (t : State) → (kind ≡ 3) ⊎ (9 ≤ kind) → P m t.notes (refuse StrayLet id t) (refuse StrayLet id t)

  kind_holds : (id : ℕ) (n : ExpressionRow) (want vars : ℕ) (s : State) → Each Stated (row_statements e.p e.c n) → Each Fine (row_operands e.p e.c n) → Stray id n.kind
      → P (own id + (sum count (row_statements e.p e.c n) + sum count (row_operands e.p e.c n))) s.notes
      (kind_rule run e id n want vars (with_notes (recorded s.notes id want) s) n.kind) (kind_rule also e id n want vars (with_notes (recorded s.notes id want) s) n.kind)
  unfolding kind_rule row_operands by_kind
  kind_holds id n want vars s h k stray =
      picks l _ (λ t. at_kind id want n s 0 t refl k λ k. literal_holds l e.marks id n want vars _)
      (λ n0. picks l _ (λ t. at_kind id want n s 1 t refl k λ k. slot_holds l e.marks id n want vars _)
      (λ n1. picks l _ (λ t. block t)
      (λ n2. picks l _ (λ t. at_kind id want n s 4 t refl k λ k. match_holds id n want vars _ k)
      (λ n4. picks l _ (λ t. at_kind id want n s 5 t refl k λ k. operator_holds id n want vars _ k)
      (λ n5. picks l _ (λ t. at_kind id want n s 6 t refl k λ k. record_holds id n want vars _ k)
      (λ n6. picks l _ (λ t. at_kind id want n s 7 t refl k λ k. field_holds id n want vars _ k)
      (λ n7. picks l _ (λ t. at_kind id want n s 8 t refl k λ k. return_holds id n vars _ k)
      (λ n8. l.notes id want (stray _ _ (by_eq n.kind 3 (λ q. inl q) (λ n3.
      inr (past n.kind 9 (((((((((tt, eqb-false _ 0 n0), eqb-false _ 1 n1), eqb-false _ 2 n2), n3), eqb-false _ 4 n4), eqb-false _ 5 n5), eqb-false _ 6 n6), eqb-false _ 7 n7), eqb-false _ 8 n8)))))))))))))
    where
      block : eqb n.kind 2 ≡ true
          → P (own id + (sum count (row_statements e.p e.c n) + sum count (row_operands e.p e.c n))) s.notes
          (block_rule run e id n want vars (with_notes (recorded s.notes id want) s)) (block_rule also e id n want vars (with_notes (recorded s.notes id want) s))
      block t =
          let o = operands_at e.p e.c n 2 (eqb-true n.kind 2 t) in
          let q = stated_at e.p e.c n (eqb-true n.kind 2 t) in
          let w = ap (sum count) o in
          let v = ap (sum count) q in
          l.counts (λ z. omega (arith, z, w, v)) (λ z. omega (arith, z, w, v)) (l.notes id want (block_holds id n want vars _ (subst (Each Stated) q h) (subst (Each Fine) o k)))

  pub node_holds : (id want vars : ℕ) (s : State) → Each Stated (statements_of e.p e.c id) → Each Fine (operands_of e.p e.c id) → Stray id (expression_row e.p e.c id).kind
      → P (own id + sum count (kids_of e.p e.c id)) s.notes (node_rule run e id want vars s) (node_rule also e id want vars s)
  unfolding node_rule
  node_holds id want vars s h k stray =
      let w = sum_append count (statements_of e.p e.c id) (operands_of e.p e.c id) in
      l.counts (λ z. omega (arith, z, w)) (λ z. omega (arith, z, w))
      (lets l _ _ _ (lets l _ _ _ (l.thens (lets l _ _ _ (kind_holds id (expression_row e.p e.c id) want vars s h k stray)) λ o s.
      lets l _ _ _ (l.seals id o.diverges o.call (l.ends o _)))))
