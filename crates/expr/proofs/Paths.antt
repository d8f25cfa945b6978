-- The path to each return of a rule, said of variables: the contract from what the calls ensured and the tests told, in the order of the
-- code. A function's proof applies these, so that no step of a path meets the terms of its code.
--     match-.., field-..          which begin alike (`inner`): a fresh type, and the inner node against it
--     body-.., arm-.., cases-..   a match's arms
--     block-.., stmt-.., let-..   a block's statements
--     return-..                   a return
--     operator-.., right-..       an operator and its right side
--     record-..                   a record
--     expr-..                     a node of any kind
-- In each, `-stops` (`-none` of a type, `-first` of an operator) is a refusal of the part checked last, and `-is` the way through. The walks over lists have theirs in Lists.
-- Assumes nothing.
use mathlib.Core.Path.{◌≡◌, refl, sym, ◌∙◌}
use mathlib.Core.List.{List}
use mathlib.Core.Bool.{Bool, true, false, ◌||◌}
use Prim.Native.Nat.{ℕ, ◌+◌, ◌-◌, ◌*◌}
use borrow.Author.Tests.{eq-eqb, ne_eqb}
use Rattle.laws.proofs.Choice.{yes, no, lets}
use Rattle.pack.specs.Lists.{list_len, list_item}
use Rattle.pack.specs.Rows.{definition_row, expression_row}
use Rattle.pack.specs.declared.rows.DefinitionRow.{DefinitionRow}
use Rattle.pack.specs.declared.rows.ExpressionRow.{ExpressionRow}
use Rattle.laws.specs.declared.refusal.Refusal.{Refusal}
use Rattle.unionfind.specs.declared.codes.Kind.TheVariants.{Var}
use Rattle.unify.specs.Unify.{Resolves}
use Rattle.std.proofs.Common.{Option, Some, None}
use Rattle.laws.specs.declared.fault.Fault.{Fault}
use Rattle.laws.specs.declared.fault.Fault.TheVariants.{ExamineeDiverges, SlotBoundBefore, NotExhaustive}
use Rattle.operators.specs.Names.{call_number}
use Rattle.operators.specs.Operators.{operator_plan, Plan}
use Rattle.operators.specs.declared.plan.OperatorPlan.{OperatorPlan}
use Rattle.members.specs.Types.{is_list}
use Rattle.members.specs.Field.{Accessed, accessed_by}
use Rattle.arms.specs.Match.{subject_of, arm_fault, missing_variants}
use Rattle.arms.specs.declared.answer.Subject.{Subject}
use Rattle.records.specs.Record.{record_fault}
use Rattle.records.specs.declared.answer.RecordFault.{RecordFault}
use Rattle.slots.specs.Slots.{unbound, opened, opening, close_lets}
use Rattle.expr.specs.State.{Env, State, Ans, st, ran, outcome, refuse_with, refuse, ◌then◌, ◌gives◌, fresh_type, unify_step, Step, Typed, expected}
use Rattle.expr.specs.Rules.{let_kind, unit_code, definition_code, recorded, sealed, let_type, let_rule, stmt_rule, stmts_rule, last_rule, last_code, block_rule, bool_first, operand_type, result_last, right_rule, operator_rule, guard_rule, payload_opens, payload_closes, body_rule, arm_rule, arms_rule, cases_rule, match_rule, subject_rule, fields_rule, record_rule, field_type_rule, accessed_rule, field_rule, kind_rule, node_rule, expr_rule, returned_rule, return_rule}
use Rattle.expr.specs.Ready.{Coded, Ran, Types, CellsRan, CellsType}
use Rattle.expr.specs.declared.answer.Outcome.{Outcome}
use Rattle.expr.proofs.Steps.{goes, stops, typed_as_lem, typed_none, resolves_to, is, none_found, fault_found, was_decided, was_refused}
use Rattle.expr.proofs.Recursions.{expr_more, at_kind}
use Rattle.expr.proofs.Coding.{unit_coded}
use Rattle.expr.proofs.Keeps.{Given}
use Rattle.expr.proofs.Kept.{after}
use Rattle.expr.proofs.Given.{ready_settled, ready_recorded}
use Rattle.expr.proofs.Meets.{meets_match, meets_field, meets_body, meets_arm, meets_cases, meets_block, meets_let, meets_stmt, meets_right, meets_operator, meets_record, meets_expr, meets_return, meets_kind}
use Rattle.std.proofs.Common.{Ok, Err}

module _ {e : Env} {vars : ℕ} {c s w : List ℕ} (g : Given e vars (st c s w)) {want : ℕ} (k : Coded vars want) (depth : ℕ) where
  -- ---- match and field: a fresh type, and the inner node against it

  module _ (id : ℕ) (n : ExpressionRow) {t : Typed} {c1 : List ℕ} (f : CellsType vars (fresh_type Var vars) c t c1) {h : Refusal} (q : t ≡ Err h) where
    pub match_none : Ran vars (match_rule (expr_rule depth e) e id n want vars (st c s w)) (Err h) c1 s w
    unfolding match_rule
    match_none = meets_match g depth k id n (typed_none _ (f.ran s w g.ready).same q)

    pub field_none : Ran vars (field_rule (expr_rule depth e) e id n want vars (st c s w)) (Err h) c1 s w
    unfolding field_rule
    field_none = meets_field g depth k id n (typed_none _ (f.ran s w g.ready).same q)

  module _ (id : ℕ) (n : ExpressionRow) {t : Typed} {c1 : List ℕ} (f : CellsType vars (fresh_type Var vars) c t c1) {own more : ℕ} (q : t ≡ Ok (expected own more))
      {r : Step} {c2 s2 w2 : List ℕ} (i : Ran more (expr_rule depth e n.a own more (st c1 s w)) r c2 s2 w2) where
    abbrev Inner : (ℕ → Outcome → State → Ans) → Ans
    Inner j = fresh_type Var vars (st c s w) gives λ own vars s. expr_rule depth e n.a own vars s then j own

    inner_stops : (j : ℕ → Outcome → State → Ans) {h : Refusal} → r ≡ Err h → ran (Err h) c2 s2 w2 ≡ Inner j
    inner_stops j d = typed_as_lem _ (f.ran s w g.ready).same q (stops _ i.same d)

    inner : (j : ℕ → Outcome → State → Ans) {z : Ans} {o : Outcome} → r ≡ Ok o → z ≡ j own o (st c2 s2 w2) → z ≡ Inner j
    inner j d p = typed_as_lem _ (f.ran s w g.ready).same q (goes _ i.same d p)

    pub match_stops : {h : Refusal} → r ≡ Err h → Ran vars (match_rule (expr_rule depth e) e id n want vars (st c s w)) (Err h) c2 s2 w2
    unfolding match_rule
    match_stops d = meets_match g depth k id n (inner_stops _ d)

    pub field_stops : {h : Refusal} → r ≡ Err h → Ran vars (field_rule (expr_rule depth e) e id n want vars (st c s w)) (Err h) c2 s2 w2
    unfolding field_rule
    field_stops d = meets_field g depth k id n (inner_stops _ d)

    module _ {o : Outcome} (d : r ≡ Ok o) where
      pub match_diverges : {z : Step} → o.diverges ≡ true → ran z c2 s2 w2 ≡ refuse ExamineeDiverges n.a (st c2 s2 w2)
          → Ran vars (match_rule (expr_rule depth e) e id n want vars (st c s w)) z c2 s2 w2
      unfolding match_rule
      match_diverges u p = meets_match g depth k id n (inner _ d (yes _ _ _ u p))

      module _ {x : ℕ} {c3 : List ℕ} (h : Resolves o.vars c2 own x c3) where
        pub match_is : o.diverges ≡ false → {a b : Subject} → a ≡ subject_of e.p e.c x → a ≡ b
            → {z : Step} {l m v : List ℕ} → ran z l m v ≡ subject_rule (expr_rule depth e) e id n want o.vars (st c3 s2 w2) b
            → Ran vars (match_rule (expr_rule depth e) e id n want vars (st c s w)) z l m v
        unfolding match_rule
        match_is u a b p =
            meets_match g depth k id n
            (inner _ d (no _ _ _ u (resolves_to _ h (lets (subject_rule (expr_rule depth e) e id n want o.vars (st c3 s2 w2)) (sym b ∙ a) p))))

        pub field_is : {a b : Accessed} → a ≡ accessed_by e.p e.c e.marks x n.b → a ≡ b
            → {z : Step} {l m v : List ℕ} → ran z l m v ≡ accessed_rule e id want o.diverges o.vars (st c3 s2 w2) b
            → Ran vars (field_rule (expr_rule depth e) e id n want vars (st c s w)) z l m v
        unfolding field_rule
        field_is a b p =
            meets_field g depth k id n (inner _ d (resolves_to _ h (lets (accessed_rule e id want o.diverges o.vars (st c3 s2 w2)) (sym b ∙ a) p)))

        pub field_found : {a : Accessed} {y : ℕ} → a ≡ accessed_by e.p e.c e.marks x n.b → a ≡ Ok y
            → {z : Step} {c4 : List ℕ} → CellsRan o.vars (field_type_rule e.p e.c e.same e.marks id y want o.diverges o.vars) c3 z c4
            → Ran vars (field_rule (expr_rule depth e) e id n want vars (st c s w)) z c4 s2 w2
        field_found a b p =
            field_is a b (p.ran s2 w2 (ready_settled (after i d).1 h)).same

  -- ---- the body of an arm

  module _ (arms j payload : ℕ) {guard : ℕ} (a : guard ≡ list_item e.p e.c arms (4 * j + 2))
      {r : Step} {c1 s1 w1 : List ℕ} (i : Ran vars (guard_rule (expr_rule depth e) guard vars (st c s w)) r c1 s1 w1) where
    pub body_guard_stops : {h : Refusal} → r ≡ Err h → Ran vars (body_rule (expr_rule depth e) e arms j payload want vars (st c s w)) (Err h) c1 s1 w1
    unfolding body_rule
    body_guard_stops d = meets_body g depth k arms j payload (lets _ a (stops _ i.same d))

    module _ {o : Outcome} (d : r ≡ Ok o) {body : ℕ} (b : body ≡ list_item e.p e.c arms (4 * j + 3))
        {x : Step} {c2 s2 w2 : List ℕ} (y : Ran o.vars (expr_rule depth e body want o.vars (st c1 s1 w1)) x c2 s2 w2) where
      pub body_stops : {h : Refusal} → x ≡ Err h → Ran vars (body_rule (expr_rule depth e) e arms j payload want vars (st c s w)) (Err h) c2 s2 w2
      unfolding body_rule
      body_stops p = meets_body g depth k arms j payload (lets _ a (goes _ i.same d (lets _ b (stops _ y.same p))))

      pub body_is : {u : Outcome} → x ≡ Ok u → {l : List ℕ} → l ≡ payload_closes e.p e.c payload s2 → {z : Step} → z ≡ Ok (outcome u.diverges 0 u.vars)
          → Ran vars (body_rule (expr_rule depth e) e arms j payload want vars (st c s w)) z c2 l w2
      unfolding body_rule
      body_is u m p = meets_body g depth k arms j payload (lets _ a (goes _ i.same d (lets _ b (goes _ y.same u (lets _ m (is p))))))

  -- ---- a block

  module _ (id : ℕ) (n : ExpressionRow) {left : ℕ} (a : left ≡ list_len e.p e.c n.a)
      {r : Step} {c1 s1 w1 : List ℕ} (i : Ran vars (stmts_rule (expr_rule depth e) e n.a left 0 false vars (st c s w)) r c1 s1 w1) where
    pub block_stops : {h : Refusal} → r ≡ Err h → Ran vars (block_rule (expr_rule depth e) e id n want vars (st c s w)) (Err h) c1 s1 w1
    unfolding block_rule
    block_stops d = meets_block g depth k id n (lets _ a (stops _ i.same d))

    module _ {o : Outcome} (d : r ≡ Ok o) {x : Step} {c2 s2 w2 : List ℕ}
        (y : Ran o.vars (last_rule (expr_rule depth e) e id n.b want o.diverges o.vars (st c1 s1 w1)) x c2 s2 w2) where
      pub block_last_stops : {h : Refusal} → x ≡ Err h → Ran vars (block_rule (expr_rule depth e) e id n want vars (st c s w)) (Err h) c2 s2 w2
      unfolding block_rule
      block_last_stops p = meets_block g depth k id n (lets _ a (goes _ i.same d (stops _ y.same p)))

      pub block_is : {u : Outcome} → x ≡ Ok u → {l : List ℕ} → l ≡ close_lets e.p e.c n.a s2 → {t : ℕ} → t ≡ last_code w2 n.b
          → {m : List ℕ} → m ≡ recorded w2 id t → {b : Bool} → b ≡ (o.diverges || u.diverges) → {z : Step} → z ≡ Ok (outcome b 0 u.vars)
          → Ran vars (block_rule (expr_rule depth e) e id n want vars (st c s w)) z c2 l m
      unfolding block_rule
      block_is u l t m b p =
          meets_block g depth k id n (lets _ a (goes _ i.same d (goes _ y.same u (lets _ l (lets _ t (lets _ m (lets _ b (is p))))))))

  -- ---- an operator

  pub operator_first : (id : ℕ) (n : ExpressionRow) {r : Step} {c1 : List ℕ} → CellsRan vars (bool_first e.marks id n.op want vars) c r c1 → {h : Refusal} → r ≡ Err h
      → Ran vars (operator_rule (expr_rule depth e) e id n want vars (st c s w)) (Err h) c1 s w
  unfolding operator_rule
  operator_first id n i d = meets_operator g depth k id n (stops _ (i.ran s w g.ready).same d)

  module _ (id : ℕ) (n : ExpressionRow) {r : Step} {c1 : List ℕ} (i : CellsRan vars (bool_first e.marks id n.op want vars) c r c1) {o : Outcome} (d : r ≡ Ok o)
      {t : Typed} {c2 : List ℕ} (f : CellsType o.vars (operand_type n.op o.vars) c1 t c2) where
    first : Ran vars (bool_first e.marks id n.op want vars (st c s w)) r c1 s w
    first = i.ran s w g.ready

    operand : Types o.vars (operand_type n.op o.vars (st c1 s w)) t c2 s w
    operand = f.ran s w (after first d).1

    pub operator_none : {h : Refusal} → t ≡ Err h → Ran vars (operator_rule (expr_rule depth e) e id n want vars (st c s w)) (Err h) c2 s w
    unfolding operator_rule
    operator_none q = meets_operator g depth k id n (goes _ first.same d (typed_none _ operand.same q))

    module _ {own more : ℕ} (q : t ≡ Ok (expected own more)) {x : Step} {c3 s3 w3 : List ℕ} (j : Ran more (expr_rule depth e n.a own more (st c2 s w)) x c3 s3 w3) where
      pub operator_stops : {h : Refusal} → x ≡ Err h → Ran vars (operator_rule (expr_rule depth e) e id n want vars (st c s w)) (Err h) c3 s3 w3
      unfolding operator_rule
      operator_stops p = meets_operator g depth k id n (goes _ first.same d (typed_as_lem _ operand.same q (stops _ j.same p)))

      pub operator_is : {u : Outcome} → x ≡ Ok u → {z : Step} {l m v : List ℕ}
          → Ran u.vars (right_rule (expr_rule depth e) e id n want own u.diverges u.vars (st c3 s3 w3)) z l m v
          → Ran vars (operator_rule (expr_rule depth e) e id n want vars (st c s w)) z l m v
      unfolding operator_rule
      operator_is u p = meets_operator g depth k id n (goes _ first.same d (typed_as_lem _ operand.same q (goes _ j.same u p.same)))

  -- ---- the right side of an operator

  module _ (id : ℕ) (n : ExpressionRow) {own : ℕ} (own_is : Coded vars own) (d : Bool) {x : ℕ} {c1 : List ℕ} (h : Resolves vars c own x c1)
      {list : Bool} (a : list ≡ is_list e.p e.c x) {decided : Plan} (b : decided ≡ operator_plan n.op own x list) where
    pub right_refuses : {f : Fault} → decided ≡ Err f → {z : Step} → ran z c1 s w ≡ refuse f n.a (st c1 s w)
        → Ran vars (right_rule (expr_rule depth e) e id n want own d vars (st c s w)) z c1 s w
    unfolding right_rule
    right_refuses m p = meets_right g depth k id n own_is d (resolves_to _ h (lets _ a (lets _ b (was_refused _ _ m p))))

    module _ {plan : OperatorPlan} (m : decided ≡ Ok plan) {r : Step} {c2 s2 w2 : List ℕ} (i : Ran vars (expr_rule depth e n.b plan.right vars (st c1 s w)) r c2 s2 w2) where
      pub right_stops : {f : Refusal} → r ≡ Err f → Ran vars (right_rule (expr_rule depth e) e id n want own d vars (st c s w)) (Err f) c2 s2 w2
      unfolding right_rule
      right_stops p = meets_right g depth k id n own_is d (resolves_to _ h (lets _ a (lets _ b (was_decided _ _ m (stops _ i.same p)))))

      module _ {o : Outcome} (q : r ≡ Ok o) {t : Step} {c3 : List ℕ} (j : CellsRan o.vars (result_last e.marks id n.op want plan.result o.vars) c2 t c3) where
        last_ran : Ran o.vars (result_last e.marks id n.op want plan.result o.vars (st c2 s2 w2)) t c3 s2 w2
        last_ran = j.ran s2 w2 (after i q).1

        pub right_last_stops : {f : Refusal} → t ≡ Err f → Ran vars (right_rule (expr_rule depth e) e id n want own d vars (st c s w)) (Err f) c3 s2 w2
        unfolding right_rule
        right_last_stops p =
            meets_right g depth k id n own_is d
            (resolves_to _ h (lets _ a (lets _ b (was_decided _ _ m (goes _ i.same q (stops _ last_ran.same p))))))

        pub right_is : {u : Outcome} → t ≡ Ok u → {v : Bool} → v ≡ (d || o.diverges) → {z : Step} → z ≡ Ok (outcome v (call_number plan.call) u.vars)
            → Ran vars (right_rule (expr_rule depth e) e id n want own d vars (st c s w)) z c3 s2 w2
        unfolding right_rule
        right_is u v p =
            meets_right g depth k id n own_is d
            (resolves_to _ h (lets _ a (lets _ b (was_decided _ _ m (goes _ i.same q (goes _ last_ran.same u (lets _ v (is p))))))))

  -- ---- a record

  module _ (id : ℕ) (n : ExpressionRow) {found : Option RecordFault} (a : found ≡ record_fault e.p e.c e.marks n.a n.b) where
    pub record_refuses : {f : RecordFault} → found ≡ Some f → {z : Step} → ran z c s w ≡ refuse_with f.fault id f.detail (st c s w)
        → Ran vars (record_rule (expr_rule depth e) e id n want vars (st c s w)) z c s w
    unfolding record_rule
    record_refuses m p = meets_record g depth k id n (lets _ a (fault_found _ _ m p))

    module _ (m : found ≡ None) {row : DefinitionRow} (b : row ≡ definition_row e.p e.c n.a) {left : ℕ} (l : left ≡ list_len e.p e.c n.b)
        {r : Step} {c1 s1 w1 : List ℕ} (i : Ran vars (fields_rule (expr_rule depth e) e row.list n.b left 0 false vars (st c s w)) r c1 s1 w1) where
      pub record_stops : {f : Refusal} → r ≡ Err f → Ran vars (record_rule (expr_rule depth e) e id n want vars (st c s w)) (Err f) c1 s1 w1
      unfolding record_rule
      record_stops p = meets_record g depth k id n (lets _ a (none_found _ _ m (lets _ b (lets _ l (stops _ i.same p)))))

      module _ {o : Outcome} (d : r ≡ Ok o) {x : ℕ} (q : x ≡ definition_code n.a) {t : Step} {c2 : List ℕ}
          (j : CellsRan o.vars (unify_step e.marks id want x o.vars) c1 t c2) where
        meet_ran : Ran o.vars (unify_step e.marks id want x o.vars (st c1 s1 w1)) t c2 s1 w1
        meet_ran = j.ran s1 w1 (after i d).1

        pub record_meet_stops : {f : Refusal} → t ≡ Err f → Ran vars (record_rule (expr_rule depth e) e id n want vars (st c s w)) (Err f) c2 s1 w1
        unfolding record_rule
        record_meet_stops p =
            meets_record g depth k id n (lets _ a (none_found _ _ m (lets _ b (lets _ l (goes _ i.same d (lets _ q (stops _ meet_ran.same p)))))))

        pub record_is : {u : Outcome} → t ≡ Ok u → {z : Step} → z ≡ Ok (outcome o.diverges 0 u.vars)
            → Ran vars (record_rule (expr_rule depth e) e id n want vars (st c s w)) z c2 s1 w1
        unfolding record_rule
        record_is u p =
            meets_record g depth k id n
            (lets _ a (none_found _ _ m (lets _ b (lets _ l (goes _ i.same d (lets _ q (goes _ meet_ran.same u (is p))))))))

  -- ---- an arm

  module _ (id list arms j : ℕ) {name : ℕ} (a : name ≡ list_item e.p e.c arms (4 * j)) {payload : ℕ} (b : payload ≡ list_item e.p e.c arms (4 * j + 1))
      {found : Option Fault} (f : found ≡ arm_fault e.p e.c e.marks list name payload) where
    pub arm_refuses : {h : Fault} → found ≡ Some h → {z : Step} → ran z c s w ≡ refuse h id (st c s w)
        → Ran vars (arm_rule (expr_rule depth e) e id list arms j want vars (st c s w)) z c s w
    unfolding arm_rule
    arm_refuses m p = meets_arm g depth k id list arms j (lets _ a (lets _ b (lets _ f (fault_found _ _ m p))))

    module _ (m : found ≡ None) {ok : Bool} {l : List ℕ} (o : opening ok l ≡ payload_opens e.p e.c e.same list name payload s) where
      pub arm_bound : ok ≡ false → {z : Step} → ran z c l w ≡ refuse SlotBoundBefore id (st c l w)
          → Ran vars (arm_rule (expr_rule depth e) e id list arms j want vars (st c s w)) z c l w
      unfolding arm_rule
      arm_bound q p = meets_arm g depth k id list arms j (lets _ a (lets _ b (lets _ f (none_found _ _ m (lets _ o (no _ _ _ q p))))))

      pub arm_is : ok ≡ true → {z : Step} {x y v : List ℕ} → Ran vars (body_rule (expr_rule depth e) e arms j payload want vars (st c l w)) z x y v
          → Ran vars (arm_rule (expr_rule depth e) e id list arms j want vars (st c s w)) z x y v
      unfolding arm_rule
      arm_is q p = meets_arm g depth k id list arms j (lets _ a (lets _ b (lets _ f (none_found _ _ m (lets _ o (yes _ _ _ q p.same))))))

  -- ---- the arms of a match

  module _ (id list arms : ℕ) {left : ℕ} (a : left ≡ list_len e.p e.c arms)
      {r : Step} {c1 s1 w1 : List ℕ} (i : Ran vars (arms_rule (expr_rule depth e) e id list arms left 0 false true want vars (st c s w)) r c1 s1 w1) where
    pub cases_stop : {f : Refusal} → r ≡ Err f → Ran vars (cases_rule (expr_rule depth e) e id list arms want vars (st c s w)) (Err f) c1 s1 w1
    unfolding cases_rule
    cases_stop p = meets_cases g depth k id list arms (lets _ a (stops _ i.same p))

    module _ {o : Outcome} (d : r ≡ Ok o) {missing : ℕ} (m : missing ≡ missing_variants e.p e.c list arms) where
      pub cases_are : missing ≡ 0 → {z : Step} → z ≡ Ok (outcome o.diverges 0 o.vars) → Ran vars (cases_rule (expr_rule depth e) e id list arms want vars (st c s w)) z c1 s1 w1
      unfolding cases_rule
      cases_are q p = meets_cases g depth k id list arms (lets _ a (goes _ i.same d (lets _ m (yes _ _ _ (eq-eqb _ _ q) (is p)))))

      pub cases_miss : (missing ≡ 0 → ⊥) → {z : Step} → ran z c1 s1 w1 ≡ refuse_with NotExhaustive id missing (st c1 s1 w1)
          → Ran vars (cases_rule (expr_rule depth e) e id list arms want vars (st c s w)) z c1 s1 w1
      unfolding cases_rule
      cases_miss q p = meets_cases g depth k id list arms (lets _ a (goes _ i.same d (lets _ m (no _ _ _ (ne_eqb _ _ q) p))))

  -- ---- a node of any kind

  module _ (id : ℕ) (more : depth ≡ 0 → ⊥) {n : ExpressionRow} (a : n ≡ expression_row e.p e.c id) {v : List ℕ} (b : v ≡ recorded w id want)
      {r : Step} {c1 s1 w1 : List ℕ} (i : Ran vars (kind_rule (expr_rule (depth - 1) e) e id n want vars (st c s v) n.kind) r c1 s1 w1) where
    pub expr_stops : {h : Refusal} → r ≡ Err h → Ran vars (expr_rule depth e id want vars (st c s w)) (Err h) c1 s1 w1
    unfolding expr_rule node_rule
    expr_stops p = meets_expr g depth k id (expr_more _ _ _ _ _ _ more (lets _ a (lets _ b (stops _ (lets _ refl i.same) p))))

    pub expr_is : {o : Outcome} → r ≡ Ok o → {l : List ℕ} → l ≡ sealed w1 id o.diverges o.call → Ran vars (expr_rule depth e id want vars (st c s w)) (Ok o) c1 s1 l
    unfolding expr_rule node_rule
    expr_is o l = meets_expr g depth k id (expr_more _ _ _ _ _ _ more (lets _ a (lets _ b (goes _ (lets _ refl i.same) o (lets _ l refl)))))

  -- the rule of its kind
  pub kind_is : (id : ℕ) (n : ExpressionRow) {kind : ℕ} → n.kind ≡ kind → {z : Step} {l m v : List ℕ} → ran z l m v ≡ kind_rule (expr_rule depth e) e id n want vars (st c s w) kind
      → Ran vars (kind_rule (expr_rule depth e) e id n want vars (st c s w) n.kind) z l m v
  kind_is id n q p = meets_kind g depth k id n _ (at_kind _ _ _ n _ _ _ q p)

-- ---- a statement, a let and a return: no type is expected of them

module _ {e : Env} {vars : ℕ} {c s w : List ℕ} (g : Given e vars (st c s w)) (depth : ℕ) where
  module _ (id : ℕ) {n : ExpressionRow} (a : n ≡ expression_row e.p e.c id) where
    pub stmt_let : n.kind ≡ let_kind → {z : Step} {l m v : List ℕ} → Ran vars (let_rule (expr_rule depth e) e id n vars (st c s w)) z l m v
        → Ran vars (stmt_rule (expr_rule depth e) e id vars (st c s w)) z l m v
    unfolding stmt_rule
    stmt_let q p = meets_stmt g depth id (lets _ a (yes _ _ _ (eq-eqb _ _ q) p.same))

    module _ (q : n.kind ≡ let_kind → ⊥) {t : Typed} {c1 : List ℕ} (f : CellsType vars (fresh_type Var vars) c t c1) where
      pub stmt_none : {h : Refusal} → t ≡ Err h → Ran vars (stmt_rule (expr_rule depth e) e id vars (st c s w)) (Err h) c1 s w
      unfolding stmt_rule
      stmt_none p = meets_stmt g depth id (lets _ a (no _ _ _ (ne_eqb _ _ q) (typed_none _ (f.ran s w g.ready).same p)))

      pub stmt_is : {own more : ℕ} → t ≡ Ok (expected own more) → {z : Step} {l m v : List ℕ} → Ran more (expr_rule depth e id own more (st c1 s w)) z l m v
          → Ran vars (stmt_rule (expr_rule depth e) e id vars (st c s w)) z l m v
      unfolding stmt_rule
      stmt_is u p = meets_stmt g depth id (lets _ a (no _ _ _ (ne_eqb _ _ q) (typed_as_lem _ (f.ran s w g.ready).same u p.same)))

  module _ (id : ℕ) (n : ExpressionRow) {v : List ℕ} (a : v ≡ recorded w id unit_code)
      {t : Typed} {c1 : List ℕ} (f : CellsType vars (let_type e.p e.c e.same e.marks id n.c vars) c t c1) where
    let_typed : Types vars (let_type e.p e.c e.same e.marks id n.c vars (st c s v)) t c1 s v
    let_typed = f.ran s v (ready_recorded g.ready id unit_code a (unit_coded vars))

    pub let_none : {h : Refusal} → t ≡ Err h → Ran vars (let_rule (expr_rule depth e) e id n vars (st c s w)) (Err h) c1 s v
    unfolding let_rule
    let_none p = meets_let g depth id n (lets _ a (typed_none _ let_typed.same p))

    module _ {own more : ℕ} (q : t ≡ Ok (expected own more)) {r : Step} {c2 s2 w2 : List ℕ} (i : Ran more (expr_rule depth e n.b own more (st c1 s v)) r c2 s2 w2) where
      pub let_stops : {h : Refusal} → r ≡ Err h → Ran vars (let_rule (expr_rule depth e) e id n vars (st c s w)) (Err h) c2 s2 w2
      unfolding let_rule
      let_stops p = meets_let g depth id n (lets _ a (typed_as_lem _ let_typed.same q (stops _ i.same p)))

      module _ {o : Outcome} (d : r ≡ Ok o) {free : Bool} {l : List ℕ} (h : (free ≡ unbound s2 n.a) × (l ≡ opened s2 n.a own)) where
        pub let_is : free ≡ true → {m : List ℕ} → m ≡ sealed w2 id o.diverges 0 → {z : Step} → z ≡ Ok (outcome o.diverges 0 o.vars)
            → Ran vars (let_rule (expr_rule depth e) e id n vars (st c s w)) z c2 l m
        unfolding let_rule
        let_is u m p =
            meets_let g depth id n (lets _ a (typed_as_lem _ let_typed.same q (goes _ i.same d (lets _ h.0 (lets _ h.1 (yes _ _ _ u (lets _ m (is p))))))))

        pub let_bound : free ≡ false → {z : Step} → ran z c2 l w2 ≡ refuse SlotBoundBefore id (st c2 l w2)
            → Ran vars (let_rule (expr_rule depth e) e id n vars (st c s w)) z c2 l w2
        unfolding let_rule
        let_bound u p = meets_let g depth id n (lets _ a (typed_as_lem _ let_typed.same q (goes _ i.same d (lets _ h.0 (lets _ h.1 (no _ _ _ u p))))))

  -- ---- a return

  module _ (id : ℕ) (n : ExpressionRow) {r : Step} {c1 s1 w1 : List ℕ} (i : Ran vars (returned_rule (expr_rule depth e) e id n.a vars (st c s w)) r c1 s1 w1) where
    pub return_stops : {h : Refusal} → r ≡ Err h → Ran vars (return_rule (expr_rule depth e) e id n vars (st c s w)) (Err h) c1 s1 w1
    unfolding return_rule
    return_stops d = meets_return g depth id n (stops _ i.same d)

    pub return_is : {o : Outcome} → r ≡ Ok o → {z : Step} → z ≡ Ok (outcome true 0 o.vars) → Ran vars (return_rule (expr_rule depth e) e id n vars (st c s w)) z c1 s1 w1
    unfolding return_rule
    return_is d p = meets_return g depth id n (goes _ i.same d (is p))
