-- Which refusal numbers module 4 can give: one law a way of putting a rule together, then one line a rule.
-- Assumes nothing.
use Prim.Native.Nat.{ℕ, zero, suc, ◌+◌, ◌*◌}
use mathlib.Core.Path.{◌≡◌, refl, subst}
use mathlib.Core.Bool.{Bool, true, false}
use mathlib.Core.List.{List, ◌∷◌}
use native.Mathlib.Omega.{arith}
use lib.Dec.{eqb, lit≤}
use Rattle.laws.specs.Choice.{pick, letting, by_kind}
use Rattle.laws.specs.Lists.{In}
use Rattle.pack.specs.Lists.{list_item}
use Rattle.pack.specs.Rows.{definition_row}
use Rattle.pack.specs.declared.counts.Counts.{Counts}
use Rattle.pack.specs.declared.rows.ExpressionRow.{ExpressionRow}
use Rattle.unionfind.specs.Answers.{Answer, Made, full, set_answer, fresh_answer}
use Rattle.unionfind.specs.declared.codes.Kind.{Kind}
use Rattle.unify.specs.Unify.{answer_to, both_settled, plan_for, unify_answer}
use Rattle.unify.specs.declared.plan.Plan.{Plan}
use Rattle.unify.specs.declared.plan.Plan.TheVariants as plan
use Rattle.operators.specs.Operators.{operator_plan, Plan as Decided}
use Rattle.operators.proofs.Plans.{plan_all}
use Rattle.operators.specs.declared.plan.OperatorPlan.{OperatorPlan}
use Rattle.std.proofs.Common.{Option, Some, None, option_map, unwrap_or}
use Rattle.members.specs.Types.{named_by, is_list}
use Rattle.members.specs.Field.{Accessed, field_in, field_of_definition, field_of_type, accessed_by}
use Rattle.arms.specs.Match.{subject_of, payload_fault, arm_fault}
use Rattle.arms.specs.declared.answer.Subject.{Subject}
use Rattle.arms.specs.declared.answer.Subject.TheVariants as subject
use Rattle.records.specs.Record.{counted_fault, fields_fault, record_fault}
use Rattle.records.specs.declared.answer.RecordFault.{RecordFault}
use Rattle.laws.specs.declared.fault.Fault.{Fault}
use Rattle.laws.specs.declared.fault.Fault.TheVariants.{ExamineeDiverges, NotAnEnum, ArmAfterAny, NotExhaustive, SlotNotOpen, SlotBoundBefore, HoldsVariable, NotPlain, TooDeep, StrayLet}
use Rattle.laws.specs.Faults.{number_of}
use Rattle.expr.proofs.Unmarked.{chosen}
use Rattle.expr.proofs.Decided.{by_found, by_decided}
use Rattle.expr.specs.State.{Env, State, Ans, Typing, done, refuse_with, cont, ◌then◌, cont_with, ◌gives◌, resolving, typed_made, fresh_type, step_for, unify_step, Step, Typed}
use Rattle.expr.specs.Rules.{Run, bare_rule, literal_rule, slot_rule, let_type, let_rule, stmt_rule, stmts_rule, last_rule, block_rule, bool_first, operand_type, result_last, right_rule, operator_rule, guard_rule, body_rule, arm_rule, arms_rule, cases_rule, subject_rule, match_rule, fields_rule, record_rule, field_type_rule, accessed_rule, field_rule, returned_rule, return_rule, kind_rule, node_rule, expr_rule}
use Rattle.expr.specs.Root.{root_rule}
use Rattle.expr.specs.declared.answer.Outcome.{Outcome}
use Rattle.entries.specs.Numbers.{of_rules}
use Rattle.std.proofs.Common.{Ok, Err}

-- a refusal has one of these numbers
abbrev pub Fine : Step → Type 0
Fine (Ok o) = Unit {0}
Fine (Err r) = In (number_of r.fault) of_rules

abbrev FineType : Typed → Type 0
FineType (Ok t) = Unit {0}
FineType (Err r) = In (number_of r.fault) of_rules

pub record Gives (a : Ans) : Type 0 where
  pub inside : Fine a.step

record GivesType (a : Typing) : Type 0 where
  inside : FineType a.typed

-- ---- the ways of putting a rule together

of_done : (d : Bool) (call vars : ℕ) (s : State) → Gives (done d call vars s)
of_done d call vars s = record { inside = tt }

of_refusal : (fault : Fault) (place detail : ℕ) (s : State) → In (number_of fault) of_rules → Gives (refuse_with fault place detail s)
of_refusal fault place detail s h = record { inside = h }

of_cont : (t : Step) (s : State) (k : Outcome → State → Ans) → Fine t → ((o : Outcome) (s : State) → Gives (k o s)) → Gives (cont t s k)
of_cont (Ok o) s k h f = f o s
of_cont (Err r) s k h f = record { inside = h }

of_then : (a : Ans) (k : Outcome → State → Ans) → Gives a → ((o : Outcome) (s : State) → Gives (k o s)) → Gives (a then k)
unfolding ◌then◌
of_then a k g f = of_cont a.step a.st k g.inside f

of_cont_with : (t : Typed) (s : State) (k : ℕ → ℕ → State → Ans) → FineType t → ((x vars : ℕ) (s : State) → Gives (k x vars s)) → Gives (cont_with t s k)
of_cont_with (Ok t) s k h f = f t.code t.vars s
of_cont_with (Err r) s k h f = record { inside = h }

of_gives : (a : Typing) (k : ℕ → ℕ → State → Ans) → GivesType a → ((x vars : ℕ) (s : State) → Gives (k x vars s)) → Gives (a gives k)
unfolding ◌gives◌
of_gives a k g f = of_cont_with a.typed a.st k g.inside f

of_resolving : (x : ℕ) (s : State) (k : ℕ → State → Ans) → ((x : ℕ) (s : State) → Gives (k x s)) → Gives (resolving x s k)
unfolding resolving
of_resolving x s k f = f _ _

of_pick : (b : Bool) (x y : Ans) → Gives x → (b ≡ false → Gives y) → Gives (pick b x y)
unfolding pick
of_pick true x y g h = g
of_pick false x y g h = h refl

of_letting : {A : Type 0} (a : A) (k : A → Ans) → Gives (k a) → Gives (letting a k)
unfolding letting
of_letting a k g = g

-- ---- the layers below

made_fine : (vars : ℕ) (b : Bool) (m : Made) → FineType (typed_made vars m) → FineType (typed_made vars (pick b m full))
unfolding pick
made_fine vars true m h = h
made_fine vars false m h = lit≤ tt

of_fresh : (kind : Kind) (vars : ℕ) (s : State) → GivesType (fresh_type kind vars s)
unfolding fresh_type fresh_answer
of_fresh kind vars s = record { inside = made_fine vars _ (Ok _) tt }

answer_pick : (vars : ℕ) (b : Bool) (x y : Answer) → Fine (step_for vars x) → Fine (step_for vars y) → Fine (step_for vars (pick b x y))
unfolding pick
answer_pick vars true x y g h = g
answer_pick vars false x y g h = h

set_fine : (vars n : ℕ) (xs : List ℕ) (v x : ℕ) → Fine (step_for vars (set_answer n xs v x))
unfolding set_answer
set_fine vars n xs v x = answer_pick vars _ _ _ (lit≤ tt) (answer_pick vars _ _ _ (lit≤ tt) (answer_pick vars _ _ _ (lit≤ tt) tt))

answer_fine : (vars n : ℕ) (xs : List ℕ) (at : ℕ) (q : Plan) → Fine (step_for vars (answer_to n xs at q))
answer_fine vars n xs at plan.Same = tt
answer_fine vars n xs at plan.Clash = lit≤ tt
answer_fine vars n xs at (plan.Store v x) = set_fine vars n xs v x

of_unify : (marks : List ℕ) (at left right vars : ℕ) (s : State) → Gives (unify_step marks at left right vars s)
unfolding unify_step unify_answer
of_unify marks at left right vars s = record { inside = answer_fine vars vars (both_settled s.cells left right) at (plan_for marks s.cells left right) }

-- ---- plans, arms, records and fields

abbrev FineFound : Option Fault → Type 0
FineFound None = Unit {0}
FineFound (Some fault) = In (number_of fault) of_rules

abbrev FineRecord : Option RecordFault → Type 0
FineRecord None = Unit {0}
FineRecord (Some f) = In (number_of f.fault) of_rules

abbrev FinePlan : Decided → Type 0
FinePlan (Ok plan) = Unit {0}
FinePlan (Err fault) = In (number_of fault) of_rules

plan_fine : (op own left : ℕ) (list : Bool) → FinePlan (operator_plan op own left list)
plan_fine op own left list =
    plan_all FinePlan own
    (record {
      truths = tt;
      test = tt;
      same = tt;
      append = tt;
      concat = tt;
      prefix = tt;
      raise = tt;
      no_number = lit≤ tt;
      no_integer = lit≤ tt;
    })
    left op list

payload_fine : (p : List ℕ) (c : Counts) (marks : List ℕ) (fields payload : ℕ) → FineFound (payload_fault p c marks fields payload)
unfolding payload_fault
payload_fine p c marks fields zero = chosen FineFound _ (λ t. tt) (λ f. lit≤ tt)
payload_fine p c marks fields (suc l) = chosen FineFound _ (λ t. lit≤ tt) (λ f. chosen FineFound _ (λ t. chosen FineFound _ (λ t. lit≤ tt) (λ f. tt)) (λ f. lit≤ tt))

arm_fine : (p : List ℕ) (c : Counts) (marks : List ℕ) (list name payload : ℕ) → FineFound (arm_fault p c marks list name payload)
unfolding arm_fault
arm_fine p c marks list name payload = chosen FineFound _ (λ t. tt) (λ f. chosen FineFound _ (λ t. payload_fine p c marks _ payload) (λ f. lit≤ tt))

record_fine : (p : List ℕ) (c : Counts) (marks : List ℕ) (d fields : ℕ) → FineRecord (record_fault p c marks d fields)
unfolding record_fault fields_fault counted_fault
record_fine p c marks d fields =
    chosen FineRecord _
    (λ t. chosen FineRecord _ (λ t. chosen FineRecord _ (λ t. lit≤ tt) (λ f. tt)) (λ f. lit≤ tt))
    (λ f. lit≤ tt)

-- the number of a field that can't be taken
abbrev FineAccess : Accessed → Type 0
FineAccess (Ok t) = Unit {0}
FineAccess (Err fault) = In (number_of fault) of_rules

access_pick : (b : Bool) (x y : Accessed) → FineAccess x → FineAccess y → FineAccess (pick b x y)
unfolding pick
access_pick true x y g h = g
access_pick false x y g h = h

field_in_lem : (p : List ℕ) (c : Counts) (marks : List ℕ) (list name : ℕ) → FineAccess (field_in p c marks list name)
unfolding field_in
field_in_lem p c marks list name = access_pick _ _ _ (access_pick _ _ _ (lit≤ tt) tt) (lit≤ tt)

accessed_fine : (p : List ℕ) (c : Counts) (marks : List ℕ) (x name : ℕ) (named : Option ℕ) → FineAccess (unwrap_or (option_map (λ d. field_of_definition p c marks name (definition_row p c d)) named) (field_of_type p c marks name x))
unfolding field_of_type field_of_definition
accessed_fine p c marks x name None = access_pick _ _ _ (field_in_lem p c marks _ name) (lit≤ tt)
accessed_fine p c marks x name (Some d) = access_pick _ _ _ (access_pick _ _ _ (field_in_lem p c marks _ name) (lit≤ tt)) (lit≤ tt)

access_fine : (p : List ℕ) (c : Counts) (marks : List ℕ) (x name : ℕ) → FineAccess (accessed_by p c marks x name)
unfolding accessed_by
access_fine p c marks x name = accessed_fine p c marks x name (named_by p x)

-- ---- the rules, for a checker of parts that gives none but these numbers

module _ (run : Run) (parts : (id want vars : ℕ) (s : State) → Gives (run id want vars s)) where
  of_bare : (kind : Kind) (marks : List ℕ) (id want vars : ℕ) (s : State) → Gives (bare_rule kind marks id want vars s)
  unfolding bare_rule
  of_bare kind marks id want vars s = of_gives _ _ (of_fresh kind vars s) (λ x vars s. of_unify marks id want x vars s)

  of_literal : (marks : List ℕ) (id : ℕ) (n : ExpressionRow) (want vars : ℕ) (s : State) → Gives (literal_rule marks id n want vars s)
  unfolding literal_rule
  of_literal marks id n want vars s = of_pick _ _ _ (of_bare _ marks id want vars s) (λ f. of_pick _ _ _ (of_bare _ marks id want vars s) (λ f. of_letting _ _ (of_unify marks id want _ vars s)))

  of_slot : (marks : List ℕ) (id : ℕ) (n : ExpressionRow) (want vars : ℕ) (s : State) → Gives (slot_rule marks id n want vars s)
  unfolding slot_rule
  of_slot marks id n want vars s = of_letting _ _ (of_pick _ _ _ (of_unify marks id want _ vars s) (λ f. of_refusal SlotNotOpen id 0 s (lit≤ tt)))

  type_pick : (b : Bool) (x y : Typing) → GivesType x → GivesType y → GivesType (pick b x y)
  unfolding pick
  type_pick true x y g h = g
  type_pick false x y g h = h

  of_let_type : (e : Env) (id t vars : ℕ) (s : State) → GivesType (let_type e.p e.c e.same e.marks id t vars s)
  unfolding let_type letting
  of_let_type e id zero vars s = of_fresh _ vars s
  of_let_type e id (suc t) vars s = type_pick _ _ _ (record { inside = lit≤ tt }) (record { inside = tt })

  of_let : (e : Env) (id : ℕ) (n : ExpressionRow) (vars : ℕ) (s : State) → Gives (let_rule run e id n vars s)
  unfolding let_rule
  of_let e id n vars s =
      of_letting _ _
      (of_gives _ _ (of_let_type e id n.c vars _)
      (λ x vars s. of_then _ _ (parts _ _ _ s)
      (λ o s. of_letting _ _ (of_letting _ _ (of_pick _ _ _ (of_letting _ _ (of_done _ _ _ _)) (λ f. of_refusal SlotBoundBefore id 0 _ (lit≤ tt)))))))

  of_stmt : (e : Env) (id vars : ℕ) (s : State) → Gives (stmt_rule run e id vars s)
  unfolding stmt_rule
  of_stmt e id vars s = of_letting _ _ (of_pick _ _ _ (of_let e id _ vars s) (λ f. of_gives _ _ (of_fresh _ vars s) (λ x vars s. parts _ _ _ s)))

  of_stmts : (e : Env) (list left k : ℕ) (d : Bool) (vars : ℕ) (s : State) → Gives (stmts_rule run e list left k d vars s)
  unfolding stmts_rule
  of_stmts e list zero k d vars s = of_done _ _ _ _
  of_stmts e list (suc left) k d vars s = of_letting _ _ (of_then _ _ (of_stmt e _ vars s) (λ o s. of_letting _ _ (of_stmts e list left _ _ _ s)))

  of_last : (e : Env) (id b want : ℕ) (d : Bool) (vars : ℕ) (s : State) → Gives (last_rule run e id b want d vars s)
  unfolding last_rule
  of_last e id zero want d vars s = of_pick _ _ _ (of_done _ _ _ _) (λ f. of_unify _ _ _ _ _ s)
  of_last e id (suc l) want d vars s = parts _ _ _ s

  of_block : (e : Env) (id : ℕ) (n : ExpressionRow) (want vars : ℕ) (s : State) → Gives (block_rule run e id n want vars s)
  unfolding block_rule
  of_block e id n want vars s =
      of_letting _ _
      (of_then _ _ (of_stmts e _ _ _ _ _ s)
      (λ o s. of_then _ _ (of_last e id n.b want _ _ s)
      (λ l s. of_letting _ _ (of_letting _ _ (of_letting _ _ (of_letting _ _ (of_done _ _ _ _)))))))

  of_operand : (op vars : ℕ) (s : State) → GivesType (operand_type op vars s)
  unfolding operand_type
  of_operand op vars s = type_pick _ _ _ (record { inside = tt }) (of_fresh _ vars s)

  of_right : (e : Env) (id : ℕ) (n : ExpressionRow) (want own : ℕ) (d : Bool) (vars : ℕ) (s : State) → Gives (right_rule run e id n want own d vars s)
  unfolding right_rule result_last
  of_right e id n want own d vars s =
      of_resolving _ s _
      (λ x s. of_letting _ _
      (of_letting _ _
      (by_decided Gives _ _ _
      (λ plan t. of_then _ _ (parts _ _ _ s)
      (λ r s. of_then _ _ (of_pick _ _ _ (of_done _ _ _ _) (λ f. of_unify _ _ _ _ _ s)) (λ u s. of_letting _ _ (of_done _ _ _ _))))
      (λ f t. of_refusal f _ 0 s (subst FinePlan t (plan_fine n.op own x (is_list e.p e.c x)))))))

  of_operator : (e : Env) (id : ℕ) (n : ExpressionRow) (want vars : ℕ) (s : State) → Gives (operator_rule run e id n want vars s)
  unfolding operator_rule bool_first
  of_operator e id n want vars s =
      of_then _ _ (of_pick _ _ _ (of_unify _ _ _ _ _ s) (λ f. of_done _ _ _ _))
      (λ u s. of_gives _ _ (of_operand n.op _ s) (λ own vars s. of_then _ _ (parts _ _ _ s) (λ l s. of_right e id n want own _ _ s)))

  of_guard : (g vars : ℕ) (s : State) → Gives (guard_rule run g vars s)
  unfolding guard_rule
  of_guard zero vars s = of_done _ _ _ _
  of_guard (suc g) vars s = parts _ _ _ s

  of_body : (e : Env) (arms k payload want vars : ℕ) (s : State) → Gives (body_rule run e arms k payload want vars s)
  unfolding body_rule
  of_body e arms k payload want vars s =
      of_letting _ _ (of_then _ _ (of_guard _ vars s) (λ g s. of_letting _ _ (of_then _ _ (parts _ _ _ s) (λ o s. of_letting _ _ (of_done _ _ _ _)))))

  of_arm : (e : Env) (id list arms k want vars : ℕ) (s : State) → Gives (arm_rule run e id list arms k want vars s)
  unfolding arm_rule
  of_arm e id list arms k want vars s =
      of_letting _ _
      (of_letting _ _
      (of_letting _ _
      (by_found Gives _ _ _
      (λ t. of_letting _ _ (of_pick _ _ _ (of_body e arms k _ want vars _) (λ f. of_refusal SlotBoundBefore id 0 _ (lit≤ tt))))
      (λ f t. of_refusal f id 0 s (subst FineFound t (arm_fine e.p e.c e.marks list (list_item e.p e.c arms (4 * k)) (list_item e.p e.c arms (4 * k + 1))))))))

  of_arms : (e : Env) (id list arms left k : ℕ) (ended d : Bool) (want vars : ℕ) (s : State) → Gives (arms_rule run e id list arms left k ended d want vars s)
  unfolding arms_rule
  of_arms e id list arms zero k ended d want vars s = of_done _ _ _ _
  of_arms e id list arms (suc left) k ended d want vars s =
      of_pick _ _ _
      (of_letting _ _ (of_refusal ArmAfterAny _ 0 s (lit≤ tt)))
      (λ f. of_then _ _ (of_arm e id list arms k want vars s) (λ o s. of_letting _ _ (of_letting _ _ (of_arms e id list arms left _ _ _ want _ s))))

  of_cases : (e : Env) (id list arms want vars : ℕ) (s : State) → Gives (cases_rule run e id list arms want vars s)
  unfolding cases_rule
  of_cases e id list arms want vars s =
      of_letting _ _
      (of_then _ _ (of_arms e id list arms _ _ _ _ want vars s)
      (λ o s. of_letting _ _ (of_pick _ _ _ (of_done _ _ _ _) (λ f. of_refusal NotExhaustive id _ s (lit≤ tt)))))

  of_subject : (e : Env) (id : ℕ) (n : ExpressionRow) (want vars : ℕ) (s : State) (x : Subject) → Gives (subject_rule run e id n want vars s x)
  of_subject e id n want vars s subject.Other = of_refusal NotAnEnum _ 0 s (lit≤ tt)
  of_subject e id n want vars s subject.Generic = of_refusal NotPlain id 0 s (lit≤ tt)
  of_subject e id n want vars s (subject.Enum list) = of_cases e id list n.b want vars s

  of_match : (e : Env) (id : ℕ) (n : ExpressionRow) (want vars : ℕ) (s : State) → Gives (match_rule run e id n want vars s)
  unfolding match_rule
  of_match e id n want vars s =
      of_gives _ _ (of_fresh _ vars s)
      (λ own vars s. of_then _ _ (parts _ _ _ s)
      (λ o s. of_pick _ _ _ (of_refusal ExamineeDiverges _ 0 s (lit≤ tt)) (λ f. of_resolving _ s _ (λ x s. of_letting _ _ (of_subject e id n want o.vars s (subject_of e.p e.c x))))))

  of_fields : (e : Env) (list fields left k : ℕ) (d : Bool) (vars : ℕ) (s : State) → Gives (fields_rule run e list fields left k d vars s)
  unfolding fields_rule
  of_fields e list fields zero k d vars s = of_done _ _ _ _
  of_fields e list fields (suc left) k d vars s =
      of_letting _ _ (of_letting _ _ (of_letting _ _ (of_letting _ _ (of_then _ _ (parts _ _ _ s) (λ o s. of_letting _ _ (of_fields e list fields left _ _ _ s))))))

  of_record : (e : Env) (id : ℕ) (n : ExpressionRow) (want vars : ℕ) (s : State) → Gives (record_rule run e id n want vars s)
  unfolding record_rule
  of_record e id n want vars s =
      of_letting _ _
      (by_found Gives _ _ _
      (λ t. of_letting _ _
      (of_letting _ _
      (of_then _ _ (of_fields e _ _ _ _ _ vars s) (λ o s. of_letting _ _ (of_then _ _ (of_unify _ _ _ _ _ s) (λ u s. of_done _ _ _ _))))))
      (λ f t. of_refusal f.fault id f.detail s (subst FineRecord t (record_fine e.p e.c e.marks n.a n.b))))

  of_accessed : (e : Env) (id want : ℕ) (d : Bool) (vars : ℕ) (s : State) (x : Accessed) → FineAccess x → Gives (accessed_rule e id want d vars s x)
  unfolding field_type_rule
  of_accessed e id want d vars s (Err fault) h = of_refusal fault id 0 s h
  of_accessed e id want d vars s (Ok t) h = of_letting _ _ (of_then _ _ (of_unify _ _ _ _ _ s) (λ u s. of_done _ _ _ _))

  of_field : (e : Env) (id : ℕ) (n : ExpressionRow) (want vars : ℕ) (s : State) → Gives (field_rule run e id n want vars s)
  unfolding field_rule
  of_field e id n want vars s =
      of_gives _ _ (of_fresh _ vars s)
      (λ own vars s. of_then _ _ (parts _ _ _ s)
      (λ o s. of_resolving _ s _ (λ x s. of_letting _ _ (of_accessed e id want o.diverges o.vars s (accessed_by e.p e.c e.marks x n.b) (access_fine e.p e.c e.marks x n.b)))))

  of_returned : (e : Env) (id v vars : ℕ) (s : State) → Gives (returned_rule run e id v vars s)
  unfolding returned_rule
  of_returned e id zero vars s = of_unify _ _ _ _ _ s
  of_returned e id (suc v) vars s = parts _ _ _ s

  of_kind : (e : Env) (id : ℕ) (n : ExpressionRow) (want vars : ℕ) (s : State) (kind : ℕ) → Gives (kind_rule run e id n want vars s kind)
  unfolding kind_rule return_rule
  of_kind e id n want vars s kind =
      of_pick _ _ _ (of_literal _ id n want vars s)
      (λ f. of_pick _ _ _ (of_slot _ id n want vars s)
      (λ f. of_pick _ _ _ (of_block e id n want vars s)
      (λ f. of_pick _ _ _ (of_match e id n want vars s)
      (λ f. of_pick _ _ _ (of_operator e id n want vars s)
      (λ f. of_pick _ _ _ (of_record e id n want vars s)
      (λ f. of_pick _ _ _ (of_field e id n want vars s)
      (λ f. of_pick _ _ _ (of_then _ _ (of_returned e id n.a vars s) (λ o s. of_done _ _ _ _))
      (λ f. of_refusal StrayLet id 0 s (lit≤ tt)))))))))

  of_node : (e : Env) (id want vars : ℕ) (s : State) → Gives (node_rule run e id want vars s)
  unfolding node_rule
  of_node e id want vars s = of_letting _ _ (of_letting _ _ (of_then _ _ (of_letting _ _ (of_kind e id _ want vars _ _)) (λ o s. of_letting _ _ (record { inside = tt }))))

pub of_expr : (left : ℕ) (e : Env) (id want vars : ℕ) (s : State) → Gives (expr_rule left e id want vars s)
unfolding expr_rule
of_expr zero e id want vars s = of_refusal TooDeep id 0 s (lit≤ tt)
of_expr (suc left) e id want vars s = of_node (expr_rule left e) (of_expr left e) e id want vars s

-- a root gives none but these numbers
pub of_root_lem : (p : List ℕ) (c : Counts) (same marks : List ℕ) (root : ℕ) → Gives (root_rule p c same marks root)
unfolding root_rule
of_root_lem p c same marks root =
    of_letting _ _
    (of_pick _ _ _ (of_refusal HoldsVariable _ 0 _ (lit≤ tt))
    (λ f. of_letting _ _ (of_letting _ _ (of_pick _ _ _ (of_expr _ _ _ _ _ _) (λ f. of_refusal SlotBoundBefore _ 0 _ (lit≤ tt))))))
