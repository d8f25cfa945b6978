-- In plain words: whatever a step of module 4 refuses by itself has a number of 20 or more. (13 and 15 are those of other modules.)
--     Late, LateType                  a step, or a type to check against, that is accepted or refused by such a number
--     unify_late, fresh_late          the steps of the layers below, whatever the cells hold
--     plan_late, arm_late, record_late, accessed_late    the tests of operators, arms, records and fields
-- Assumes nothing.
use mathlib.Core.List.{List}
use mathlib.Core.Bool.{Bool}
use Prim.Native.Nat.{ℕ, zero, suc, ◌≤◌}
use native.Mathlib.Omega.{arith}
use Rattle.std.proofs.Common.{Option, Some, None, option_map, unwrap_or}
use Rattle.laws.specs.Faults.{number_of}
use Rattle.laws.specs.declared.fault.Fault.{Fault}
use Rattle.pack.specs.Rows.{definition_row}
use Rattle.pack.specs.declared.counts.Counts.{Counts}
use Rattle.pack.specs.declared.rows.DefinitionRow.{DefinitionRow}
use Rattle.unionfind.specs.Answers.{Answer, Made, set_answer, fresh_answer}
use Rattle.unionfind.specs.declared.codes.Kind.{Kind}
use Rattle.unify.specs.Unify.{answer_to, plan_for, both_settled, unify_answer}
use Rattle.unify.specs.declared.plan.Plan.{Plan}
use Rattle.unify.specs.declared.plan.Plan.TheVariants.{Same, Clash, Store}
use Rattle.operators.specs.Operators.{operator_plan, Plan as Decided}
use Rattle.operators.proofs.Plans.{plan_all}
use Rattle.members.specs.Types.{named_by}
use Rattle.members.specs.Field.{Accessed, field_in, field_of_definition, field_of_type, accessed_by}
use Rattle.arms.specs.Match.{payload_fault, arm_fault}
use Rattle.records.specs.Record.{counted_fault, fields_fault, record_fault}
use Rattle.records.specs.declared.answer.RecordFault.{RecordFault}
use Rattle.expr.specs.State.{typed_made, step_for, Step, Typed}
use Rattle.expr.proofs.Unmarked.{chosen}
use Rattle.std.proofs.Common.{Ok, Err}

-- "20 to 36: module 4; 37 to 39: variables"
abbrev pub least : ℕ
least = 20

abbrev pub Late : Step → Type 0
Late (Ok o) = Unit {0}
Late (Err f) = least ≤ number_of f.fault

abbrev pub LateType : Typed → Type 0
LateType (Ok t) = Unit {0}
LateType (Err f) = least ≤ number_of f.fault

-- a fault that was found
abbrev pub LateFault : Fault → Type 0
LateFault fault = least ≤ number_of fault

abbrev pub LateFound : Option Fault → Type 0
LateFound None = Unit {0}
LateFound (Some fault) = LateFault fault

-- ---- unify and fresh

abbrev LateAnswer : Answer → Type 0
LateAnswer (Ok x) = Unit {0}
LateAnswer (Err f) = least ≤ number_of f.fault

abbrev LateMade : Made → Type 0
LateMade (Ok x) = Unit {0}
LateMade (Err f) = least ≤ number_of f.fault

set_late : (n : ℕ) (xs : List ℕ) (v x : ℕ) → LateAnswer (set_answer n xs v x)
unfolding set_answer
set_late n xs v x = chosen LateAnswer _ (λ t. omega arith) (λ f. chosen LateAnswer _ (λ t. omega arith) (λ f. chosen LateAnswer _ (λ t. omega arith) (λ f. tt)))

plan_answered : (n : ℕ) (xs : List ℕ) (at : ℕ) (plan : Plan) → LateAnswer (answer_to n xs at plan)
plan_answered n xs at Same = tt
plan_answered n xs at Clash = omega arith
plan_answered n xs at (Store v x) = set_late n xs v x

step_late : (vars : ℕ) (a : Answer) → LateAnswer a → Late (step_for vars a)
step_late vars (Ok x) h = tt
step_late vars (Err f) h = h

pub unify_late : (vars : ℕ) (marks : List ℕ) (at : ℕ) (xs : List ℕ) (left right : ℕ) → Late (step_for vars (unify_answer vars marks at xs left right))
unfolding unify_answer
unify_late vars marks at xs left right = step_late vars (unify_answer vars marks at xs left right) (plan_answered vars (both_settled xs left right) at (plan_for marks xs left right))

made_late : (vars : ℕ) (a : Made) → LateMade a → LateType (typed_made vars a)
made_late vars (Ok x) h = tt
made_late vars (Err f) h = h

pub fresh_late : (vars : ℕ) (kind : Kind) → LateType (typed_made vars (fresh_answer vars kind))
unfolding fresh_answer
fresh_late vars kind = made_late vars (fresh_answer vars kind) (chosen LateMade _ (λ t. tt) (λ f. omega arith))

-- ---- operators

abbrev pub LatePlan : Decided → Type 0
LatePlan (Ok plan) = Unit {0}
LatePlan (Err fault) = LateFault fault

pub plan_late : (op own left : ℕ) (list : Bool) → LatePlan (operator_plan op own left list)
plan_late op own left list =
    plan_all LatePlan own
    (record {
      truths = tt;
      test = tt;
      same = tt;
      append = tt;
      concat = tt;
      prefix = tt;
      raise = tt;
      no_number = omega arith;
      no_integer = omega arith;
    })
    left op list

-- ---- match, record, field

abbrev pub LateRecord : Option RecordFault → Type 0
LateRecord None = Unit {0}
LateRecord (Some f) = LateFault f.fault

abbrev pub LateAccessed : Accessed → Type 0
LateAccessed (Ok t) = Unit {0}
LateAccessed (Err fault) = LateFault fault

module _ (p : List ℕ) (c : Counts) (marks : List ℕ) where
  payload_late : (fields payload : ℕ) → LateFound (payload_fault p c marks fields payload)
  unfolding payload_fault
  payload_late fields zero = chosen LateFound _ (λ t. tt) (λ f. omega arith)
  payload_late fields (suc slots) =
      chosen LateFound _ (λ t. omega arith)
      (λ f. chosen LateFound _ (λ t. chosen LateFound _ (λ t. omega arith) (λ f. tt)) (λ f. omega arith))

  pub arm_late : (list name payload : ℕ) → LateFound (arm_fault p c marks list name payload)
  unfolding arm_fault
  arm_late list name payload = chosen LateFound _ (λ t. tt) (λ f. chosen LateFound _ (λ t. payload_late _ payload) (λ f. omega arith))

  pub record_late : (d fields : ℕ) → LateRecord (record_fault p c marks d fields)
  unfolding record_fault fields_fault counted_fault
  record_late d fields =
      chosen LateRecord _
      (λ t. chosen LateRecord _ (λ t. chosen LateRecord _ (λ t. omega arith) (λ f. tt)) (λ f. omega arith))
      (λ f. omega arith)

  in_late : (list name : ℕ) → LateAccessed (field_in p c marks list name)
  unfolding field_in
  in_late list name = chosen LateAccessed _ (λ t. chosen LateAccessed _ (λ t. omega arith) (λ f. tt)) (λ f. omega arith)

  definition_late : (name : ℕ) (r : DefinitionRow) → LateAccessed (field_of_definition p c marks name r)
  unfolding field_of_definition
  definition_late name r = chosen LateAccessed _ (λ t. chosen LateAccessed _ (λ t. in_late r.list name) (λ f. omega arith)) (λ f. omega arith)

  type_late : (name x : ℕ) → LateAccessed (field_of_type p c marks name x)
  unfolding field_of_type
  type_late name x = chosen LateAccessed _ (λ t. in_late _ name) (λ f. omega arith)

  pub accessed_late : (x name : ℕ) → LateAccessed (accessed_by p c marks x name)
  unfolding accessed_by
  accessed_late x name = go (named_by p x)
    where
      go : (d : Option ℕ) → LateAccessed (unwrap_or (option_map (λ d. field_of_definition p c marks name (definition_row p c d)) d) (field_of_type p c marks name x))
      go None = type_late name x
      go (Some d) = definition_late name (definition_row p c d)
