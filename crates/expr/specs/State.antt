-- What the rules of module 4 read, change and answer, and the ways in which a rule is put together from steps.
use Rattle.std.specs.Prelude.{ℕ, ◌+◌, List, Bool, false, Result, Ok, Err, Option, Some, None}
use Rattle.laws.specs.Faults.{refusal}
use Rattle.laws.specs.declared.fault.Fault.{Fault}
use Rattle.laws.specs.declared.refusal.Refusal.{Refusal}
use Rattle.pack.specs.declared.counts.Counts.{Counts}
use Rattle.unionfind.specs.Answers.{Answer, Made, fresh_answer, fresh_cells}
use Rattle.unionfind.specs.declared.codes.Kind.{Kind}
use Rattle.unify.specs.Unify.{resolve_of, settled, unify_answer, unify_cells}
use Rattle.expr.specs.declared.answer.Outcome.{Outcome}
use Rattle.expr.specs.declared.answer.Expected.{Expected}

-- what every rule may read: the pack, its counts, its types numbered by structure and marked where they hold a variable, and the code of
-- the root's return type
pub record Env : Type 0 where
  pub p : List ℕ
  pub c : Counts
  pub same : List ℕ
  pub marks : List ℕ
  pub ret : ℕ

abbrev pub env : List ℕ → Counts → List ℕ → List ℕ → ℕ → Env
env p c same marks ret = record { p = p; c = c; same = same; marks = marks; ret = ret }

-- what they change: the cells of the variables, the slots, and what is noted of each node
pub record State : Type 0 where
  pub cells : List ℕ
  pub slots : List ℕ
  pub notes : List ℕ

abbrev pub st : List ℕ → List ℕ → List ℕ → State
st cells slots notes = record { cells = cells; slots = slots; notes = notes }

abbrev pub with_cells : List ℕ → State → State
with_cells l s = record { cells = l; slots = s.slots; notes = s.notes }

abbrev pub with_slots : List ℕ → State → State
with_slots l s = record { cells = s.cells; slots = l; notes = s.notes }

abbrev pub with_notes : List ℕ → State → State
with_notes l s = record { cells = s.cells; slots = s.slots; notes = l }

-- a step of a rule: accepted, or refused
abbrev pub Step : Type 0
Step = Result Outcome Refusal

-- what a rule answers: its step, and the state that it leaves
pub record Ans : Type 0 where
  pub step : Step
  pub st : State

abbrev pub ran : Step → List ℕ → List ℕ → List ℕ → Ans
ran r cells slots notes = record { step = r; st = st cells slots notes }

-- accepted: whether it diverges, its call, and how many variables are in use
abbrev pub outcome : Bool → ℕ → ℕ → Outcome
outcome diverges call vars = record { diverges = diverges; call = call; vars = vars }

abbrev pub done : Bool → ℕ → ℕ → State → Ans
done diverges call vars s = record { step = Ok (outcome diverges call vars); st = s }

-- "a refusal carrying number, place and detail (0 unless said)"
abbrev pub refuse_with : Fault → ℕ → ℕ → State → Ans
refuse_with fault place detail s = record { step = Err (refusal fault place detail); st = s }

abbrev pub refuse : Fault → ℕ → State → Ans
refuse fault place s = refuse_with fault place 0 s

-- what is said of a fault that was found; where none was, what follows
unfoldable pub refusing : {F : Type 0} → (F → Ans) → Ans → Option F → Ans
refusing refused next None = next
refusing refused next (Some fault) = refused fault

-- what follows of what was decided, or what is said of the fault in its place
unfoldable pub deciding : {A : Type 0} → (Fault → Ans) → (A → Ans) → Result A Fault → Ans
deciding refused next (Ok x) = next x
deciding refused next (Err fault) = refused fault

-- ---- steps one after the other

abbrev pub cont : Step → State → (Outcome → State → Ans) → Ans
cont (Ok o) s k = k o s
cont (Err f) s k = record { step = Err f; st = s }

infixr 5 ◌then◌
-- a step that has to be accepted before the rule goes on
unfoldable pub ◌then◌ : Ans → (Outcome → State → Ans) → Ans
a then k = cont a.step a.st k

-- a type to check against and how many variables are in use with it, or a refusal
abbrev pub Typed : Type 0
Typed = Result Expected Refusal

abbrev pub expected : ℕ → ℕ → Expected
expected x vars = record { code = x; vars = vars }

-- the same, and the state that asking for it leaves
pub record Typing : Type 0 where
  pub typed : Typed
  pub st : State

abbrev pub typed_as : Typed → List ℕ → List ℕ → List ℕ → Typing
typed_as r cells slots notes = record { typed = r; st = st cells slots notes }

abbrev pub cont_with : Typed → State → (ℕ → ℕ → State → Ans) → Ans
cont_with (Ok t) s k = k t.code t.vars s
cont_with (Err f) s k = record { step = Err f; st = s }

infixr 5 ◌gives◌
unfoldable pub ◌gives◌ : Typing → (ℕ → ℕ → State → Ans) → Ans
a gives k = cont_with a.typed a.st k

-- what a type stands for: "find follows links and sets every cell passed to what it found"
unfoldable pub resolving : ℕ → State → (ℕ → State → Ans) → Ans
resolving x s k = k (resolve_of s.cells x) (with_cells (settled s.cells x) s)

-- ---- the steps of the layers below

-- "One fresh variable": 37 at the asking
abbrev pub typed_made : ℕ → Made → Typed
typed_made vars (Ok x) = Ok (expected x (vars + 1))
typed_made vars (Err f) = Err f

unfoldable pub fresh_type : Kind → ℕ → State → Typing
fresh_type kind vars s =
    record {
      typed = typed_made vars (fresh_answer vars kind);
      st = with_cells (fresh_cells s.cells vars (fresh_answer vars kind)) s;
    }

-- unify at a node, expected left
abbrev pub step_for : ℕ → Answer → Step
step_for vars (Ok x) = Ok (outcome false 0 vars)
step_for vars (Err f) = Err f

unfoldable pub unify_step : List ℕ → ℕ → ℕ → ℕ → ℕ → State → Ans
unify_step marks at left right vars s =
    record {
      step = step_for vars (unify_answer vars marks at s.cells left right);
      st = with_cells (unify_cells vars marks s.cells left right) s;
    }
