-- "2. Unify (ours). Resolve both sides." Then a plan of the two resolved sides, and what is done by it.
use Rattle.std.specs.Prelude.{◌≡◌, List, ◌||◌, ℕ, eqb, Ok, Err}
use Rattle.laws.specs.Choice.{pick}
use Rattle.unionfind.specs.Codes.{tag, number, is_var, any_tag}
use Rattle.unionfind.specs.Cells.{found, compressed, Kept, Knows, Live}
use Rattle.laws.specs.Faults.{refusal}
use Rattle.laws.specs.declared.fault.Fault.TheVariants.{Mismatch}
use Rattle.unionfind.specs.Answers.{Answer, set_answer, set_cells}
use Rattle.structure.specs.Types.{holds_var}
use Rattle.unify.specs.Classes.{takes}
use Rattle.unify.specs.declared.plan.Plan.{Plan}
use Rattle.unify.specs.declared.plan.Plan.TheVariants.{Same, Clash, Store}

-- "20: types don't unify", at "the node whose rule asked"
abbrev pub mismatch : ℕ → Answer
mismatch at = Err (refusal Mismatch at 0)

-- ---- resolving

-- what a type stands for, and the cells after it was asked for
unfoldable pub resolve_of : List ℕ → ℕ → ℕ
resolve_of xs x = pick (is_var x) (found xs (number x)) x

unfoldable pub settled : List ℕ → ℕ → List ℕ
settled xs x = pick (is_var x) (compressed xs (number x)) xs

pub record Resolves (n : ℕ) (xs : List ℕ) (x r : ℕ) (ys : List ℕ) : Type 0 where
  pub answer : r ≡ resolve_of xs x
  pub cells : ys ≡ settled xs x
  pub live : Live n ys
  pub known : Knows n r
  pub kept : Kept xs ys

-- ---- the plan

-- "Two integer or two float variables: left to right. Integer variable with primitive 8 to 15, float variable with 16 or 17: set it.
-- Otherwise equal in structure .. Else 20." Types equal in structure have one code, so those are the same.
unfoldable pub number_plan : ℕ → ℕ → Plan
number_plan left right = pick (takes left right) (Store (number left) right) (pick (takes right left) (Store (number right) left) Clash)

-- "Left any-variable: set left to right; else right any-variable: set right to left."
unfoldable pub any_plan : ℕ → ℕ → Plan
any_plan left right =
    pick (eqb (tag left) any_tag) (Store (number left) right)
    (pick (eqb (tag right) any_tag) (Store (number right) left)
    (number_plan left right))

-- "Same: done. A side other than kind 7 to 9 that holds kind 7 to 10 anywhere in its rows: 20."
unfoldable pub plan_of : List ℕ → ℕ → ℕ → Plan
plan_of marks left right =
    pick (eqb left right) Same
    (pick (holds_var marks left || holds_var marks right) Clash
    (any_plan left right))

-- the answer to a plan, and the cells after it
abbrev pub answer_to : ℕ → List ℕ → ℕ → Plan → Answer
answer_to n xs at Same = Ok _
answer_to n xs at Clash = mismatch at
answer_to n xs at (Store v x) = set_answer n xs v x

abbrev pub cells_after : ℕ → List ℕ → Plan → List ℕ
cells_after n xs Same = xs
cells_after n xs Clash = xs
cells_after n xs (Store v x) = set_cells n xs v x

-- ---- unify

-- the cells with both sides resolved
abbrev pub both_settled : List ℕ → ℕ → ℕ → List ℕ
both_settled xs left right = settled (settled xs left) right

-- the plan of both sides
abbrev pub plan_for : List ℕ → List ℕ → ℕ → ℕ → Plan
plan_for marks xs left right = plan_of marks (resolve_of xs left) (resolve_of xs right)

unfoldable pub unify_answer : ℕ → List ℕ → ℕ → List ℕ → ℕ → ℕ → Answer
unify_answer n marks at xs left right = answer_to n (both_settled xs left right) at (plan_for marks xs left right)

unfoldable pub unify_cells : ℕ → List ℕ → List ℕ → ℕ → ℕ → List ℕ
unify_cells n marks xs left right = cells_after n (both_settled xs left right) (plan_for marks xs left right)

pub record Unifies (n : ℕ) (marks : List ℕ) (at : ℕ) (xs : List ℕ) (left right : ℕ) (r : Answer) (ys : List ℕ) : Type 0 where
  pub answer : r ≡ unify_answer n marks at xs left right
  pub cells : ys ≡ unify_cells n marks xs left right
  pub live : Live n ys
