-- A script of operations on union-find and its answers, so that a host can compare them: three numbers an operation, two an answer.
-- "`UnionFind` without loops" is a part of 01's differential domain.
use Rattle.std.specs.Prelude.{◌≡◌, Ok, Err, List, [], ◌∷◌, ℕ, zero, suc, ◌+◌, ◌*◌, ltb, length, get_or}
use Rattle.laws.specs.Choice.{pick, by_kind}
use Rattle.laws.specs.Bounded.{put}
use Rattle.laws.specs.Faults.{number_of}
use Rattle.unionfind.specs.Cells.{capacity, found, compressed, Live}
use Rattle.unionfind.specs.Answers.{Answer, Made, selves, set_answer, set_cells, fresh_answer, fresh_cells}
use Rattle.unionfind.specs.declared.codes.Kind.{Kind}
use Rattle.unionfind.specs.declared.codes.Kind.TheVariants.{Var, IntVar, FloatVar}
use Rattle.cells_abi.specs.declared.operations.Step.{Step}

-- what an operation answers, and the cells after it
pub record Stepped : Type 0 where
  pub answer : ℕ
  pub place : ℕ
  pub len : ℕ
  pub cells : List ℕ

abbrev pub stepped : ℕ → ℕ → ℕ → List ℕ → Stepped
stepped a p n xs = record { answer = a; place = p; len = n; cells = xs }

-- fresh: the code, or 37
abbrev pub if_made : ℕ → List ℕ → Made → Stepped
if_made n ys (Ok x) = stepped x 0 (n + 1) ys
if_made n ys (Err r) = stepped (number_of r.fault) r.place n ys

unfoldable pub make_step : Kind → ℕ → List ℕ → Stepped
make_step kind n xs = if_made n (fresh_cells xs n (fresh_answer n kind)) (fresh_answer n kind)

-- find and find_ref: what is found, or 38 for a variable that is not in use
unfoldable pub find_step : ℕ → ℕ → List ℕ → Stepped
find_step v n xs = pick (ltb v n) (stepped (found xs v) 0 n (compressed xs v)) (stepped 38 v n xs)

unfoldable pub ref_step : ℕ → ℕ → List ℕ → Stepped
ref_step v n xs = pick (ltb v n) (stepped (found xs v) 0 n xs) (stepped 38 v n xs)

-- what stands in a cell, so that compression is seen; or 38
unfoldable pub cell_step : ℕ → ℕ → List ℕ → Stepped
cell_step v n xs = pick (ltb v n) (stepped (get_or xs v 0) 0 n xs) (stepped 38 v n xs)

-- set: 0, or 38 or 39
abbrev pub if_set : ℕ → List ℕ → Answer → Stepped
if_set n ys (Ok x) = stepped 0 0 n ys
if_set n ys (Err r) = stepped (number_of r.fault) r.place n ys

unfoldable pub set_step : ℕ → ℕ → ℕ → List ℕ → Stepped
set_step v x n xs = if_set n (set_cells n xs v x) (set_answer n xs v x)

-- the operation of a number: 0 to 2 fresh by kind, 3 find, 4 find_ref, 5 the cell itself, any other set
unfoldable pub operation_of : ℕ → ℕ → ℕ → ℕ → List ℕ → Stepped
operation_of op v x n xs =
    by_kind xs op (set_step v x n xs) (make_step Var n ∷ make_step IntVar n ∷ make_step FloatVar n ∷ find_step v n ∷ ref_step v n ∷ cell_step v n ∷ [])

-- the number at i of a script, 0 past its end
unfoldable pub number_at : List ℕ → ℕ → ℕ
number_at script i = get_or script i 0

-- operation i of a script, with n variables in use
unfoldable pub step_of : List ℕ → ℕ → ℕ → List ℕ → Stepped
step_of script i n xs = operation_of (number_at script (3 * i)) (number_at script (3 * i + 1)) (number_at script (3 * i + 2)) n xs

-- its two numbers among the answers
unfoldable pub noted : ℕ → Stepped → List ℕ → List ℕ
noted i s out = put (length out) (put (length out) out (2 * i) s.answer) (2 * i + 1) s.place

-- k operations from operation i on
unfoldable pub replay_from : List ℕ → ℕ → ℕ → ℕ → List ℕ → List ℕ → List ℕ
replay_from script zero i n xs out = out
replay_from script (suc k) i n xs out =
    replay_from script k (i + 1) (step_of script i n xs).len (step_of script i n xs).cells (noted i (step_of script i n xs) out)

-- all of them, from no variable on
unfoldable pub replay_of : List ℕ → ℕ → List ℕ → List ℕ
replay_of script ops out = replay_from script ops 0 0 (selves 0 capacity) out

-- ---- what the functions promise

pub record Steps (s : Stepped) (r : Step) (ys : List ℕ) : Type 0 where
  pub same : stepped r.answer r.place r.len ys ≡ s
  pub live : Live r.len ys

pub record Told (s : Stepped) (i : ℕ) (out : List ℕ) (r : ℕ) (ys after : List ℕ) : Type 0 where
  pub len : r ≡ s.len
  pub cells : ys ≡ s.cells
  pub answers : after ≡ noted i s out
  pub live : Live r ys
