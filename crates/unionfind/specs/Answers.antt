-- What each function of union-find answers, and the cells after it.
use Rattle.std.specs.Prelude.{◌≡◌, Result, Ok, Err, List, [], ◌∷◌, ◌&&◌, ℕ, zero, suc, ◌+◌, set, leb, ltb}
use Rattle.laws.specs.Choice.{pick}
use Rattle.laws.specs.Faults.{refusal}
use Rattle.laws.specs.declared.fault.Fault.TheVariants.{NoRoom, UnknownVariable, ClosesLoop}
use Rattle.laws.specs.declared.refusal.Refusal.{Refusal}
use Rattle.unionfind.specs.Codes.{number, is_var, any_tag, tag_for, own_code}
use Rattle.unionfind.specs.Cells.{capacity, is_link, trail, among, found, compressed, LoopFree, Kept, Knows, Live}
use Rattle.unionfind.specs.declared.codes.Kind.{Kind}

-- what `set` answers, and what `fresh` answers: done, or a variable's code, or "a refusal carrying number, place and detail (0 unless said)"
abbrev pub Answer : Type 0
Answer = Result Unit Refusal

abbrev pub Made : Type 0
Made = Result ℕ Refusal

-- "37 / 38 / 39: variable 2,049 of a root asked for / unknown variable / set would close a loop"
-- "Places: 37: 0. 38: the unknown one, cell before link. 39: the cell."
abbrev pub full : Made
full = Err (refusal NoRoom 0 0)

abbrev pub unknown : ℕ → Answer
unknown v = Err (refusal UnknownVariable v 0)

abbrev pub closes : ℕ → Answer
closes v = Err (refusal ClosesLoop v 0)

-- ---- the empty one

-- the n cells from i on, each mapping to itself
unfoldable pub selves : ℕ → ℕ → List ℕ
selves i zero = []
selves i (suc n) = own_code any_tag i ∷ selves (suc i) n

pub record Empties (len : ℕ) (xs : List ℕ) : Type 0 where
  pub none : len ≡ 0
  pub cells : xs ≡ selves 0 capacity
  pub live : Live 0 xs

-- ---- find

pub record Finds (xs : List ℕ) (v r : ℕ) (ys : List ℕ) : Type 0 where
  pub answer : r ≡ found xs v
  pub cells : ys ≡ compressed xs v
  pub kept : Kept xs ys

-- ---- set

-- "`set` is the Rust's, but refuses a link to another variable whose chain passes through the cell."
unfoldable pub set_answer : ℕ → List ℕ → ℕ → ℕ → Answer
set_answer n xs v x =
    pick (leb n v) (unknown v)
    (pick (is_var x && leb n (number x)) (unknown (number x))
    (pick (is_link v x && among v (trail xs (number x))) (closes v)
    (Ok _)))

-- the new cells if done, else the old ones
abbrev pub if_done : Answer → List ℕ → List ℕ → List ℕ
if_done (Ok x) new old = new
if_done (Err r) new old = old

abbrev pub set_cells : ℕ → List ℕ → ℕ → ℕ → List ℕ
set_cells n xs v x = if_done (set_answer n xs v x) (set xs v x) xs

pub record Sets (n : ℕ) (xs : List ℕ) (v x : ℕ) (r : Answer) (ys : List ℕ) : Type 0 where
  pub answer : r ≡ set_answer n xs v x
  pub cells : ys ≡ set_cells n xs v x
  pub loopfree : LoopFree ys

-- ---- fresh

-- variable n, while there is room for it
unfoldable pub fresh_answer : ℕ → Kind → Made
fresh_answer n kind = pick (ltb n capacity) (Ok (own_code (tag_for kind) n)) full

-- by the answer: the cells after it, and what is known of them
abbrev pub fresh_cells : List ℕ → ℕ → Made → List ℕ
fresh_cells xs n (Ok x) = set xs n x
fresh_cells xs n (Err r) = xs

abbrev pub LiveMade : ℕ → List ℕ → Made → Type 0
LiveMade n ys (Ok x) = Live (n + 1) ys × Knows (n + 1) x
LiveMade n ys (Err r) = Live n ys

pub record Makes (n : ℕ) (xs : List ℕ) (kind : Kind) (r : Made) (ys : List ℕ) : Type 0 where
  pub answer : r ≡ fresh_answer n kind
  pub cells : ys ≡ fresh_cells xs n (fresh_answer n kind)
  pub live : LiveMade n ys r
