-- What the functions of module 4 are given and keep, beside what they answer: the cells are those of the variables in use, and every type
-- that stands in a slot or a note names no others. (For the contracts of the functions below `check_root`; document 01 has no word of it.)
use Rattle.std.specs.Prelude.{◌≡◌, List, false, ℕ, ◌+◌, ◌-◌, ◌*◌, ◌<◌, ◌≤◌, Ok, Err}
use Rattle.laws.specs.Bounded.{get}
use Rattle.pack.specs.Lists.{list_item}
use Rattle.pack.specs.declared.counts.Counts.{Counts}
use Rattle.unionfind.specs.Cells.{Knows, Live}
use Rattle.structure.specs.Types.{code_in}
use Rattle.members.specs.Lookup.{member_of}
use Rattle.members.specs.Marks.{is_marked}
use Rattle.slots.specs.Slots.{slots as slot_count}
use Rattle.unionfind.specs.Codes.{codes}
use Rattle.words.specs.Notes.{nodes, code_noted}
use Rattle.expr.specs.State.{Env, State, Ans, Typing, st, ran, typed_as, Step, Typed}

-- x is a type's code and, where it is a variable's, that of one of the n in use
pub record Coded (n x : ℕ) : Type 0 where
  pub small : x < codes
  pub known : Knows n x

pub record SlotsCoded (vars : ℕ) (slots : List ℕ) : Type 0 where
  pub each : (i : ℕ) → Coded vars (get slot_count slots i - 2)

pub record NotesCoded (vars : ℕ) (notes : List ℕ) : Type 0 where
  pub each : (i : ℕ) → Coded vars (code_noted (get nodes notes i))

pub record Ready (vars : ℕ) (s : State) : Type 0 where
  pub live : Live vars s.cells
  pub slots : SlotsCoded vars s.slots
  pub notes : NotesCoded vars s.notes

-- a type row that is not marked is no variable
pub record Marked (p : List ℕ) (c : Counts) (same marks : List ℕ) : Type 0 where
  pub each : (i : ℕ) → is_marked marks i ≡ false → (n : ℕ) → Coded n (code_in p c same i)

-- the fields given to a record, from the k-th on, so many left, have types that are not marked
pub record Fielded (e : Env) (list fields left k : ℕ) : Type 0 where
  pub each : (j : ℕ) → k ≤ j → j < k + left → (n : ℕ) → Coded n (code_in e.p e.c e.same (member_of e.p e.c list (list_item e.p e.c fields (2 * j))))

-- after a step that was accepted no fewer variables are in use, and the state is ready for those
abbrev pub After : ℕ → Step → State → Type 0
After vars (Ok o) s = (vars ≤ o.vars) × Ready o.vars s
After vars (Err f) s = Unit {0}

abbrev pub AfterTyped : ℕ → Typed → State → Type 0
AfterTyped vars (Ok t) s = (vars ≤ t.vars) × (Ready t.vars s × Coded t.vars t.code)
AfterTyped vars (Err f) s = Unit {0}

-- a function's contract: its answer with the arrays that it leaves, and that they are ready
pub record Ran (vars : ℕ) (a : Ans) (r : Step) (cells slots notes : List ℕ) : Type 0 where
  pub same : ran r cells slots notes ≡ a
  pub ready : After vars r (st cells slots notes)

pub record Types (vars : ℕ) (a : Typing) (r : Typed) (cells slots notes : List ℕ) : Type 0 where
  pub same : typed_as r cells slots notes ≡ a
  pub ready : AfterTyped vars r (st cells slots notes)

-- that of a function that is lent the cells alone, whatever the slots and notes are
pub record CellsRan (vars : ℕ) (rule : State → Ans) (cells : List ℕ) (r : Step) (after : List ℕ) : Type 0 where
  pub ran : (slots notes : List ℕ) → Ready vars (st cells slots notes) → Ran vars (rule (st cells slots notes)) r after slots notes

pub record CellsType (vars : ℕ) (rule : State → Typing) (cells : List ℕ) (r : Typed) (after : List ℕ) : Type 0 where
  pub ran : (slots notes : List ℕ) → Ready vars (st cells slots notes) → Types vars (rule (st cells slots notes)) r after slots notes

-- that of a function that is lent the cells and may read the slots
pub record SlotsRan (vars : ℕ) (rule : State → Ans) (cells slots : List ℕ) (r : Step) (after : List ℕ) : Type 0 where
  pub ran : (notes : List ℕ) → Ready vars (st cells slots notes) → Ran vars (rule (st cells slots notes)) r after slots notes
