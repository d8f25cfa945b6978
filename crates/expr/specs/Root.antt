-- A root: "Root first: 35 over parameters and return type, then 34." Then its body, against its return type; and what a report writes.
use Rattle.std.specs.Prelude.{ℕ, ◌*◌, ◌<◌, ◌≤◌, ◌≡◌, ◌||◌, List, [], ◌∷◌, ltb, length, replicate, Result, Ok, Err}
use Rattle.laws.specs.declared.fault.Fault.TheVariants.{SlotBoundBefore, HoldsVariable}
use Rattle.laws.specs.declared.refusal.Refusal.{Refusal}
use Rattle.laws.specs.Choice.{pick, letting}
use Rattle.laws.specs.Lists.{bit, gather}
use Rattle.pack.specs.Rows.{root_row}
use Rattle.pack.specs.declared.counts.Counts.{Counts}
use Rattle.formed.specs.Formed.{formed_of}
use Rattle.trees.specs.Nodes.{max_depth}
use Rattle.unionfind.specs.Cells.{capacity}
use Rattle.unionfind.specs.Answers.{selves}
use Rattle.structure.specs.Structure.{rows, PartsSmaller, row_number, holds}
use Rattle.structure.specs.Table.{Numbers}
use Rattle.structure.specs.Types.{code_in}
use Rattle.members.specs.Marks.{is_marked, any_field_marked}
use Rattle.slots.specs.Slots.{slots, open_pairs}
use Rattle.words.specs.Notes.{nodes}
use Rattle.words.specs.Words.{words_area}
use Rattle.expr.specs.State.{env, State, Ans, st, refuse, Step}
use Rattle.expr.specs.Rules.{expr_rule}

-- ---- the type table by structure, from the pack

-- each row's smallest equal row, and whether it holds a variable; 0 past the rows
unfoldable pub same_of : List ℕ → Counts → List ℕ
same_of p c = gather (λ k. pick (ltb k c.types) (row_number p c k) 0 ∷ []) 0 rows

unfoldable pub marks_of : List ℕ → Counts → List ℕ
marks_of p c = gather (λ k. pick (ltb k c.types) (bit (holds p c k)) 0 ∷ []) 0 rows

-- ---- checking

-- no variable in use, no slot bound, no node seen
abbrev pub start : List ℕ → State
start slots = st (selves 0 capacity) slots (replicate nodes 0)

unfoldable pub root_rule : List ℕ → Counts → List ℕ → List ℕ → ℕ → Ans
root_rule p c same marks root =
    letting (root_row p c root) λ r.
    pick (is_marked marks r.returns || any_field_marked p c marks r.list)
    (refuse HoldsVariable r.body (start (replicate slots 0)))
    (letting (code_in p c same r.returns) λ ret.
    letting (open_pairs p c same r.list (replicate slots 0)) λ o.
    pick o.ok
    (expr_rule max_depth (env p c same marks ret) r.body ret 0 (start o.slots))
    (refuse SlotBoundBefore r.body (start o.slots)))

-- ---- answering

-- "either a report or a refusal"
abbrev pub Checked : Type 0
Checked = Result (Unit {0}) Refusal

abbrev pub checked_as : Step → Checked
checked_as (Ok o) = Ok tt
checked_as (Err f) = Err f

-- "A refusal leaves the result area unchanged. A root's report writes 4 bytes at 4·id for each node of that root"
abbrev pub written : Counts → Step → State → List ℕ → List ℕ
written c (Ok o) s area = words_area s.cells s.notes c.expressions area
written c (Err f) s area = area

-- from a table
unfoldable pub root_answer_in : List ℕ → Counts → List ℕ → List ℕ → ℕ → Checked
root_answer_in p c same marks root = checked_as (root_rule p c same marks root).step

unfoldable pub root_area_in : List ℕ → Counts → List ℕ → List ℕ → ℕ → List ℕ → List ℕ
root_area_in p c same marks root area = written c (root_rule p c same marks root).step (root_rule p c same marks root).st area

-- from the pack
abbrev pub root_answer : List ℕ → Counts → ℕ → Checked
root_answer p c root = root_answer_in p c (same_of p c) (marks_of p c) root

abbrev pub root_area : List ℕ → Counts → ℕ → List ℕ → List ℕ
root_area p c root area = root_area_in p c (same_of p c) (marks_of p c) root area

-- ---- the tables that a root is lent

-- no variable in use, no node seen
pub record Blank (xs ws : List ℕ) : Type 0 where
  pub cells : xs ≡ selves 0 capacity
  pub notes : ws ≡ replicate nodes 0

-- after a report they are as they were, after a refusal as the rule left them
abbrev pub cells_after : Step → State → List ℕ
cells_after (Ok o) s = selves 0 capacity
cells_after (Err f) s = s.cells

abbrev pub notes_after : Step → State → List ℕ
notes_after (Ok o) s = replicate nodes 0
notes_after (Err f) s = s.notes

unfoldable pub root_cells_in : List ℕ → Counts → List ℕ → List ℕ → ℕ → List ℕ
root_cells_in p c same marks root = cells_after (root_rule p c same marks root).step (root_rule p c same marks root).st

unfoldable pub root_notes_in : List ℕ → Counts → List ℕ → List ℕ → ℕ → List ℕ
root_notes_in p c same marks root = notes_after (root_rule p c same marks root).step (root_rule p c same marks root).st

abbrev pub root_cells : List ℕ → Counts → ℕ → List ℕ
root_cells p c root = root_cells_in p c (same_of p c) (marks_of p c) root

abbrev pub root_notes : List ℕ → Counts → ℕ → List ℕ
root_notes p c root = root_notes_in p c (same_of p c) (marks_of p c) root

-- ---- the contract

-- the pack is well-formed and has this root, the table is that of the pack, whose rows refer to smaller ones only, and the area is long enough
pub record Checks (p : List ℕ) (c : Counts) (same marks : List ℕ) (root : ℕ) (area : List ℕ) : Type 0 where
  pub formed : formed_of p ≡ Ok c
  pub inside : root < c.roots
  pub table : Numbers p c same marks
  pub small : PartsSmaller p c
  pub room : c.types ≤ rows
  pub long : 4 * c.expressions ≤ length area
