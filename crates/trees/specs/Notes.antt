-- What the walk over all rows notes of each expression: how often it was named, counted up to 2, and where it was named, if it was named once.
-- A place is twice a depth (counted up to 65), and one more for a statement of a block.
use Rattle.std.specs.Prelude.{ℕ, suc, ◌+◌, ◌*◌, ◌/◌, min, List, [], ◌∷◌, ltb}
use Rattle.laws.specs.Bounded.{get, put}
use Rattle.laws.specs.Choice.{pick}
use Rattle.pack.specs.Lists.{list_item}
use Rattle.pack.specs.Named.{arm_kids, row_statements, row_operands}
use Rattle.pack.specs.declared.counts.Counts.{Counts}
use Rattle.pack.specs.declared.rows.ExpressionRow.{ExpressionRow}
use Rattle.trees.specs.declared.notes.Notes.{Notes as Held}
use Rattle.trees.specs.declared.kids.Kids.{Kids}
use Rattle.trees.specs.declared.kids.Kids.TheVariants.{Items, Seconds, Arms}

-- one note for each expression that a pack can have
abbrev pub nodes : ℕ
nodes = 4096

pub record Notes : Type 0 where
  pub uses : List ℕ
  pub places : List ℕ

abbrev pub notes : List ℕ → List ℕ → Notes
notes uses places = record { uses = uses; places = places }

-- those that the code holds
abbrev pub told : Held → Notes
told held = notes held.uses held.places

-- one naming of k, at a place; what was named twice is noted no more
unfoldable pub note_one : ℕ → ℕ → Notes → Notes
note_one k place s =
    pick (ltb (get nodes s.uses k) 2)
    (notes (put nodes s.uses k (get nodes s.uses k + 1)) (put nodes s.places k place))
    s

-- namings one after the other, all at one place
unfoldable pub note_all : List ℕ → ℕ → Notes → Notes
note_all [] place s = s
note_all (k ∷ ks) place s = note_all ks place (note_one k place s)

-- the expressions that item k of a list names
abbrev pub kids_at : List ℕ → Counts → Kids → ℕ → ℕ → List ℕ
kids_at p c Items s k = list_item p c s k ∷ []
kids_at p c Seconds s k = list_item p c s (2 * k + 1) ∷ []
kids_at p c Arms s k = arm_kids p c s k

-- the depth below a place, counted up to 65
abbrev pub below : ℕ → ℕ
below place = suc (min 64 (place / 2))

-- the children of a row whose own place is known: its statements, then its other children
unfoldable pub note_row : List ℕ → Counts → ExpressionRow → ℕ → Notes → Notes
note_row p c row place s = note_all (row_operands p c row) (2 * below place) (note_all (row_statements p c row) (2 * below place + 1) s)
