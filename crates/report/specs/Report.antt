-- The words of several nodes, one after the other: "A root's report writes 4 bytes at 4·id for each node of that root". With its word a node's
-- note is cleared.
use Rattle.std.specs.Prelude.{ℕ, ◌+◌, ◌*◌, ◌≡◌, List, [], ◌∷◌, leb, length}
use Rattle.laws.specs.Choice.{pick}
use Rattle.laws.specs.Bounded.{get, put}
use Rattle.unionfind.specs.Cells.{capacity, Knows, Live}
use Rattle.unionfind.specs.Answers.{selves}
use Rattle.unify.specs.Unify.{settled}
use Rattle.laws.specs.Lists.{gather}
use Rattle.pack.specs.declared.counts.Counts.{Counts}
use Rattle.pack.specs.declared.rows.ExpressionRow.{ExpressionRow}
use Rattle.report.specs.Kids.{kid_at, kids_room}
use Rattle.report.specs.Visits.{together, tree_of}
use Rattle.words.specs.Notes.{nodes, code_noted, is_seen}
use Rattle.words.specs.Words.{put_word, word_of}

-- what a report changes: the cells (compressed as types are resolved), the notes and the area
pub record Report : Type 0 where
  pub cells : List ℕ
  pub notes : List ℕ
  pub area : List ℕ

abbrev pub rep : List ℕ → List ℕ → List ℕ → Report
rep cells notes area = record { cells = cells; notes = notes; area = area }

-- a node with that note, which has room for its word: the word is written where the node was seen
abbrev pub noted : ℕ → ℕ → Report → Report
noted id note s =
    rep
    (pick (is_seen note) (settled s.cells (code_noted note)) s.cells)
    (put nodes s.notes id 0)
    (pick (is_seen note) (put_word s.area id (word_of s.cells note)) s.area)

unfoldable pub write_one : ℕ → Report → Report
write_one id s = pick (leb (4 * id + 4) (length s.area)) (noted id (get nodes s.notes id) s) s

unfoldable pub write_all : List ℕ → Report → Report
write_all [] s = s
write_all (id ∷ ids) s = write_all ids (write_one id s)

-- a report's end: no variable is in use
abbrev pub reported : Report → Report
reported s = rep (selves 0 capacity) s.notes s.area

-- the nodes of the trees of a row's children, so many levels
unfoldable pub kids_trees : ℕ → List ℕ → Counts → ExpressionRow → List ℕ
kids_trees left p c r = together (tree_of left p c) (gather (kid_at p c r) 0 (kids_room p c r))

-- ---- what the functions need and promise

-- n variables in use, which each note knows
pub record Held (n : ℕ) (cells notes : List ℕ) : Type 0 where
  pub live : Live n cells
  pub known : (i : ℕ) → Knows n (code_noted (get nodes notes i))

pub record Wrote (n : ℕ) (s : Report) (cells notes area : List ℕ) : Type 0 where
  pub same : rep cells notes area ≡ s
  pub held : Held n cells notes
