-- The lists that were met, in trees, so that a new list is compared in full with one earlier list at most. Each list that is new stands
-- under the row that has it. The lists of one sort have one tree, whose root is the first row of that sort.
--     A row k has a chain of *forks*: cell 2k holds the first, cell 2g + 1 the one after fork g (each as one more than a row, 0 for none).
--     A fork g of k is a place where rows that came to k later have other values than k: it has that place and k's own value there.
--     Those rows are its *members*, each under a key of g and its value.
-- A list walks from the root: where it has the row's own value it passes on to the next fork; where it has a member's it turns to that
-- member; where it has neither it is new. Where no fork is left it is compared with the row's list. So the walk goes by what the list
-- looks like alone, and the walk of each list that stands in the tree ends at its own row.
use Rattle.std.specs.Prelude.{◌≡◌, List, ℕ, ◌+◌, ◌*◌, ◌/◌, ◌%◌, ◌<◌, ◌≤◌, length, replicate, set, Option, None, Some, MatchOption}
use Rattle.laws.specs.Bounded.{get}
use Rattle.pack.specs.Rows.{type_row}
use Rattle.structure.specs.Structure.{rows}
use Rattle.structure.specs.Lists.{words, slot_of, Within, Spot}
use Rattle.structure.specs.Table.{entry, has_key, Hit}
use Rattle.structure.specs.Buckets.{buckets, bucket_of, Chained}
use Rattle.structure.specs.Words.{look_at, SameWord}
use Rattle.structure.specs.declared.finding.Found.{Found}
use Rattle.structure.specs.declared.finding.Found.TheVariants.{Same, Loose, Root, Member, Fork}
use Rattle.structure.specs.declared.tree.Stop.{Stop}
use Rattle.structure.specs.declared.tree.Other.{Other}
use Rattle.structure.specs.declared.tree.Ahead.{Ahead}
use Rattle.structure.specs.declared.tree.ListTrees.{ListTrees}

abbrev pub cells_len : ℕ
cells_len = 4096

abbrev pub cell_at : List ℕ → ℕ → ℕ
cell_at cells d = get cells_len cells d

-- sorts of lists that lie within the words there is room for
abbrev pub sorts : ℕ
sorts = 16384

abbrev pub root_at : List ℕ → ℕ → ℕ
root_at roots sort = get sorts roots (sort % sorts)

-- a fork's place, and the value that the row itself has there
abbrev pub place_of : List ℕ → ℕ → ℕ
place_of tests g = entry tests g / 65536

abbrev pub own_of : List ℕ → ℕ → ℕ
own_of tests g = entry tests g % 65536

-- a key whose bucket is g
unfoldable pub member_key : ℕ → ℕ → ℕ
member_key g x = x * buckets + g

-- one step of a list with those values, from cell d at row k to cell e at row l
pub data Step (v : ℕ → ℕ) (cells tests keys : List ℕ) (d k e l : ℕ) : Type 0 where
  passes : (g : ℕ) → cell_at cells d ≡ g + 1 → v (place_of tests g) ≡ own_of tests g → e ≡ 2 * g + 1 → l ≡ k → Step v cells tests keys d k e l
  turns : (g : ℕ) → cell_at cells d ≡ g + 1 → (v (place_of tests g) ≡ own_of tests g → ⊥)
      → l < rows → entry keys l ≡ member_key g (v (place_of tests g)) → e ≡ 2 * l → Step v cells tests keys d k e l

pub data Leads (v : ℕ → ℕ) (cells tests keys : List ℕ) : ℕ → ℕ → ℕ → ℕ → Type 0 where
  here : {d k : ℕ} → Leads v cells tests keys d k d k
  more : {d k e l f m : ℕ} → Step v cells tests keys d k e l → Leads v cells tests keys e l f m → Leads v cells tests keys d k f m

-- no member of the fork at cell d has the list's value
pub record New (v : ℕ → ℕ) (cells tests keys : List ℕ) (i d g : ℕ) : Type 0 where
  pub fork : cell_at cells d ≡ g + 1
  pub other : v (place_of tests g) ≡ own_of tests g → ⊥
  pub none : (l : ℕ) → l < i → entry keys l ≡ member_key g (v (place_of tests g)) → ⊥

-- links lead to larger rows
pub record Small (cells : List ℕ) : Type 0 where
  pub size : length cells ≡ cells_len
  pub high : (d : ℕ) → cell_at cells d ≤ rows
  pub rise : (d g : ℕ) → d < cells_len → cell_at cells d ≡ g + 1 → d / 2 < g

-- and members come after their fork
pub record Shape (cells keys : List ℕ) (i : ℕ) : Type 0 where
  pub small : Small cells
  pub most : i ≤ rows
  pub low : (l : ℕ) → l < i → bucket_of (entry keys l) ≤ l
  pub below : (d : ℕ) → cell_at cells d ≤ i

-- a list no longer passes on at cell d: there is no fork, or it has another value there than the row
abbrev pub Stopped : (ℕ → ℕ) → List ℕ → List ℕ → ℕ → Option Other → Type 0
Stopped v cells tests d o =
    MatchOption o (cell_at cells d ≡ 0)
    (λ f. (cell_at cells d ≡ f.fork + 1) × (f.value ≡ v (place_of tests f.fork)) × (v (place_of tests f.fork) ≡ own_of tests f.fork → ⊥))

-- a fork is a row, and a value a word
abbrev pub Forked : Option Other → Type 0
Forked o = MatchOption o Unit (λ f. (f.fork < rows) × (f.value < 65536))

-- passed on from cell d to where it stops
pub record Passed (v : ℕ → ℕ) (cells tests : List ℕ) (d : ℕ) (a : Ahead) : Type 0 where
  pub leads : (keys : List ℕ) (k : ℕ) → Leads v cells tests keys d k a.cell k
  pub inside : a.cell < cells_len
  pub high : d ≤ a.cell
  pub top : (i : ℕ) → ((x : ℕ) → cell_at cells x ≤ i) → d / 2 < i → a.cell / 2 < i
  pub stopped : Stopped v cells tests a.cell a.other
  pub forked : Forked a.other

-- the member to turn to at that fork
abbrev pub Turned : List ℕ → ℕ → Option Other → Option ℕ → Type 0
Turned keys i o r = MatchOption o (r ≡ None) (λ f. Hit (has_key keys (member_key f.fork f.value)) i r)

-- the walk from row k on ends at cell d of row l
pub record Walked (v : ℕ → ℕ) (cells tests keys : List ℕ) (i k : ℕ) (r : Stop) : Type 0 where
  pub leads : Leads v cells tests keys (2 * k) k r.cell r.row
  pub inside : r.cell < cells_len
  pub below : r.row < i
  pub low : r.cell / 2 < i
  pub ends : (cell_at cells r.cell ≡ 0 → ⊥) → (g : ℕ) → cell_at cells r.cell ≡ g + 1 → New v cells tests keys i r.cell g

-- two lists of one sort that start at words a and b: a place where they differ, or none where they look the same
pub record Apart (look : List ℕ) (a b sort : ℕ) (r : Option ℕ) : Type 0 where
  pub told : MatchOption r ((q : ℕ) → Spot sort q → SameWord look (a + q) (b + q)) (λ o. (o < 2 * words) × Spot sort o × (SameWord look (a + o) (b + o) → ⊥))

pub record Compared (look : List ℕ) (s t sort : ℕ) (r : Option ℕ) : Type 0 where
  pub small : (o : ℕ) → r ≡ Some o → o < 2 * words
  pub empty : sort ≡ 0 → r ≡ None
  pub apart : Within s sort → Within t sort → Apart look (s / 2) (t / 2) sort r

-- at the end of a walk the list is that of the row, or it is the member of a new fork there
pub data Ended (p look : List ℕ) (i s sort cell row : ℕ) (r : Found) : Type 0 where
  old : Compared look s (slot_of (type_row p row)) sort None → r ≡ Same row → Ended p look i s sort cell row r
  fork : (o : ℕ) → Compared look s (slot_of (type_row p row)) sort (Some o) → look_at look (slot_of (type_row p row)) o < 65536
      → r ≡ Fork cell (o * 65536 + look_at look (slot_of (type_row p row)) o) (member_key i (look_at look s o)) → Ended p look i s sort cell row r

-- at a fork it is a new member
abbrev pub Missed : List ℕ → List ℕ → ℕ → ℕ → Found → Type 0
Missed look tests s g r = r ≡ Member (member_key g (look_at look s (place_of tests g)))

-- What the walk of the list at s, which row i has, finds from the root k on: a row whose list looks the same, or where it is to stand.
pub data Below (p look : List ℕ) (t : ListTrees) (i s sort k : ℕ) (r : Found) : Type 0 where
  ended : (z : Stop) → Walked (look_at look s) t.cells t.tests t.members.keys i k z → cell_at t.cells z.cell ≡ 0 → Ended p look i s sort z.cell z.row r
      → Below p look t i s sort k r
  missed : (z : Stop) (g : ℕ) → Walked (look_at look s) t.cells t.tests t.members.keys i k z → cell_at t.cells z.cell ≡ g + 1 → Missed look t.tests s g r
      → Below p look t i s sort k r

-- the first list of its sort is the root
pub data Finding (p look : List ℕ) (t : ListTrees) (i s sort : ℕ) (r : Found) : Type 0 where
  first : root_at t.roots sort ≡ 0 → r ≡ Root → Finding p look t i s sort r
  below : (k : ℕ) → root_at t.roots sort ≡ k + 1 → Below p look t i s sort k r → Finding p look t i s sort r

pub record RootsLow (roots : List ℕ) (i : ℕ) : Type 0 where
  pub size : length roots ≡ sorts
  pub low : (b : ℕ) → get sorts roots b ≤ i

-- the trees of the rows below i: nothing in them leads past these, and the members of forks are chained
pub record Sound (t : ListTrees) (i : ℕ) : Type 0 where
  pub roots : RootsLow t.roots i
  pub shape : Shape t.cells t.members.keys i
  pub members : Chained t.members i

-- trees with nothing in them
pub record Bare (t : ListTrees) : Type 0 where
  pub roots_bare : t.roots ≡ replicate sorts 0
  pub cells_bare : t.cells ≡ replicate cells_len 0
  pub tests_bare : t.tests ≡ replicate rows 0
  pub keys_bare : t.members.keys ≡ replicate rows 0

-- what was found of row i's list can be stored
abbrev pub Storable : Found → ℕ → Type 0
Storable (Same row) i = Unit {0}
Storable Loose i = Unit {0}
Storable Root i = Unit {0}
Storable (Member key) i = bucket_of key ≤ i
Storable (Fork cell test key) i = (cell < cells_len) × (cell / 2 < i) × (bucket_of key ≤ i)

-- where row i's list is stored: as a root, in a cell, with a test, and under a key, 0 where it has none
abbrev pub roots_with : Found → List ℕ → ℕ → ℕ → List ℕ
roots_with (Same row) roots sort i = roots
roots_with Loose roots sort i = roots
roots_with Root roots sort i = set roots (sort % sorts) (i + 1)
roots_with (Member key) roots sort i = roots
roots_with (Fork cell test key) roots sort i = roots

abbrev pub cells_with : Found → List ℕ → ℕ → List ℕ
cells_with (Same row) cells i = cells
cells_with Loose cells i = cells
cells_with Root cells i = cells
cells_with (Member key) cells i = cells
cells_with (Fork cell test key) cells i = set cells cell (i + 1)

abbrev pub test_in : Found → ℕ
test_in (Same row) = 0
test_in Loose = 0
test_in Root = 0
test_in (Member key) = 0
test_in (Fork cell test key) = test

abbrev pub key_in : Found → ℕ
key_in (Same row) = 0
key_in Loose = 0
key_in Root = 0
key_in (Member key) = key
key_in (Fork cell test key) = key

-- and is stored
pub record Grown (t : ListTrees) (i sort : ℕ) (r : Found) (t' : ListTrees) : Type 0 where
  pub roots_set : t'.roots ≡ roots_with r t.roots sort i
  pub cells_set : t'.cells ≡ cells_with r t.cells i
  pub tests_set : t'.tests ≡ set t.tests i (test_in r)
  pub keys_set : t'.members.keys ≡ set t.members.keys i (key_in r)
