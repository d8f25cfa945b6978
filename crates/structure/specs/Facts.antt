-- What is told of a row's list: of one that looks like an earlier list what was kept of that, of a new one what is read.
use Rattle.std.specs.Prelude.{◌≡◌, List, Bool, true, false, not, ℕ, ◌+◌, eqb, set, Option, None, Some, MatchOption}
use Rattle.laws.specs.Lists.{bit}
use Rattle.laws.specs.Bounded.{get, put}
use Rattle.pack.specs.Rows.{type_row}
use Rattle.pack.specs.declared.counts.Counts.{Counts}
use Rattle.structure.specs.Lists.{slot_of, sort_of}
use Rattle.structure.specs.Table.{entry, like, held_in, first_of, key_of, mark_of, has_key, Hit, entry_or}
use Rattle.structure.specs.Buckets.{Chained}
use Rattle.structure.specs.Words.{WordsHeld}
use Rattle.structure.specs.Tree.{Finding, Grown}
use Rattle.structure.specs.declared.buckets.Chains.{Chains}
use Rattle.structure.specs.declared.facts.ListFacts.{ListFacts}
use Rattle.structure.specs.declared.facts.KnownLists.{KnownLists}
use Rattle.structure.specs.declared.table.TypeTable.{TypeTable}
use Rattle.structure.specs.declared.finding.Found.{Found}
use Rattle.structure.specs.declared.finding.Found.TheVariants.{Same, Loose, Root, Member, Fork}

-- the slots that there is room for: starts of lists are below `words`
abbrev pub slots : ℕ
slots = 16384

-- the list of row k looks like the list at s
abbrev pub has_list : List ℕ → Counts → List ℕ → ℕ → ℕ → Bool
has_list p c same s k = like p c (entry same) (slot_of (type_row p k)) s

-- the row that was found
abbrev pub row_in : Found → Option ℕ
row_in (Same row) = Some row
row_in Loose = None
row_in Root = None
row_in (Member key) = None
row_in (Fork cell test key) = None

-- what is found where no tree was asked
abbrev pub Unplaced : Found → Type 0
Unplaced (Same row) = Unit {0}
Unplaced Loose = Unit {0}
Unplaced Root = ⊥
Unplaced (Member key) = ⊥
Unplaced (Fork cell test key) = ⊥

-- the array of users has, for each list that there is room for, one more than a row that has it, or 0
pub data Finds (p : List ℕ) (c : Counts) (same look : List ℕ) (q : KnownLists) (fit : Bool) (i s sort : ℕ) (r : Found) : Type 0 where
  used : (k : ℕ) → get slots q.users s ≡ k + 1 → r ≡ Same k → Finds p c same look q fit i s sort r
  walked : fit ≡ true → Finding p look q.trees i s sort r → Finds p c same look q fit i s sort r
  searched : fit ≡ false → Hit (has_list p c same s) i (row_in r) → Unplaced r → Finds p c same look q fit i s sort r

-- a type of the list is marked
pub record HeldTold (p : List ℕ) (c : Counts) (marks look : List ℕ) (fit : Bool) (s sort : ℕ) (r : Bool) : Type 0 where
  pub words : fit ≡ true → WordsHeld look s sort r
  pub pack : fit ≡ false → r ≡ held_in p c (entry marks) s

-- of a list that looks like an earlier one, what was kept of that; of a new one, its row and what is read
pub record FactsTold (p : List ℕ) (c : Counts) (marks look : List ℕ) (q : KnownLists) (fit : Bool) (i s sort : ℕ) (r : Found) (l : ListFacts) : Type 0 where
  pub told : MatchOption (row_in r) ((l.number ≡ i) × HeldTold p c marks look fit s sort l.held) (λ k. (l.number ≡ entry q.numbers k) × (l.held ≡ not (eqb (entry q.helds k) 0)))

-- what is told of row i's list is known afterwards
pub record ListKept (p : List ℕ) (c : Counts) (t : TypeTable) (look : List ℕ) (q : KnownLists) (fit : Bool) (i : ℕ) (l : ListFacts) (q' : KnownLists) : Type 0 where
  pub slot : ℕ
  pub read : slot ≡ slot_of (type_row p i)
  pub sort : ℕ
  pub sorted : sort ≡ sort_of p c slot
  pub found : Found
  pub finds : Finds p c t.same look q fit i slot sort found
  pub told : FactsTold p c t.marks look q fit i slot sort found l
  pub grown : Grown q.trees i sort found q'.trees
  pub users_set : q'.users ≡ put slots q.users slot (i + 1)
  pub numbers_set : q'.numbers ≡ set q.numbers i l.number
  pub helds_set : q'.helds ≡ set q.helds i (bit l.held)

-- and so are row i's key, its number, that of a row before it with the same key or its own place, and its mark
pub record RowKept (p : List ℕ) (t : TypeTable) (keys : Chains) (i : ℕ) (l : ListFacts) (t' : TypeTable) (keys' : Chains) : Type 0 where
  pub key : ℕ
  pub keyed : key ≡ key_of (type_row p i).kind (first_of (entry t.same) (type_row p i)) l.number
  pub row : Option ℕ
  pub hit : Hit (has_key keys.keys key) i row
  pub number : ℕ
  pub numbered : number ≡ entry_or t.same row i
  pub mark : ℕ
  pub marked : mark ≡ mark_of (entry t.marks) (type_row p i) l.held
  pub keys_set : keys'.keys ≡ set keys.keys i key
  pub same_set : t'.same ≡ set t.same i number
  pub marks_set : t'.marks ≡ set t.marks i mark
  pub chained : Chained keys' (i + 1)
