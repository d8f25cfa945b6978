-- A row's list as the table reads it. A list is named by a slot: twice its start, and one more where it is one of pairs; rows without a
-- list share the slot after all of these.
use Rattle.std.specs.Prelude.{List, Bool, ◌||◌, ℕ, ◌+◌, ◌-◌, ◌*◌, ◌/◌, ◌%◌, ◌<◌, ◌≤◌, ◌≡◌, eqb, ltb, leb}
use Rattle.laws.specs.Choice.{pick}
use Rattle.pack.specs.Lists.{list_word, list_len, list_item}
use Rattle.pack.specs.declared.counts.Counts.{Counts}
use Rattle.pack.specs.declared.rows.TypeRow.{TypeRow}
use Rattle.structure.specs.Structure.{paired}

-- starts have 14 bits
abbrev pub no_list : ℕ
no_list = 32768

-- kinds that have a list
unfoldable pub listed : ℕ → Bool
listed kind = eqb kind 4 || eqb kind 6

unfoldable pub slot_of : TypeRow → ℕ
slot_of r = pick (paired r.kind) (2 * r.b + 1) (pick (listed r.kind) (2 * r.b) no_list)

unfoldable pub of_pairs : ℕ → Bool
of_pairs s = eqb (s % 2) 1

-- how many items, and of item m its name (0 where it has none) and its type
unfoldable pub len_at : List ℕ → Counts → ℕ → ℕ
len_at p c s = pick (ltb s no_list) (list_len p c (s / 2)) 0

unfoldable pub name_at : List ℕ → Counts → ℕ → ℕ → ℕ
name_at p c s m = pick (of_pairs s) (list_item p c (s / 2) (2 * m)) 0

unfoldable pub part_at : List ℕ → Counts → ℕ → ℕ → ℕ
part_at p c s m = pick (of_pairs s) (list_item p c (s / 2) (2 * m + 1)) (list_item p c (s / 2) m)

-- ---- lists by what stands at their places

-- a list's length and whether it is one of pairs
unfoldable pub sort_of : List ℕ → Counts → ℕ → ℕ
sort_of p c s = 2 * len_at p c s + s % 2

-- "list words w ≤ 8,184": the words that the table has room for
abbrev pub words : ℕ
words = 8192

-- how many words the items of a list take
unfoldable pub span_of : ℕ → ℕ
span_of sort = pick (eqb (sort % 2) 1) (2 * (sort / 2)) (sort / 2)

-- a list of that sort at s lies in the words that there is room for
abbrev pub Within : ℕ → ℕ → Type 0
Within s sort = s / 2 + 1 + span_of sort ≤ words

-- so does each list that is not empty
unfoldable pub fits : List ℕ → Counts → ℕ → Bool
fits p c s = eqb (sort_of p c s) 0 || leb (s / 2 + 1 + span_of (sort_of p c s)) words

-- Where item m of a list has its name and its type: so many words from the list's start. Names are told from types by the places from
-- `words` on.
abbrev pub name_place : ℕ → ℕ
name_place m = words + 1 + 2 * m

unfoldable pub part_place : ℕ → ℕ → ℕ
part_place pairs m = pick (eqb pairs 1) (2 * m + 2) (m + 1)

-- the places of a list of that sort
pub data Spot (sort o : ℕ) : Type 0 where
  part : (m : ℕ) → m < sort / 2 → o ≡ part_place (sort % 2) m → Spot sort o
  name : (m : ℕ) → m < sort / 2 → sort % 2 ≡ 1 → o ≡ name_place m → Spot sort o

-- what the list at s has there: a name as it is, a type by what f says of it
unfoldable pub seen : List ℕ → Counts → (ℕ → ℕ) → ℕ → ℕ → ℕ
seen p c f s o = pick (ltb o words) (f (list_word p c (s / 2 + o))) (list_word p c (s / 2 + (o - words)))
