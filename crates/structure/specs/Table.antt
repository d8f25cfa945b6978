-- How the table of structures is built: what the functions below `number_rows` answer. Rows are numbered from the smallest up, so the
-- numbers of a row's parts are there when it is reached: f gives them. The lists of rows are numbered apart from the rows, by the first
-- row whose list looks the same; then a row is its kind, its number (or what it returns) and its list's number, which make one key.
use Rattle.std.specs.Prelude.{◌≡◌, List, Bool, true, false, not, ◌&&◌, ◌||◌, ℕ, ◌+◌, ◌*◌, ◌%◌, ◌<◌, ◌≤◌, eqb, length, get_or, Option, None, Some, MatchOption}
use Rattle.laws.specs.Choice.{pick}
use Rattle.laws.specs.First.{all}
use Rattle.laws.specs.Lists.{bit}
use Rattle.laws.specs.Bounded.{get}
use Rattle.pack.specs.declared.counts.Counts.{Counts}
use Rattle.pack.specs.declared.rows.TypeRow.{TypeRow}
use Rattle.unionfind.specs.Codes.{numbers}
use Rattle.structure.specs.Structure.{rows, PartsSmaller, number_of, is_var_kind, row_number, holds}
use Rattle.structure.specs.Lists.{sort_of, len_at, name_at, part_at}

-- an array of the table with nothing in it
pub record Clear (xs : List ℕ) : Type 0 where
  pub size : length xs ≡ rows
  pub zero : (k : ℕ) → get_or xs k 0 ≡ 0

-- what an array of the table has for row k, 0 past its end
abbrev pub entry : List ℕ → ℕ → ℕ
entry xs k = get rows xs k

-- item m of two lists looks the same
abbrev pub like_at : List ℕ → Counts → (ℕ → ℕ) → ℕ → ℕ → ℕ → Bool
like_at p c f s t m = eqb (name_at p c s m) (name_at p c t m) && eqb (f (part_at p c s m)) (f (part_at p c t m))

-- two lists look the same: both are of pairs or neither is, and they are as long
unfoldable pub like : List ℕ → Counts → (ℕ → ℕ) → ℕ → ℕ → Bool
like p c f s t = eqb (sort_of p c s) (sort_of p c t) && all (like_at p c f s t) 0 (len_at p c s)

-- a type of the list is marked
unfoldable pub held_in : List ℕ → Counts → (ℕ → ℕ) → ℕ → Bool
held_in p c f s = not (all (λ m. eqb (f (part_at p c s m)) 0) 0 (len_at p c s))

-- a row's number, or that of what it returns
unfoldable pub first_of : (ℕ → ℕ) → TypeRow → ℕ
first_of f r = pick (eqb r.kind 6) (f r.a) (number_of r)

unfoldable pub key_of : ℕ → ℕ → ℕ → ℕ
key_of kind first list = (kind * numbers + first % numbers) * rows + list % rows

-- a row is a variable's, returns a marked one, or its list has one
unfoldable pub mark_of : (ℕ → ℕ) → TypeRow → Bool → ℕ
mark_of f r held = bit (is_var_kind r.kind || (eqb r.kind 6 && not (eqb (f r.a) 0)) || held)

-- what is known of type k: its number and its mark as one
unfoldable pub code_at : List ℕ → List ℕ → ℕ → ℕ
code_at same marks k = 2 * (entry same k % numbers) + entry marks k % 2

-- row k has that key
abbrev pub has_key : List ℕ → ℕ → ℕ → Bool
has_key keys key k = eqb (entry keys k) key

-- a link holds one more than a row, or 0 where it leads to none
abbrev pub Link : ℕ → Option ℕ → Type 0
Link x r = MatchOption r (x ≡ 0) (λ k. x ≡ k + 1)

-- the search for a row below i: one that passes, or none does
abbrev pub Hit : (ℕ → Bool) → ℕ → Option ℕ → Type 0
Hit test i r = MatchOption r ((k : ℕ) → k < i → test k ≡ false) (λ k. (k < i) × (test k ≡ true))

-- what an array has for the row that a search found, or i where it found none
abbrev pub entry_or : List ℕ → Option ℕ → ℕ → ℕ
entry_or xs None i = i
entry_or xs (Some k) i = entry xs k

-- the table: each row's smallest equal row, and whether it holds a variable
pub record Numbers (p : List ℕ) (c : Counts) (same marks : List ℕ) : Type 0 where
  pub size : length same ≡ rows
  pub size_marks : length marks ≡ rows
  pub number : PartsSmaller p c → (k : ℕ) → k < c.types → k < rows → get_or same k 0 ≡ row_number p c k
  pub mark : PartsSmaller p c → (k : ℕ) → k < c.types → k < rows → get_or marks k 0 ≡ bit (holds p c k)
  pub rest : (k : ℕ) → c.types ≤ k → get_or same k 0 ≡ 0
  pub rest_marks : (k : ℕ) → c.types ≤ k → get_or marks k 0 ≡ 0

-- the smaller of the number of rows and of what there is room for
pub record Bounded (types n : ℕ) : Type 0 where
  pub low : n ≤ types
  pub room : n ≤ rows
  pub all : (k : ℕ) → k < types → k < rows → k < n
