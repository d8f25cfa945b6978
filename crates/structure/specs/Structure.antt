-- "equal in structure: same kind and number, names and order, parts pairwise". A row of the type table refers only to smaller rows.
use Rattle.std.specs.Prelude.{List, [], ◌∷◌, Bool, true, false, not, ◌&&◌, ◌||◌, ℕ, zero, suc, ◌*◌, ◌<◌, leb, eqb}
use Rattle.laws.specs.Choice.{pick}
use Rattle.laws.specs.First.{until}
use Rattle.laws.specs.Lists.{In, gather}
use Rattle.pack.specs.Rows.{type_row}
use Rattle.pack.specs.Lists.{list_len, list_item}
use Rattle.pack.specs.Named.{parts_of}
use Rattle.pack.specs.declared.counts.Counts.{Counts}
use Rattle.pack.specs.declared.rows.TypeRow.{TypeRow}

-- "types t ≤ 2,048"
abbrev pub rows : ℕ
rows = 2048

-- "A type refers only to smaller type ids.": what is known of a well-formed pack
abbrev pub PartsSmaller : List ℕ → Counts → Type 0
PartsSmaller p c = (i k : ℕ) → i < c.types → In k (parts_of p c i) → k < i

-- "2 primitive a; 3 explicit variable a; 4 named definition a; .. 7 variable a, 8 integer variable a, 9 float variable a; 10 record variable a"
unfoldable pub numbered : ℕ → Bool
numbered kind = (leb 2 kind && leb kind 4) || (leb 7 kind && leb kind 10)

-- a row's number; a kind without one has 0
unfoldable pub number_of : TypeRow → ℕ
number_of r = pick (numbered r.kind) r.a 0

-- "5 record, list b of (name, type); .. 10 record variable a, list b as in 5": kinds whose list is one of pairs
unfoldable pub paired : ℕ → Bool
paired kind = eqb kind 5 || eqb kind 10

-- a row's names, in their order: the first words of its pairs
unfoldable pub names_of : List ℕ → Counts → TypeRow → List ℕ
names_of p c r = pick (paired r.kind) (gather (λ k. list_item p c r.b (2 * k) ∷ []) 0 (list_len p c r.b)) []

-- two lists, as long as each other, whose members are related one by one
unfoldable pub pairwise : (ℕ → ℕ → Bool) → List ℕ → List ℕ → Bool
pairwise r [] [] = true
pairwise r [] (y ∷ ys) = false
pairwise r (x ∷ xs) [] = false
pairwise r (x ∷ xs) (y ∷ ys) = r x y && pairwise r xs ys

-- rows i and j alike, where `same` says which of their parts are
unfoldable pub alike : List ℕ → Counts → (ℕ → ℕ → Bool) → ℕ → ℕ → Bool
alike p c same i j =
    eqb (type_row p i).kind (type_row p j).kind
    && eqb (number_of (type_row p i)) (number_of (type_row p j))
    && pairwise eqb (names_of p c (type_row p i)) (names_of p c (type_row p j))
    && pairwise same (parts_of p c i) (parts_of p c j)

-- alike all the way down; each step down is to smaller rows, so i + 1 steps are enough
unfoldable pub equal_in : ℕ → List ℕ → Counts → ℕ → ℕ → Bool
equal_in zero p c i j = false
equal_in (suc f) p c i j = alike p c (equal_in f p c) i j

unfoldable pub equal : List ℕ → Counts → ℕ → ℕ → Bool
equal p c i j = equal_in (suc i) p c i j

-- "the smallest one equal in structure"
unfoldable pub row_number : List ℕ → Counts → ℕ → ℕ
row_number p c i = until (λ j. not (equal p c j i)) 0 i

-- "7 variable a, 8 integer variable a, 9 float variable a; 10 record variable a"
unfoldable pub is_var_kind : ℕ → Bool
is_var_kind kind = leb 7 kind && leb kind 10

-- the test holds of a member
unfoldable pub any_of : (ℕ → Bool) → List ℕ → Bool
any_of h [] = false
any_of h (x ∷ xs) = h x || any_of h xs

-- "holds kind 7 to 10 anywhere in its rows": the row itself and the type rows that it refers to, to any depth
unfoldable pub holds_in : ℕ → List ℕ → Counts → ℕ → Bool
holds_in zero p c i = false
holds_in (suc f) p c i = is_var_kind (type_row p i).kind || any_of (holds_in f p c) (parts_of p c i)

unfoldable pub holds : List ℕ → Counts → ℕ → Bool
holds p c i = holds_in (suc i) p c i
