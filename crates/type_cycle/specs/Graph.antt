-- What the search walks: types at 0 to 2,047, definitions from 2,048 on, and one place for an unresolved variable.
-- A definition leads to its fields' types, a record to its parts, a named type to its definition, a variable to that place.
use Rattle.std.specs.Prelude.{ℕ, Bool, false, ◌+◌, ◌*◌, ◌-◌, ◌<◌, ◌≡◌, List, [], ◌∷◌, ltb, get_or}
use Rattle.laws.specs.Choice.{pick, by_kind}
use Rattle.laws.specs.Lists.{In, gather}
use Rattle.pack.specs.Rows.{type_row}
use Rattle.pack.specs.Lists.{list_len, list_item}
use Rattle.pack.specs.Named.{items_of, seconds_of, field_types_of}
use Rattle.pack.specs.declared.counts.Counts.{Counts}
use Rattle.pack.specs.declared.rows.TypeRow.{TypeRow}
use Rattle.type_cycle.specs.declared.skips.Listed.{Listed}
use Rattle.type_cycle.specs.declared.skips.Listed.TheVariants.{Types, Fields, Variants}

-- "types t ≤ 2,048, definitions d ≤ 512"
abbrev pub max_types : ℕ
max_types = 2048

abbrev pub max_definitions : ℕ
max_definitions = 512

abbrev pub at_name : ℕ → ℕ
at_name d = max_types + d

abbrev pub unresolved : ℕ
unresolved = 2560

abbrev pub places : ℕ
places = 2561

-- where a type's row leads
unfoldable pub row_ahead : List ℕ → Counts → TypeRow → List ℕ
row_ahead p c r =
    by_kind r r.kind []
    ((λ r. [])
    ∷ (λ r. [])
    ∷ (λ r. [])
    ∷ (λ r. [])
    ∷ (λ r. at_name r.a ∷ [])
    ∷ (λ r. seconds_of p c r.b)
    ∷ (λ r. [])
    ∷ (λ r. unresolved ∷ [])
    ∷ (λ r. unresolved ∷ [])
    ∷ (λ r. unresolved ∷ [])
    ∷ (λ r. unresolved ∷ [])
    ∷ [])

-- where a place leads
unfoldable pub ahead : List ℕ → Counts → ℕ → List ℕ
ahead p c x = pick (ltb x max_types) (row_ahead p c (type_row p x)) (pick (ltb x unresolved) (field_types_of p c (x - max_types)) [])

-- from x to y, where no place that is left has a mark
pub data Path (p : List ℕ) (c : Counts) (marks : List Bool) : ℕ → ℕ → Type 0 where
  here : {x : ℕ} → Path p c marks x x
  on : {x z y : ℕ} → get_or marks x false ≡ false → In z (ahead p c x) → Path p c marks z y → Path p c marks x y

-- from x to y by any places
abbrev pub Reach : List ℕ → Counts → ℕ → ℕ → Type 0
Reach p c x y = Path p c [] x y

-- by one step or more
pub record Round (p : List ℕ) (c : Counts) (x y : ℕ) : Type 0 where
  pub next : ℕ
  pub step : In next (ahead p c x)
  pub rest : Reach p c next y

-- the types that item k of a list names
abbrev pub item_types : List ℕ → Counts → Listed → ℕ → ℕ → List ℕ
item_types p c Types s k = list_item p c s k ∷ []
item_types p c Fields s k = list_item p c s (2 * k + 1) ∷ []
item_types p c Variants s k = items_of p c (list_item p c s (2 * k + 1))

unfoldable pub list_types : List ℕ → Counts → Listed → ℕ → List ℕ
list_types p c items s = gather (item_types p c items s) 0 (list_len p c s)

-- all of them types of the pack
pub record Within (c : Counts) (xs : List ℕ) : Type 0 where
  pub below : (x : ℕ) → In x xs → x < c.types

pub record RowInside (p : List ℕ) (c : Counts) (r : TypeRow) : Type 0 where
  pub named : r.kind ≡ 4 → r.a < c.definitions
  pub parts : r.kind ≡ 5 → Within c (seconds_of p c r.b)
