-- "Type: kind 4, a 14, b 14." Refusals 10, 11 and 14 of a type row, kinds 0 to 10 in their order:
-- never, unit, primitive, explicit variable, named, record, function, variable, integer variable, float variable, record variable.
use Rattle.std.specs.Prelude.{ℕ, Bool, true, false, ◌&&◌, ◌||◌, List, [], ◌∷◌, leb, ltb, eqb, Option, Some, None}
use Rattle.laws.specs.Choice.{pick, by_kind}
use Rattle.laws.specs.declared.fault.Fault.{Fault}
use Rattle.laws.specs.declared.fault.Fault.TheVariants.{UnknownRow, OutOfRange, NotDistinct}
use Rattle.pack.specs.Rows.{type_row, definition_row}
use Rattle.pack.specs.Lists.{list_len}
use Rattle.pack.specs.declared.counts.Counts.{Counts}
use Rattle.pack.specs.declared.rows.TypeRow.{TypeRow}
use Rattle.lists.specs.declared.lists.Items.TheVariants.{Ids, Pairs}
use Rattle.lists.specs.Limits.{names, explicits, variables}
use Rattle.lists.specs.Lists.{items_fit}
use Rattle.lists.specs.Names.{names_differ}

-- "Primitive: 0 String, .. 5 Prefix, 8 to 15 i8 .. u64, 16 f32, 17 f64."
unfoldable pub primitive : ℕ → Bool
primitive a = leb a 5 || (leb 8 a && leb a 17)

-- 10: "unknown kind, op or primitive, unused field or bits not zero"
unfoldable pub type_known : TypeRow → Bool
type_known r =
    by_kind r r.kind false
    ((λ r. eqb r.a 0 && eqb r.b 0)
    ∷ (λ r. eqb r.a 0 && eqb r.b 0)
    ∷ (λ r. primitive r.a && eqb r.b 0)
    ∷ (λ r. eqb r.b 0)
    ∷ (λ r. true)
    ∷ (λ r. eqb r.a 0)
    ∷ (λ r. true)
    ∷ (λ r. eqb r.b 0)
    ∷ (λ r. eqb r.b 0)
    ∷ (λ r. eqb r.b 0)
    ∷ (λ r. true)
    ∷ [])

-- "4 named definition a, argument list b (as many as its parameters)"
unfoldable pub named_fits : List ℕ → Counts → ℕ → ℕ → ℕ → Bool
named_fits p c i a b =
    ltb a c.definitions && items_fit p c (Ids i) b && eqb (list_len p c b) (definition_row p c a).parameters

-- 11 of row i: "A type refers only to smaller type ids."
unfoldable pub type_in_range : List ℕ → Counts → ℕ → TypeRow → Bool
type_in_range p c i r =
    by_kind r r.kind true
    ((λ r. true)
    ∷ (λ r. true)
    ∷ (λ r. true)
    ∷ (λ r. ltb r.a explicits)
    ∷ (λ r. named_fits p c i r.a r.b)
    ∷ (λ r. items_fit p c (Pairs names i) r.b)
    ∷ (λ r. ltb r.a i && items_fit p c (Ids i) r.b)
    ∷ (λ r. ltb r.a variables)
    ∷ (λ r. ltb r.a variables)
    ∷ (λ r. ltb r.a variables)
    ∷ (λ r. ltb r.a variables && items_fit p c (Pairs names i) r.b)
    ∷ [])

-- 14: "a name repeated in a row of kind 5 or 10"
unfoldable pub type_distinct : List ℕ → Counts → TypeRow → Bool
type_distinct p c r =
    pick (eqb r.kind 5) (names_differ p c r.b) (pick (eqb r.kind 10) (names_differ p c r.b) true)

-- "per row 10, 11, 14": a row's first fault, if it has one
abbrev pub fault_of : Bool → Bool → Bool → Option Fault
fault_of known ranged distinct = pick known (pick ranged (pick distinct None (Some NotDistinct)) (Some OutOfRange)) (Some UnknownRow)

unfoldable pub type_rule : List ℕ → Counts → ℕ → Option Fault
type_rule p c i = fault_of (type_known (type_row p i)) (type_in_range p c i (type_row p i)) (type_distinct p c (type_row p i))
