-- "Field: the inner node, 36, 32, 35, unify."
use Rattle.std.specs.Prelude.{ℕ, List, eqb, option_map, unwrap_or, Result, Ok, Err}
use Rattle.laws.specs.Choice.{pick}
use Rattle.pack.specs.Rows.{type_row, definition_row}
use Rattle.pack.specs.declared.counts.Counts.{Counts}
use Rattle.pack.specs.declared.rows.DefinitionRow.{DefinitionRow}
use Rattle.unionfind.specs.Codes.{number}
use Rattle.members.specs.Types.{record_kind, record_definition, is_row, named_by}
use Rattle.members.specs.Lookup.{is_member, member_of}
use Rattle.members.specs.Marks.{is_marked}
use Rattle.laws.specs.declared.fault.Fault.{Fault}
use Rattle.laws.specs.declared.fault.Fault.TheVariants.{NoSuchField, HoldsVariable, NotPlain}

-- a field's type, or why there is none
abbrev pub Accessed : Type 0
Accessed = Result ℕ Fault

-- "32: no such field", "35: used field type holds kind 7 to 10": the type of the field of that name in a list of (name, type)
unfoldable pub field_in : List ℕ → Counts → List ℕ → ℕ → ℕ → Accessed
field_in p c marks list name =
    pick (is_member p c list name) (pick (is_marked marks (member_of p c list name)) (Err HoldsVariable) (Ok (member_of p c list name)))
    (Err NoSuchField)

-- "36: definition with parameters in .. field"; then a record's fields
unfoldable pub field_of_definition : List ℕ → Counts → List ℕ → ℕ → DefinitionRow → Accessed
field_of_definition p c marks name r =
    pick (eqb r.parameters 0) (pick (eqb r.kind record_definition) (field_in p c marks r.list name) (Err NoSuchField))
    (Err NotPlain)

-- a type that is no named one: a record type has its fields
unfoldable pub field_of_type : List ℕ → Counts → List ℕ → ℕ → ℕ → Accessed
field_of_type p c marks name x = pick (is_row p record_kind x) (field_in p c marks (type_row p (number x)).b name) (Err NoSuchField)

unfoldable pub accessed_by : List ℕ → Counts → List ℕ → ℕ → ℕ → Accessed
accessed_by p c marks x name =
    unwrap_or (option_map (λ d. field_of_definition p c marks name (definition_row p c d)) (named_by p x)) (field_of_type p c marks name x)
