-- "Record: 36, 31, 35, fields in written order, then unify." `list` is the definition's list of (name, type), `fields` the expression's of
-- (name, expression).
use Rattle.std.specs.Prelude.{ℕ, ◌+◌, ◌*◌, ◌^◌, List, Bool, not, ◌&&◌, eqb, ltb, Option, Some, None}
use Rattle.laws.specs.Choice.{pick}
use Rattle.pack.specs.Lists.{list_len, pair_of}
use Rattle.pack.specs.Rows.{definition_row}
use Rattle.pack.specs.declared.counts.Counts.{Counts}
use Rattle.pack.specs.declared.rows.DefinitionRow.{DefinitionRow}
use Rattle.names.specs.Tally.{tally}
use Rattle.members.specs.Types.{record_definition}
use Rattle.members.specs.Lookup.{name_at, is_member}
use Rattle.members.specs.Marks.{any_field_marked}
use Rattle.laws.specs.declared.fault.Fault.{Fault}
use Rattle.laws.specs.declared.fault.Fault.TheVariants.{WrongFields, HoldsVariable, NotPlain}
use Rattle.records.specs.declared.answer.RecordFault.{RecordFault}

-- how many names of the given pairs are none of the list's
unfoldable pub strangers : List ℕ → Counts → ℕ → ℕ → ℕ
strangers p c list given = tally (λ j. not (is_member p c list (name_at p c given j))) (list_len p c given)

-- a field as written that names no member, each time that it does
unfoldable pub invalid_fields : List ℕ → Counts → ℕ → ℕ → ℕ
invalid_fields p c list fields = strangers p c list fields

-- field j as written names what one before it named
unfoldable pub named_before : List ℕ → Counts → ℕ → ℕ → Bool
named_before p c fields j = ltb (pair_of p c fields (name_at p c fields j)) j

-- a member named again, each further time
unfoldable pub duplicate_fields : List ℕ → Counts → ℕ → ℕ → ℕ
duplicate_fields p c list fields = tally (λ j. is_member p c list (name_at p c fields j) && named_before p c fields j) (list_len p c fields)

-- a member never named
unfoldable pub missing_fields : List ℕ → Counts → ℕ → ℕ → ℕ
missing_fields p c list fields = strangers p c fields list

abbrev pub fault : Fault → ℕ → Option RecordFault
fault f detail = Some (record { fault = f; detail = detail })

-- "31: record fields wrong; detail = invalid, duplicate, missing, 14 bits each, in the low 42 bits"
abbrev pub wrong_fields : ℕ → ℕ → ℕ → ℕ
wrong_fields invalid duplicate missing = invalid * 2 ^ 28 + duplicate * 2 ^ 14 + missing

abbrev pub none_wrong : ℕ → ℕ → ℕ → Bool
none_wrong invalid duplicate missing = eqb invalid 0 && eqb duplicate 0 && eqb missing 0

-- 31 by its three counts, else what follows
unfoldable pub counted_fault : ℕ → ℕ → ℕ → Option RecordFault → Option RecordFault
counted_fault invalid duplicate missing rest = pick (none_wrong invalid duplicate missing) rest (fault WrongFields (wrong_fields invalid duplicate missing))

-- "35: used field type holds kind 7 to 10"
abbrev pub marked_fault : List ℕ → Counts → List ℕ → ℕ → Option RecordFault
marked_fault p c marks list = pick (any_field_marked p c marks list) (fault HoldsVariable 0) None

-- "31, 35": all field types of the definition are used
unfoldable pub fields_fault : List ℕ → Counts → List ℕ → ℕ → ℕ → Option RecordFault
fields_fault p c marks list fields =
    counted_fault (invalid_fields p c list fields) (duplicate_fields p c list fields) (missing_fields p c list fields)
    (marked_fault p c marks list)

-- a record without parameters
unfoldable pub is_plain_record : DefinitionRow → Bool
is_plain_record r = eqb r.kind record_definition && eqb r.parameters 0

-- "36: definition with parameters in .. record .., or record of a non-record"
unfoldable pub record_fault : List ℕ → Counts → List ℕ → ℕ → ℕ → Option RecordFault
record_fault p c marks d fields = pick (is_plain_record (definition_row p c d)) (fields_fault p c marks (definition_row p c d).list fields) (fault NotPlain 0)
