-- Each decision at the small pack of `members`, under one statement.
-- Assumes nothing.
use mathlib.Core.Path.{◌≡◌, refl}
use Rattle.laws.specs.Choice.{pick}
use Rattle.laws.specs.First.{first, walk}
use Rattle.laws.specs.Bounded.{get}
use Rattle.pack.specs.Read.{byte_at, word_at, row32}
use Rattle.pack.specs.Rows.{definition_row}
use Rattle.pack.specs.Lists.{list_word, list_len, list_item, pair_of}
use Rattle.names.specs.Tally.{tally}
use Rattle.members.specs.Places.{any}
use Rattle.members.specs.Lookup.{is_member}
use Rattle.members.specs.Marks.{is_marked, any_field_marked}
use Rattle.members.proofs.Small.{bytes, counts, marks}
use Rattle.std.proofs.Common.{None}
use Rattle.laws.specs.declared.fault.Fault.TheVariants.{WrongFields, HoldsVariable, NotPlain}
use Rattle.records.specs.Record.{fault, strangers, invalid_fields, named_before, duplicate_fields, missing_fields, counted_fault, fields_fault, is_plain_record, record_fault}

worked :
    (record_fault bytes counts marks 1 60 ≡ None)
    × (record_fault bytes counts marks 1 65 ≡ fault WrongFields 536887297)
    × (record_fault bytes counts marks 1 0 ≡ fault WrongFields 2)
    × (record_fault bytes counts marks 2 60 ≡ fault NotPlain 0)
    × (record_fault bytes counts marks 0 60 ≡ fault NotPlain 0)
    × (record_fault bytes counts marks 5 74 ≡ fault HoldsVariable 0)
unfolding bytes counts marks strangers invalid_fields named_before duplicate_fields missing_fields counted_fault fields_fault is_plain_record record_fault pair_of is_member is_marked any_field_marked any tally first walk get pick definition_row list_word list_len list_item byte_at word_at row32
worked = (refl, refl, refl, refl, refl, refl)
