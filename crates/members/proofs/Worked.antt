-- Each decision at the small pack, under one statement.
-- Assumes nothing.
use mathlib.Core.Path.{◌≡◌, refl}
use mathlib.Core.Bool.{true, false}
use Rattle.std.proofs.Common.{Some, None}
use Rattle.laws.specs.Choice.{pick}
use Rattle.laws.specs.First.{first, walk}
use Rattle.laws.specs.Bounded.{get}
use Rattle.pack.specs.Read.{byte_at, word_at, row32}
use Rattle.pack.specs.Rows.{type_row, definition_row}
use Rattle.pack.specs.Lists.{list_word, list_len, list_item, pair_of}
use Rattle.members.specs.Types.{is_row, named_by, is_list}
use Rattle.members.specs.Lookup.{is_member, member_of}
use Rattle.members.specs.Marks.{is_marked}
use Rattle.members.specs.Field.{field_in, field_of_definition, field_of_type, accessed_by}
use Rattle.std.proofs.Common.{Ok, Err}
use Rattle.laws.specs.declared.fault.Fault.TheVariants.{NoSuchField, HoldsVariable, NotPlain}
use Rattle.members.proofs.Small.{bytes, counts, marks}

worked :
    (named_by bytes 114689 ≡ Some 1)
    × (named_by bytes 49155 ≡ Some 3)
    × (named_by bytes 32779 ≡ None)
    × (named_by bytes 49154 ≡ None)
    × (is_list bytes counts 49155 ≡ true)
    × (is_list bytes counts 114689 ≡ false)
    × (is_list bytes counts 32779 ≡ false)
    × (accessed_by bytes counts marks 114689 2 ≡ Ok 0)
    × (accessed_by bytes counts marks 114689 9 ≡ Err NoSuchField)
    × (accessed_by bytes counts marks 114690 1 ≡ Err NotPlain)
    × (accessed_by bytes counts marks 49155 1 ≡ Err NotPlain)
    × (accessed_by bytes counts marks 49154 1 ≡ Ok 0)
    × (accessed_by bytes counts marks 49154 9 ≡ Err NoSuchField)
    × (accessed_by bytes counts marks 114688 5 ≡ Err NoSuchField)
    × (accessed_by bytes counts marks 114693 1 ≡ Err HoldsVariable)
    × (accessed_by bytes counts marks 32779 1 ≡ Err NoSuchField)
unfolding bytes counts marks named_by is_list is_row field_in field_of_definition field_of_type accessed_by pair_of is_member member_of is_marked first walk get pick type_row definition_row list_word list_len list_item byte_at word_at row32
worked = (refl, refl, refl, refl, refl, refl, refl, refl, refl, refl, refl, refl, refl, refl, refl, refl)
