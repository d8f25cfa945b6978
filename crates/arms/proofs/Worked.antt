-- Each decision at the small pack of `members`, under one statement.
-- Assumes nothing.
use mathlib.Core.Path.{◌≡◌, refl}
use Prim.Native.Nat.{ℕ}
use Rattle.laws.specs.Choice.{pick}
use Rattle.laws.specs.First.{first, walk}
use Rattle.laws.specs.Bounded.{get}
use Rattle.pack.specs.Read.{byte_at, word_at, row32}
use Rattle.pack.specs.Rows.{type_row, definition_row}
use Rattle.pack.specs.Lists.{list_word, list_len, list_item, pair_of}
use Rattle.names.specs.Tally.{tally}
use Rattle.members.specs.Places.{any}
use Rattle.members.specs.Types.{is_row, named_by}
use Rattle.members.specs.Lookup.{is_member, member_of}
use Rattle.members.specs.Marks.{is_marked, any_marked}
use Rattle.members.proofs.Small.{bytes, counts, marks}
use Rattle.std.proofs.Common.{Some, None}
use Rattle.laws.specs.declared.fault.Fault.TheVariants.{NoSuchVariant, PayloadGiven, PayloadMissing, PayloadLength, HoldsVariable}
use Rattle.arms.specs.Match.{subject_for, subject_of, payload_fault, arm_fault, covers, covered, missing_variants}
use Rattle.arms.specs.declared.answer.Subject.TheVariants.{Enum, Other, Generic}

worked :
    (subject_of bytes counts 114688 ≡ Enum 6)
    × (subject_of bytes counts 114692 ≡ Generic)
    × (subject_of bytes counts 114689 ≡ Other)
    × (subject_of bytes counts 32779 ≡ Other)
    × (arm_fault bytes counts marks 6 16383 0 ≡ None)
    × (arm_fault bytes counts marks 6 9 0 ≡ Some NoSuchVariant)
    × (arm_fault bytes counts marks 6 5 0 ≡ None)
    × (arm_fault bytes counts marks 6 5 1 ≡ Some PayloadGiven)
    × (arm_fault bytes counts marks 6 6 0 ≡ Some PayloadMissing)
    × (arm_fault bytes counts marks 6 6 26 ≡ Some PayloadLength)
    × (arm_fault bytes counts marks 6 6 1 ≡ Some PayloadLength)
    × (arm_fault bytes counts marks 6 6 24 ≡ None)
    × (arm_fault bytes counts marks 6 7 26 ≡ Some HoldsVariable)
    × (◌≡◌ {A = ℕ} (missing_variants bytes counts 6 28) 3)
    × (◌≡◌ {A = ℕ} (missing_variants bytes counts 6 33) 0)
    × (◌≡◌ {A = ℕ} (missing_variants bytes counts 6 38) 2)
    × (◌≡◌ {A = ℕ} (missing_variants bytes counts 6 47) 0)
    × (◌≡◌ {A = ℕ} (missing_variants bytes counts 6 0) 3)
    × (◌≡◌ {A = ℕ} (missing_variants bytes counts 0 0) 0)
unfolding bytes counts marks named_by is_row subject_for subject_of arm_fault payload_fault covers covered missing_variants pair_of is_member member_of is_marked any_marked any tally first walk get pick type_row definition_row list_word list_len list_item byte_at word_at row32
worked = (refl, refl, refl, refl, refl, refl, refl, refl, refl, refl, refl, refl, refl, refl, refl, refl, refl, refl, refl)
