-- "Match: examinee; 23, 24, 36; arms in order, each: 25; 26 to 29; 35, then slots open for guard and body .. Then 30."
use Rattle.std.specs.Prelude.{ℕ, ◌+◌, ◌*◌, List, Bool, not, ◌&&◌, ◌||◌, eqb, option_map, unwrap_or, Option, Some, None}
use Rattle.laws.specs.Choice.{pick}
use Rattle.laws.specs.declared.fault.Fault.{Fault}
use Rattle.laws.specs.declared.fault.Fault.TheVariants.{NoSuchVariant, PayloadGiven, PayloadMissing, PayloadLength, HoldsVariable}
use Rattle.pack.specs.Lists.{list_len, list_item}
use Rattle.pack.specs.Rows.{definition_row}
use Rattle.pack.specs.declared.counts.Counts.{Counts}
use Rattle.pack.specs.declared.rows.DefinitionRow.{DefinitionRow}
use Rattle.names.specs.Tally.{tally}
use Rattle.members.specs.Places.{any, perhaps}
use Rattle.members.specs.Types.{enum_definition, named_by}
use Rattle.members.specs.Lookup.{name_at, is_member, member_of}
use Rattle.members.specs.Marks.{any_marked}
use Rattle.arms.specs.declared.answer.Subject.{Subject}
use Rattle.arms.specs.declared.answer.Subject.TheVariants.{Enum, Other, Generic}

-- "variant name or 16,383 for `_`"
abbrev pub wild : ℕ
wild = 16383

-- ---- the examinee

unfoldable pub subject_for : DefinitionRow → Subject
subject_for r = pick (eqb r.kind enum_definition) (pick (eqb r.parameters 0) (Enum r.list) Generic) Other

-- "24: isn't an enum", "36: definition with parameters in match": an enum's list of variants, where it is neither
unfoldable pub subject_of : List ℕ → Counts → ℕ → Subject
subject_of p c x = unwrap_or (option_map (λ d. subject_for (definition_row p c d)) (named_by p x)) Other

-- ---- an arm

-- "27 / 28 / 29: payload on a variant without fields / payload missing / wrong number", then "35": the fields of the variant, and the arm's
-- slot list+1 or 0
unfoldable pub payload_fault : List ℕ → Counts → List ℕ → ℕ → ℕ → Option Fault
payload_fault p c marks fields payload =
    perhaps
    (pick (eqb (list_len p c fields) 0) None (Some PayloadMissing))
    (λ slots.
    pick (eqb (list_len p c fields) 0) (Some PayloadGiven)
    (pick (eqb (list_len p c slots) (list_len p c fields)) (pick (any_marked p c marks fields) (Some HoldsVariable) None)
    (Some PayloadLength)))
    payload

-- "26: no such variant"; none is named by `_`
unfoldable pub arm_fault : List ℕ → Counts → List ℕ → ℕ → ℕ → ℕ → Option Fault
arm_fault p c marks list name payload =
    pick (eqb name wild) None
    (pick (is_member p c list name) (payload_fault p c marks (member_of p c list name) payload)
    (Some NoSuchVariant))

-- ---- all variants

-- "an arm is four words: variant name or 16,383 for `_`, slot list+1 or 0, guard+1 or 0, body", and "A guarded arm, also guarded `_`,
-- covers nothing.": arm j covers the variant of that name
unfoldable pub covers : List ℕ → Counts → ℕ → ℕ → ℕ → Bool
covers p c arms name j = eqb (list_item p c arms (4 * j + 2)) 0 && (eqb (list_item p c arms (4 * j)) wild || eqb (list_item p c arms (4 * j)) name)

unfoldable pub covered : List ℕ → Counts → ℕ → ℕ → Bool
covered p c arms name = any (covers p c arms name) (list_len p c arms)

-- "30: not exhaustive; detail = missing variants"
unfoldable pub missing_variants : List ℕ → Counts → ℕ → ℕ → ℕ
missing_variants p c list arms = tally (λ k. not (covered p c arms (name_at p c list k))) (list_len p c list)
