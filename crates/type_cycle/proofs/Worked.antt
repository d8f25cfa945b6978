-- Packs small enough to compute, in one table: what header, rows and module 3 answer to each.
-- Assumes nothing.
use Prim.Native.Nat.{ℕ, ◌+◌, ◌*◌, ◌/◌, ◌%◌}
use mathlib.Core.Path.{◌≡◌, refl}
use mathlib.Core.List.{List, [], ◌∷◌, ◌++◌}
use lib.ListN.{length}
use Rattle.std.proofs.Common.{Ok, Err}
use Rattle.laws.specs.Choice.{pick, by_kind}
use Rattle.laws.specs.First.{walk, first}
use Rattle.laws.specs.Lists.{gather}
use Rattle.laws.specs.Answers.{after}
use Rattle.laws.specs.Faults.{passes, number_of}
use Rattle.pack.specs.Answer.{Reading, needs}
use Rattle.pack.specs.Counts.{in_limits}
use Rattle.pack.specs.Header.{counts_of, header_of}
use Rattle.pack.specs.Lists.{list_word, list_len, list_item}
use Rattle.pack.specs.Named.{items_of, seconds_of, type_parts_of, parts_of, fields_of, field_types_of}
use Rattle.pack.specs.Read.{byte_at, word_at, row32, row64, starts_with}
use Rattle.pack.specs.Rows.{type_row, definition_row}
use Rattle.rows.specs.Definitions.{definition_kind, definition_known, definition_in_range, definition_distinct, definition_rule}
use Rattle.lists.specs.Lists.{list_fits, ids_fit, items_fit}
use Rattle.lists.specs.Names.{names_differ}
use Rattle.rows.specs.Tables.{row_rule, table_of, rows_of}
use Rattle.rows.specs.Types.{primitive, type_known, named_fits, type_in_range, type_distinct, type_rule}
use Rattle.type_cycle.specs.Leads.{over, none_of, inside, types_in, names_in}
use Rattle.type_cycle.specs.Cycles.{resolved, leads, on_cycle, unresolved_of, cycle_of, type_cycles_of}

-- ---- packs of types, definitions and list words alone

word : ℕ → List ℕ
word x = x / 256 ∷ x % 256 ∷ []

row : ℕ → List ℕ
row x = word (x / 65536) ++ word (x % 65536)

pack : List ℕ → List ℕ → List ℕ → List ℕ
pack types definitions words =
    82 ∷ 80 ∷ 75 ∷ 1 ∷ over word (length types ∷ length definitions ∷ 0 ∷ 0 ∷ 0 ∷ length words ∷ []) ++ over row types ++ over row definitions ++ over word words

-- types: a named one, an explicit variable, a record, a function, a variable
named : ℕ → ℕ → ℕ
named a b = 4 * 268435456 + a * 16384 + b

explicit : ℕ → ℕ
explicit a = 3 * 268435456 + a * 16384

record_of : ℕ → ℕ
record_of b = 5 * 268435456 + b

function : ℕ → ℕ → ℕ
function a b = 6 * 268435456 + a * 16384 + b

variable : ℕ → ℕ
variable a = 7 * 268435456 + a * 16384

-- definitions: an enum with parameters, a record
enum : ℕ → ℕ → ℕ
enum parameters list = parameters * 67108864 + list

structure : ℕ → ℕ
structure list = 1073741824 + list

-- ---- the packs

-- definition 0 has a field of type 0, which names it
itself : List ℕ
itself = pack (named 0 0 ∷ []) (structure 1 ∷ []) (0 ∷ 1 ∷ 0 ∷ 0 ∷ [])

-- the field's type is a function of it
in_function : List ℕ
in_function = pack (named 0 0 ∷ function 0 1 ∷ []) (structure 3 ∷ []) (0 ∷ 1 ∷ 0 ∷ 1 ∷ 0 ∷ 1 ∷ [])

-- or Option of it: definition 1 is an enum with one parameter, None and Some(it)
in_argument : List ℕ
in_argument = pack (named 0 0 ∷ explicit 0 ∷ named 1 1 ∷ []) (structure 3 ∷ enum 1 6 ∷ []) (0 ∷ 1 ∷ 0 ∷ 1 ∷ 0 ∷ 2 ∷ 2 ∷ 0 ∷ 0 ∷ 1 ∷ 11 ∷ 1 ∷ 1 ∷ [])

-- or an anonymous record that holds it
in_record : List ℕ
in_record = pack (named 0 0 ∷ record_of 1 ∷ []) (structure 4 ∷ []) (0 ∷ 1 ∷ 0 ∷ 0 ∷ 1 ∷ 0 ∷ 1 ∷ [])

-- a variant's field has the enum's own type
in_variant : List ℕ
in_variant = pack (named 0 0 ∷ []) (enum 0 3 ∷ []) (0 ∷ 1 ∷ 0 ∷ 1 ∷ 0 ∷ 1 ∷ [])

-- definition 0 leads to 3, and 3, 2, 1 lead round: met first at 3, the smallest is 1
from_outside : List ℕ
from_outside =
    pack (named 1 0 ∷ named 2 0 ∷ named 3 0 ∷ []) (structure 1 ∷ structure 1 ∷ structure 4 ∷ structure 7 ∷ []) (0 ∷ 1 ∷ 0 ∷ 2 ∷ 1 ∷ 0 ∷ 0 ∷ 1 ∷ 0 ∷ 1 ∷ [])

-- definition 0 holds itself, and definition 1 has a variable in a record in a field
both_faults : List ℕ
both_faults = pack (named 0 0 ∷ variable 0 ∷ record_of 4 ∷ []) (structure 1 ∷ structure 7 ∷ []) (0 ∷ 1 ∷ 0 ∷ 0 ∷ 1 ∷ 0 ∷ 1 ∷ 1 ∷ 0 ∷ 2 ∷ [])

-- a variable that only a function has
variable_in_function : List ℕ
variable_in_function = pack (variable 0 ∷ function 0 0 ∷ []) (structure 1 ∷ []) (0 ∷ 1 ∷ 0 ∷ 1 ∷ [])

-- ---- the table

answer : List ℕ → Reading
answer p = after passes (header_of p) (after passes (rows_of p (counts_of p)) (type_cycles_of p (counts_of p)))

-- a refusal's number, place and detail; nothing where the pack is accepted
told : Reading → List ℕ
told (Ok c) = []
told (Err r) = number_of r.fault ∷ r.place ∷ r.detail ∷ []

tells : List (List ℕ) → List (List ℕ)
tells [] = []
tells (p ∷ ps) = told (answer p) ∷ tells ps

worked :
    tells (itself ∷ in_function ∷ in_argument ∷ in_record ∷ in_variant ∷ from_outside ∷ both_faults ∷ variable_in_function ∷ [])
    ≡ (41 ∷ 0 ∷ 0 ∷ []) ∷ [] ∷ [] ∷ (41 ∷ 0 ∷ 0 ∷ []) ∷ (41 ∷ 0 ∷ 0 ∷ []) ∷ (41 ∷ 1 ∷ 0 ∷ []) ∷ (40 ∷ 1 ∷ 0 ∷ []) ∷ [] ∷ []
unfolding
    word row pack named explicit record_of function variable enum structure itself in_function in_argument in_record in_variant from_outside both_faults variable_in_function answer told tells
    pick by_kind walk first gather after needs in_limits counts_of header_of list_word list_len list_item items_of seconds_of type_parts_of parts_of fields_of field_types_of byte_at word_at row32 row64 starts_with type_row definition_row
    definition_kind definition_known definition_in_range definition_distinct definition_rule list_fits ids_fit items_fit names_differ row_rule table_of rows_of primitive type_known named_fits type_in_range type_distinct type_rule
    over none_of inside types_in names_in resolved leads on_cycle unresolved_of cycle_of type_cycles_of
worked = refl
