-- What a resolved type names. A type is its code: a tag and a number.
use Rattle.std.specs.Prelude.{ℕ, List, Bool, false, ◌&&◌, eqb, Option, Some, None, option_map, unwrap_or}
use Rattle.laws.specs.Choice.{pick}
use Rattle.pack.specs.Rows.{type_row, definition_row}
use Rattle.pack.specs.declared.counts.Counts.{Counts}
use Rattle.unionfind.specs.Codes.{tag, number, row_tag, definition_tag}

-- "Type: .. 4 named definition a, argument list b; 5 record, list b of (name, type)"
abbrev pub named_kind : ℕ
named_kind = 4

abbrev pub record_kind : ℕ
record_kind = 5

-- "Definition: kind 2 (0 enum, 1 record, 2 runtime, 3 list)"
abbrev pub enum_definition : ℕ
enum_definition = 0

abbrev pub record_definition : ℕ
record_definition = 1

abbrev pub list_definition : ℕ
list_definition = 3

-- the type is a type row of that kind
unfoldable pub is_row : List ℕ → ℕ → ℕ → Bool
is_row p kind x = eqb (tag x) row_tag && eqb (type_row p (number x)).kind kind

-- "7 definition without arguments", or a row of kind 4: its definition; none of a type that is no named one
unfoldable pub named_by : List ℕ → ℕ → Option ℕ
named_by p x =
    pick (eqb (tag x) definition_tag) (Some (number x))
    (pick (is_row p named_kind x) (Some (type_row p (number x)).a)
    None)

-- "Add: left; if String or a list definition": any named type of one, with arguments or without
unfoldable pub is_list : List ℕ → Counts → ℕ → Bool
is_list p c x = unwrap_or (option_map (λ d. eqb (definition_row p c d).kind list_definition) (named_by p x)) false
