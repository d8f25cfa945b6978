-- The code of a type row: "tag 3 (0 never, 1 unit, 2 primitive, 3 type row, 4 unset, 5 unset integer, 6 unset float, 7 definition without
-- arguments) .. number 14 (primitive, row, variable found or definition; else 0). A row is the smallest one equal in structure; tags 0, 1,
-- 2, 7 come before 3."
use Rattle.std.specs.Prelude.{List, Bool, not, ◌&&◌, ℕ, ◌%◌, eqb, ltb}
use Rattle.laws.specs.Choice.{pick}
use Rattle.pack.specs.Rows.{type_row}
use Rattle.pack.specs.Lists.{list_len}
use Rattle.pack.specs.declared.counts.Counts.{Counts}
use Rattle.pack.specs.declared.rows.TypeRow.{TypeRow}
use Rattle.unionfind.specs.Codes.{numbers, code, tag, number, never_tag, unit_tag, primitive_tag, row_tag, any_tag, int_tag, float_tag, definition_tag}
use Rattle.structure.specs.Structure.{number_of, row_number}
use Rattle.structure.specs.Table.{entry}

-- kinds 7, 8 and 9 are variables
unfoldable pub var_code : ℕ → ℕ → ℕ → ℕ
var_code kind number other =
    pick (eqb kind 7) (code any_tag number)
    (pick (eqb kind 8) (code int_tag number)
    (pick (eqb kind 9) (code float_tag number)
    other))

-- kinds 0, 1 and 2, and a definition without arguments
unfoldable pub plain_code : ℕ → ℕ → Bool → ℕ → ℕ
plain_code kind number bare other =
    pick (eqb kind 0) (code never_tag 0)
    (pick (eqb kind 1) (code unit_tag 0)
    (pick (eqb kind 2) (code primitive_tag number)
    (pick bare (code definition_tag number)
    other)))

-- a definition without arguments
unfoldable pub is_bare : List ℕ → Counts → TypeRow → Bool
is_bare p c r = eqb r.kind 4 && eqb (list_len p c r.b) 0

-- the code of a row whose smallest equal row is known
unfoldable pub code_for : List ℕ → Counts → TypeRow → ℕ → ℕ
code_for p c r row = plain_code r.kind (number_of r) (is_bare p c r) (var_code r.kind (number_of r) (code row_tag row))

unfoldable pub code_of : List ℕ → Counts → ℕ → ℕ
code_of p c i = code_for p c (type_row p i) (row_number p c i)

-- the same from the table (what stands past the rows is no type: it counts as never)
unfoldable pub code_in : List ℕ → Counts → List ℕ → ℕ → ℕ
code_in p c same i = pick (ltb i c.types) (code_for p c (type_row p i) (entry same i % numbers)) (code never_tag 0)

-- "A side other than kind 7 to 9 that holds kind 7 to 10 anywhere in its rows": such a side is a row, and its row is marked
unfoldable pub holds_var : List ℕ → ℕ → Bool
holds_var marks x = eqb (tag x) row_tag && not (eqb (entry marks (number x)) 0)
