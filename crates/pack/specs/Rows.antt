-- The rows of the five tables, as document 01 lists their fields.
use Rattle.std.specs.Prelude.{ℕ, ◌+◌, ◌*◌, List}
use Rattle.pack.specs.Read.{row32, row64, field, last}
use Rattle.pack.specs.Counts.{definitions_at, expressions_at, roots_at, values_at}
use Rattle.pack.specs.declared.counts.Counts.{Counts}
use Rattle.pack.specs.declared.rows.TypeRow.{TypeRow}
use Rattle.pack.specs.declared.rows.DefinitionRow.{DefinitionRow}
use Rattle.pack.specs.declared.rows.ExpressionRow.{ExpressionRow}
use Rattle.pack.specs.declared.rows.RootRow.{RootRow}
use Rattle.pack.specs.declared.rows.ValueRow.{ValueRow}

-- "Type: kind 4, a 14, b 14."
abbrev pub type_fields : ℕ → TypeRow
type_fields x = record { kind = field x 28 4; a = field x 14 14; b = last x 14 }

-- "Definition: kind 2, parameters 4, zero 12, list 14."
abbrev pub definition_fields : ℕ → DefinitionRow
definition_fields x = record { kind = field x 30 2; parameters = field x 26 4; zero = field x 14 12; list = last x 14 }

-- "Expression: kind 6, op 6, a, b, c of 14 each, zero 10."
abbrev pub expression_fields : ℕ → ExpressionRow
expression_fields x =
    record {
      kind = field x 58 6;
      op = field x 52 6;
      a = field x 38 14;
      b = field x 24 14;
      c = field x 10 14;
      zero = last x 10;
    }

-- "Root: body, return type, list of (slot, type), 14 each, zero 22."
abbrev pub root_fields : ℕ → RootRow
root_fields x = record { body = field x 50 14; returns = field x 36 14; list = field x 22 14; zero = last x 22 }

-- "Value: kind 2, zero 16, list 14"
abbrev pub value_fields : ℕ → ValueRow
value_fields x = record { kind = field x 30 2; zero = field x 14 16; list = last x 14 }

-- row i of each table
unfoldable pub type_row : List ℕ → ℕ → TypeRow
type_row p i = type_fields (row32 p (16 + 4 * i))

unfoldable pub definition_row : List ℕ → Counts → ℕ → DefinitionRow
definition_row p c i = definition_fields (row32 p (definitions_at c + 4 * i))

unfoldable pub expression_row : List ℕ → Counts → ℕ → ExpressionRow
expression_row p c i = expression_fields (row64 p (expressions_at c + 8 * i))

unfoldable pub root_row : List ℕ → Counts → ℕ → RootRow
root_row p c i = root_fields (row64 p (roots_at c + 8 * i))

unfoldable pub value_row : List ℕ → Counts → ℕ → ValueRow
value_row p c i = value_fields (row32 p (values_at c + 4 * i))
