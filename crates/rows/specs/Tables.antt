-- "rows in table order": the five tables, 0 types, 1 definitions, 2 expressions, 3 roots, 4 values.
use Rattle.std.specs.Prelude.{ℕ, List, [], ◌∷◌, get_or, Option, None, Ok}
use Rattle.laws.specs.Choice.{by_kind}
use Rattle.laws.specs.Faults.{passes, faulted}
use Rattle.laws.specs.First.{first}
use Rattle.laws.specs.declared.fault.Fault.{Fault}
use Rattle.pack.specs.Answer.{Reading}
use Rattle.pack.specs.declared.counts.Counts.{Counts}
use Rattle.rows.specs.declared.table.Table.{Table}
use Rattle.rows.specs.declared.table.Table.TheVariants.{Types, Definitions, Expressions, Roots, Values}
use Rattle.rows.specs.Types.{type_rule}
use Rattle.rows.specs.Definitions.{definition_rule}
use Rattle.rows.specs.Expressions.{expression_rule}
use Rattle.rows.specs.Roots.{root_rule}
use Rattle.rows.specs.Values.{value_rule}

abbrev pub tables : ℕ
tables = 5

abbrev pub table_number : Table → ℕ
table_number Types = 0
table_number Definitions = 1
table_number Expressions = 2
table_number Roots = 3
table_number Values = 4

-- how many rows a table has
abbrev pub rows_in : Counts → ℕ → ℕ
rows_in c table = get_or (c.types ∷ c.definitions ∷ c.expressions ∷ c.roots ∷ c.values ∷ []) table 0

-- the first fault of row i, if it has one
unfoldable pub row_rule : List ℕ → Counts → ℕ → ℕ → Option Fault
row_rule p c table i =
    by_kind i table None (type_rule p c ∷ definition_rule p c ∷ expression_rule p c ∷ root_rule p c ∷ value_rule p c ∷ [])

-- "10, 11, 14: row, detail = table 0 to 4"
abbrev pub row_of : List ℕ → Counts → ℕ → ℕ → Reading
row_of p c table i = faulted (row_rule p c table i) i table (Ok c)

-- the first row with a fault
unfoldable pub table_of : List ℕ → Counts → ℕ → Reading
table_of p c table = first (λ i. passes (row_of p c table i)) (row_of p c table) (Ok c) 0 (rows_in c table)

-- the first table with one
unfoldable pub rows_of : List ℕ → Counts → Reading
rows_of p c = first (λ table. passes (table_of p c table)) (table_of p c) (Ok c) 0 tables
