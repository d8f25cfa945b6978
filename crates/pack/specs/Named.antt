-- What a row names: the types of a type row, the field types of a definition, the children of an expression, the references of a value.
-- The later modules walk these and nothing else.
use Rattle.std.specs.Prelude.{ℕ, zero, suc, ◌+◌, ◌*◌, List, [], ◌∷◌, ◌++◌, eqb}
use Rattle.laws.specs.Choice.{pick, by_kind}
use Rattle.laws.specs.Lists.{gather}
use Rattle.pack.specs.Lists.{list_len, list_item}
use Rattle.pack.specs.Rows.{type_row, definition_row, expression_row, value_row}
use Rattle.pack.specs.declared.counts.Counts.{Counts}
use Rattle.pack.specs.declared.rows.TypeRow.{TypeRow}
use Rattle.pack.specs.declared.rows.DefinitionRow.{DefinitionRow}
use Rattle.pack.specs.declared.rows.ExpressionRow.{ExpressionRow}

-- what is stored as x+1, or 0 for none
abbrev pub optional : ℕ → List ℕ
optional zero = []
optional (suc x) = x ∷ []

-- the items of a list of single words
unfoldable pub items_of : List ℕ → Counts → ℕ → List ℕ
items_of p c s = gather (λ k. list_item p c s k ∷ []) 0 (list_len p c s)

-- the second words of a list of pairs
unfoldable pub seconds_of : List ℕ → Counts → ℕ → List ℕ
seconds_of p c s = gather (λ k. list_item p c s (2 * k + 1) ∷ []) 0 (list_len p c s)

-- "4 named definition a, argument list b; 5 record, list b of (name, type); 6 function, returns a, parameter list b; 10 .. list b as in 5"
unfoldable pub type_parts_of : List ℕ → Counts → TypeRow → List ℕ
type_parts_of p c r =
    by_kind r r.kind []
    ((λ r. [])
    ∷ (λ r. [])
    ∷ (λ r. [])
    ∷ (λ r. [])
    ∷ (λ r. items_of p c r.b)
    ∷ (λ r. seconds_of p c r.b)
    ∷ (λ r. r.a ∷ items_of p c r.b)
    ∷ (λ r. [])
    ∷ (λ r. [])
    ∷ (λ r. [])
    ∷ (λ r. seconds_of p c r.b)
    ∷ [])

unfoldable pub parts_of : List ℕ → Counts → ℕ → List ℕ
parts_of p c i = type_parts_of p c (type_row p i)

-- "Enum items: (name, start of a list of field types). Record items: (name, type)." Runtime and list definitions name none.
unfoldable pub fields_of : List ℕ → Counts → DefinitionRow → List ℕ
fields_of p c r =
    by_kind r r.kind []
    ((λ r. gather (λ k. items_of p c (list_item p c r.list (2 * k + 1))) 0 (list_len p c r.list))
    ∷ (λ r. seconds_of p c r.list)
    ∷ [])

unfoldable pub field_types_of : List ℕ → Counts → ℕ → List ℕ
field_types_of p c i = fields_of p c (definition_row p c i)

-- "2 block: statement list a"
unfoldable pub row_statements : List ℕ → Counts → ExpressionRow → List ℕ
row_statements p c r = pick (eqb r.kind 2) (items_of p c r.a) []

-- an arm's guard, if it has one, and its body
abbrev pub arm_kids : List ℕ → Counts → ℕ → ℕ → List ℕ
arm_kids p c s k = optional (list_item p c s (4 * k + 2)) ++ list_item p c s (4 * k + 3) ∷ []

-- a node's children that are no block statements, in checking order: a block's last expression, a let's value, a match's examinee and
-- arms, an operator's left and right, a record's values as written, what a field is asked of, a return's value
unfoldable pub row_operands : List ℕ → Counts → ExpressionRow → List ℕ
row_operands p c r =
    by_kind r r.kind []
    ((λ r. [])
    ∷ (λ r. [])
    ∷ (λ r. optional r.b)
    ∷ (λ r. r.b ∷ [])
    ∷ (λ r. r.a ∷ gather (arm_kids p c r.b) 0 (list_len p c r.b))
    ∷ (λ r. r.a ∷ r.b ∷ [])
    ∷ (λ r. seconds_of p c r.b)
    ∷ (λ r. r.a ∷ [])
    ∷ (λ r. optional r.a)
    ∷ [])

-- the statements of a block, else none
abbrev pub statements_of : List ℕ → Counts → ℕ → List ℕ
statements_of p c e = row_statements p c (expression_row p c e)

abbrev pub operands_of : List ℕ → Counts → ℕ → List ℕ
operands_of p c e = row_operands p c (expression_row p c e)

-- all of a node's children, in checking order
abbrev pub kids_of : List ℕ → Counts → ℕ → List ℕ
kids_of p c e = statements_of p c e ++ operands_of p c e

-- "list 14 of the values it references"
abbrev pub refs_of : List ℕ → Counts → ℕ → List ℕ
refs_of p c v = items_of p c (value_row p c v).list
