-- "A definition's fields lead to types, a record type to its parts, a named type leads back to its definition, and so round.
-- Function types, runtime and list definitions and arguments are not followed."
use Rattle.std.specs.Prelude.{ℕ, zero, suc, Bool, true, false, ◌&&◌, List, [], ◌∷◌, ◌++◌, eqb, leb}
use Rattle.laws.specs.Choice.{pick}
use Rattle.pack.specs.Rows.{type_row}
use Rattle.pack.specs.Named.{parts_of, field_types_of}
use Rattle.pack.specs.declared.counts.Counts.{Counts}

-- what a function says of the members of a list, one after the other
unfoldable pub over : (ℕ → List ℕ) → List ℕ → List ℕ
over f [] = []
over f (x ∷ xs) = f x ++ over f xs

-- no member is such
unfoldable pub none_of : (ℕ → Bool) → List ℕ → Bool
none_of such [] = true
none_of such (x ∷ xs) = let rest = none_of such xs in pick (such x) false rest

-- "4 named definition a", "5 record, list b of (name, type)"
abbrev pub is_named : List ℕ → ℕ → Bool
is_named p t = eqb (type_row p t).kind 4

abbrev pub is_record : List ℕ → ℕ → Bool
is_record p t = eqb (type_row p t).kind 5

-- "7 variable a, 8 integer variable a, 9 float variable a; 10 record variable a"
abbrev pub is_variable : List ℕ → ℕ → Bool
is_variable p t = leb 7 (type_row p t).kind && leb (type_row p t).kind 10

-- a type and, of a record, what is inside its parts: n levels deep
unfoldable pub inside : List ℕ → Counts → ℕ → ℕ → List ℕ
inside p c zero t = []
inside p c (suc n) t = let parts = over (inside p c n) (parts_of p c t) in t ∷ pick (is_record p t) parts []

-- the types that a definition's fields lead to. A type's parts have smaller ids, so as many levels as there are types are enough.
unfoldable pub types_in : List ℕ → Counts → ℕ → List ℕ
types_in p c d = over (inside p c c.types) (field_types_of p c d)

-- one step of names: the definitions that these types name
unfoldable pub names_in : List ℕ → Counts → ℕ → List ℕ
names_in p c d = over (λ t. pick (is_named p t) ((type_row p t).a ∷ []) []) (types_in p c d)
