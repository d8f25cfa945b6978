-- The classes of resolved types that module 2 names. A type is its code: a tag and a number.
use Rattle.std.specs.Prelude.{Bool, ◌&&◌, ◌||◌, ℕ, leb, eqb}
use Rattle.unionfind.specs.Codes.{tag, number, primitive_tag, int_tag, float_tag}

-- primitives from low to high
unfoldable pub primitive_in : ℕ → ℕ → ℕ → Bool
primitive_in low high x = eqb (tag x) primitive_tag && (leb low (number x) && leb (number x) high)

-- "Integer: integer variable, 8 to 15."
unfoldable pub is_int : ℕ → Bool
is_int x = eqb (tag x) int_tag || primitive_in 8 15 x

-- "float variable with 16 or 17"
unfoldable pub is_float : ℕ → Bool
is_float x = eqb (tag x) float_tag || primitive_in 16 17 x

-- "Numeric: integer or float variable, 8 to 17."
unfoldable pub is_numeric : ℕ → Bool
is_numeric x = is_int x || is_float x

-- "Two integer or two float variables .. Integer variable with primitive 8 to 15, float variable with 16 or 17": a is the variable
unfoldable pub takes : ℕ → ℕ → Bool
takes a b = (eqb (tag a) int_tag && is_int b) || (eqb (tag a) float_tag && is_float b)
