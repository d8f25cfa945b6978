-- A type as one number, its code: a tag and, below it, a number. The tags are those of a report's word:
-- "0 never, 1 unit, 2 primitive, 3 type row, 4 unset, 5 unset integer, 6 unset float, 7 definition without arguments".
-- Union-find knows only which codes are variables'.
use Rattle.std.specs.Prelude.{ℕ, ◌+◌, ◌*◌, ◌/◌, ◌%◌, Bool, ◌||◌, eqb}
use Rattle.unionfind.specs.declared.codes.Kind.{Kind}
use Rattle.unionfind.specs.declared.codes.Kind.TheVariants.{Var, IntVar, FloatVar}

-- a number has 14 bits
abbrev pub numbers : ℕ
numbers = 16384

-- a code is one of 8 tags and a number
abbrev pub codes : ℕ
codes = 131072

abbrev pub code : ℕ → ℕ → ℕ
code t k = t * numbers + k

abbrev pub tag : ℕ → ℕ
tag x = x / numbers

abbrev pub number : ℕ → ℕ
number x = x % numbers

-- the tags; those of variables are any, integer, float
abbrev pub never_tag : ℕ
never_tag = 0

abbrev pub unit_tag : ℕ
unit_tag = 1

abbrev pub primitive_tag : ℕ
primitive_tag = 2

abbrev pub row_tag : ℕ
row_tag = 3

abbrev pub any_tag : ℕ
any_tag = 4

abbrev pub int_tag : ℕ
int_tag = 5

abbrev pub float_tag : ℕ
float_tag = 6

abbrev pub definition_tag : ℕ
definition_tag = 7

-- "7 variable a, 8 integer variable a, 9 float variable a"
abbrev pub tag_for : Kind → ℕ
tag_for Var = any_tag
tag_for IntVar = int_tag
tag_for FloatVar = float_tag

-- the code of a variable that maps to itself
abbrev pub own_code : ℕ → ℕ → ℕ
own_code t n = code t n

unfoldable pub is_var : ℕ → Bool
is_var x = eqb (tag x) any_tag || eqb (tag x) int_tag || eqb (tag x) float_tag
