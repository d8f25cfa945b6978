-- The numbers that fields and items stay below.
use Rattle.std.specs.Prelude.{ℕ, zero, suc, Bool, true, ltb}

-- "Names are numbers 0 to 16,382."
abbrev pub names : ℕ
names = 16383

-- "variant name or 16,383 for `_`"
abbrev pub wild : ℕ
wild = 16383

-- "Slots are 0 to 255."
abbrev pub slots : ℕ
slots = 256

-- "Explicit variables are 0 to 15, others 0 to 2,047."
abbrev pub explicits : ℕ
explicits = 16

abbrev pub variables : ℕ
variables = 2048

-- "literal (op 0 to 4 and 8 to 17 as primitives; 5 bare integer, 6 bare float, 7 unit)"
abbrev pub literals : ℕ
literals = 18

-- "And Or Lt Le Gt Ge Eq Ne Add Sub Mul Div Mod Exp as op 0 to 13"
abbrev pub operators : ℕ
operators = 14

-- what is stored as x+1, or 0 for none: x is below the limit
abbrev pub optional_below : ℕ → ℕ → Bool
optional_below limit zero = true
optional_below limit (suc x) = ltb x limit
