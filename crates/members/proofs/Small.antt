-- One small pack, at which each decision is computed. Its types are i64, a variable, the record (1: i64, 2: i64) and a list of i64; its
-- definitions an enum of 5 without fields, 6 of i64 and 7 of i64 and the variable, the record (1: i64, 2: i64), the same with a parameter,
-- a list with a parameter, the enum with a parameter, and the record (1: the variable). Codes: row k is 49152 + k, definition k 114688 + k,
-- i64 32779. The lists of the pack, by their starts: 0 nothing; 6 the enum's variants; 23 one slot, 25 two; arms: 28 a guarded `_`,
-- 33 `_`, 38 5 and a guarded 6, 47 all three; fields as written: 60 2 and 1, 65 1, 1, 9 and 9, 74 1.
-- Assumes nothing.
use mathlib.Core.List.{List, [], ◌∷◌}
use Prim.Native.Nat.{ℕ}
use Rattle.pack.specs.declared.counts.Counts.{Counts}

unfoldable pub bytes : List ℕ
bytes =
    0 ∷ 0 ∷ 0 ∷ 0 ∷ 0 ∷ 0 ∷ 0 ∷ 0 ∷ 0 ∷ 0 ∷ 0 ∷ 0 ∷ 0 ∷ 0 ∷ 0 ∷ 0
    ∷ 32 ∷ 2 ∷ 192 ∷ 0 ∷ 112 ∷ 0 ∷ 0 ∷ 0 ∷ 80 ∷ 0 ∷ 0 ∷ 13 ∷ 64 ∷ 0 ∷ 192 ∷ 21
    ∷ 0 ∷ 0 ∷ 0 ∷ 6 ∷ 64 ∷ 0 ∷ 0 ∷ 13 ∷ 68 ∷ 0 ∷ 0 ∷ 13 ∷ 196 ∷ 0 ∷ 0 ∷ 0
    ∷ 4 ∷ 0 ∷ 0 ∷ 6 ∷ 64 ∷ 0 ∷ 0 ∷ 18 ∷ 0 ∷ 0 ∷ 0 ∷ 1 ∷ 0 ∷ 0 ∷ 0 ∷ 2
    ∷ 0 ∷ 0 ∷ 0 ∷ 1 ∷ 0 ∷ 3 ∷ 0 ∷ 5 ∷ 0 ∷ 0 ∷ 0 ∷ 6 ∷ 0 ∷ 1 ∷ 0 ∷ 7
    ∷ 0 ∷ 3 ∷ 0 ∷ 2 ∷ 0 ∷ 1 ∷ 0 ∷ 0 ∷ 0 ∷ 2 ∷ 0 ∷ 0 ∷ 0 ∷ 1 ∷ 0 ∷ 1
    ∷ 0 ∷ 1 ∷ 0 ∷ 1 ∷ 0 ∷ 0 ∷ 0 ∷ 1 ∷ 0 ∷ 30 ∷ 0 ∷ 2 ∷ 0 ∷ 30 ∷ 0 ∷ 31
    ∷ 0 ∷ 1 ∷ 63 ∷ 255 ∷ 0 ∷ 0 ∷ 0 ∷ 1 ∷ 0 ∷ 0 ∷ 0 ∷ 1 ∷ 63 ∷ 255 ∷ 0 ∷ 0
    ∷ 0 ∷ 0 ∷ 0 ∷ 0 ∷ 0 ∷ 2 ∷ 0 ∷ 5 ∷ 0 ∷ 0 ∷ 0 ∷ 0 ∷ 0 ∷ 0 ∷ 0 ∷ 6
    ∷ 0 ∷ 24 ∷ 0 ∷ 9 ∷ 0 ∷ 0 ∷ 0 ∷ 3 ∷ 0 ∷ 7 ∷ 0 ∷ 26 ∷ 0 ∷ 0 ∷ 0 ∷ 0
    ∷ 0 ∷ 6 ∷ 0 ∷ 24 ∷ 0 ∷ 0 ∷ 0 ∷ 0 ∷ 0 ∷ 5 ∷ 0 ∷ 0 ∷ 0 ∷ 0 ∷ 0 ∷ 0
    ∷ 0 ∷ 2 ∷ 0 ∷ 2 ∷ 0 ∷ 0 ∷ 0 ∷ 1 ∷ 0 ∷ 0 ∷ 0 ∷ 4 ∷ 0 ∷ 1 ∷ 0 ∷ 0
    ∷ 0 ∷ 1 ∷ 0 ∷ 0 ∷ 0 ∷ 9 ∷ 0 ∷ 0 ∷ 0 ∷ 9 ∷ 0 ∷ 0 ∷ 0 ∷ 1 ∷ 0 ∷ 1
    ∷ 0 ∷ 0
    ∷ []

unfoldable pub counts : Counts
counts = record { types = 4; definitions = 6; expressions = 0; roots = 0; values = 0; words = 77 }

unfoldable pub marks : List ℕ
marks = 0 ∷ 1 ∷ 0 ∷ 0 ∷ []
