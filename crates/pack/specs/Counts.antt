-- "six 16-bit counts: types t ≤ 2,048, definitions d ≤ 512, expressions x ≤ 4,096, roots r ≤ 256, values v ≤ 1,024, list words w ≤ 8,184."
use Rattle.std.specs.Prelude.{ℕ, ◌+◌, ◌*◌, Bool, ◌&&◌, leb}
use Rattle.pack.specs.declared.counts.Counts.{Counts}

abbrev pub none : Counts
none = record { types = 0; definitions = 0; expressions = 0; roots = 0; values = 0; words = 0 }

unfoldable pub in_limits : Counts → Bool
in_limits c =
    leb c.types 2048
    && leb c.definitions 512
    && (leb c.expressions 4096 && leb c.roots 256)
    && (leb c.values 1024 && leb c.words 8184)

-- "Header, 16 bytes", and "tables follow in that order": where each starts
abbrev pub definitions_at : Counts → ℕ
definitions_at c = 16 + 4 * c.types

abbrev pub expressions_at : Counts → ℕ
expressions_at c = definitions_at c + 4 * c.definitions

abbrev pub roots_at : Counts → ℕ
roots_at c = expressions_at c + 8 * c.expressions

abbrev pub values_at : Counts → ℕ
values_at c = roots_at c + 8 * c.roots

abbrev pub lists_at : Counts → ℕ
lists_at c = values_at c + 4 * c.values

-- "Length is exactly 16+4t+4d+8x+8r+4v+2w"
abbrev pub size_of : Counts → ℕ
size_of c = lists_at c + 2 * c.words
