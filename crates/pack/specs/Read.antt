-- "Fields are bit-packed, most significant first; words are big-endian." Past the end every byte reads 0.
use Rattle.std.specs.Prelude.{ℕ, ◌+◌, ◌*◌, ◌/◌, ◌%◌, ◌^◌, Bool, List, eqb, length, get_or}
use Rattle.laws.specs.First.{all}

unfoldable pub byte_at : List ℕ → ℕ → ℕ
byte_at p i = get_or p i 0

unfoldable pub word_at : List ℕ → ℕ → ℕ
word_at p i = byte_at p i * 256 + byte_at p (i + 1)

unfoldable pub row32 : List ℕ → ℕ → ℕ
row32 p i = word_at p i * 65536 + word_at p (i + 2)

unfoldable pub row64 : List ℕ → ℕ → ℕ
row64 p i = row32 p i * 4294967296 + row32 p (i + 4)

-- a field of a row: `width` bits, with `below` bits after them
abbrev pub field : ℕ → ℕ → ℕ → ℕ
field row below width = row / 2 ^ below % 2 ^ width

-- a row's last field
abbrev pub last : ℕ → ℕ → ℕ
last row width = row % 2 ^ width

-- the bytes start with those of another list
unfoldable pub starts_with : List ℕ → List ℕ → Bool
starts_with p q = all (λ i. eqb (byte_at p i) (byte_at q i)) 0 (length q)
