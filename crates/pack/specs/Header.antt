-- "Header, 16 bytes: the three ASCII letters RPK, edition 1 (8 bits), then six 16-bit counts"; refusals 1 to 4.
use Rattle.std.specs.Prelude.{ℕ, List, [], ◌∷◌, length, leb, eqb, Ok}
use Rattle.laws.specs.declared.fault.Fault.TheVariants.{TooShort, WrongStart, OverLimit, WrongLength}
use Rattle.pack.specs.Read.{byte_at, word_at, starts_with}
use Rattle.pack.specs.Counts.{in_limits, size_of}
use Rattle.pack.specs.Answer.{Reading, needs}
use Rattle.pack.specs.declared.counts.Counts.{Counts}

-- R P K
abbrev pub rpk : List ℕ
rpk = 82 ∷ 80 ∷ 75 ∷ []

unfoldable pub counts_of : List ℕ → Counts
counts_of p =
    record {
      types = word_at p 4;
      definitions = word_at p 6;
      expressions = word_at p 8;
      roots = word_at p 10;
      values = word_at p 12;
      words = word_at p 14;
    }

-- "1 / 2: under 16 bytes / letters or edition wrong; 3 / 4: a count over its limit / length not exact"
unfoldable pub header_of : List ℕ → Reading
header_of p =
    needs (leb 16 (length p)) TooShort
    (needs (starts_with p rpk) WrongStart
    (needs (eqb (byte_at p 3) 1) WrongStart
    (needs (in_limits (counts_of p)) OverLimit
    (needs (eqb (length p) (size_of (counts_of p))) WrongLength
    (Ok (counts_of p))))))
