-- "Order: 1 to 6; then rows in table order, per row 10, 11, 14; then 12, 15, 13 over all; a pack past these is well-formed."
-- 5 is asked by the entry that has a root number, 6 by those that have a result area. (`room` is the area's length.)
use Rattle.std.specs.Prelude.{ℕ, ◌*◌, List, leb, ltb}
use Rattle.laws.specs.Answers.{after}
use Rattle.laws.specs.Faults.{passes}
use Rattle.laws.specs.declared.fault.Fault.TheVariants.{NoSuchRoot, AreaTooShort}
use Rattle.pack.specs.Answer.{Reading, needs}
use Rattle.pack.specs.Header.{counts_of, header_of}
use Rattle.formed.specs.Formed.{body_of}

-- "root number not below r"; "a root's report writes 4 bytes at 4·id .. (area at least 4x)"
unfoldable pub ready_to_check : List ℕ → ℕ → ℕ → Reading
ready_to_check p root room =
    after passes (header_of p)
    (needs (ltb root (counts_of p).roots) NoSuchRoot (needs (leb (4 * (counts_of p).expressions) room) AreaTooShort (body_of p (counts_of p))))

-- "an order writes the values' numbers .. 2 bytes each .. (at least 2v)"
unfoldable pub ready_to_order : List ℕ → ℕ → Reading
ready_to_order p room = after passes (header_of p) (needs (leb (2 * (counts_of p).values) room) AreaTooShort (body_of p (counts_of p)))
