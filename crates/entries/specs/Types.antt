-- The types entry: the pack, "then the entry's own module alone", here module 3.
use Rattle.std.specs.Prelude.{ℕ, List}
use Rattle.laws.specs.Answers.{after}
use Rattle.laws.specs.Faults.{passes}
use Rattle.pack.specs.Answer.{Reading}
use Rattle.pack.specs.Header.{counts_of}
use Rattle.formed.specs.Formed.{formed_of}
use Rattle.type_cycle.specs.Cycles.{type_cycles_of}
use Rattle.entries.specs.Answers.{Told, answer_told}

unfoldable pub types_answer : List ℕ → Reading
types_answer p = after passes (formed_of p) (type_cycles_of p (counts_of p))

abbrev pub types_of : List ℕ → Told
types_of p = answer_told (types_answer p)
