-- Answers as numbers: "a refusal carrying number, place and detail (0 unless said)". Where nothing is refused all three are 0.
use Rattle.pack.specs.Answer.{Reading, number_of, place_of, detail_of}
use Rattle.worked.specs.declared.answers.Answer.{Answer}

abbrev pub numbers_of : Reading → Answer
numbers_of a = record { number = number_of a; place = place_of a; detail = detail_of a }
