use native.Mathlib.Omega.{arith}
use Rattle.structure.proofs.Spots.{names_place, seconds_place, pairs_same}
use Rattle.structure.proofs.compare.pairs_apart.Goals as goal

pub returns-in-Some : goal.returns-in-Some
returns-in-Some c = names_place _ _ _ _ (omega (arith, c.requires.0)) c.requires.0 c.in-Some.ensures

pub returns-in-Some-words_apart : goal.returns-in-Some-words_apart
returns-in-Some-words_apart c = seconds_place _ _ _ _ (omega (arith, c.requires.0)) c.requires.0 c.in-Some-words_apart.ensures

pub returns-in-None : goal.returns-in-None
returns-in-None c = pairs_same _ _ _ _ (omega (arith, c.requires.0)) c.in_default.ensures c.in-None.ensures
