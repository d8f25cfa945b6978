use native.Mathlib.Omega.{arith}
use Rattle.structure.proofs.Spots.{types_place, types_same}
use Rattle.structure.proofs.compare.types_apart.Goals as goal

pub returns-in-Some : goal.returns-in-Some
returns-in-Some c = types_place _ _ _ _ (omega (arith, c.requires.0)) c.in-Some.ensures

pub returns-in-None : goal.returns-in-None
returns-in-None c = types_same _ _ _ _ (omega (arith, c.requires.0)) c.in-None.ensures
