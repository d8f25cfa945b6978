use mathlib.Core.Path.{refl}
use Rattle.structure.specs.Facts.{used, walked}
use Rattle.structure.proofs.facts.KnownLists.find.Goals as goal

pub returns-in-Some : goal.returns-in-Some
returns-in-Some c = used _ c.in-Some.ensures refl

pub returns-then-fit : goal.returns-then-fit
returns-then-fit c = walked c.if-fit.true c.find.ensures
