use mathlib.Core.Path.{refl}
use Rattle.structure.proofs.Arrays.{clear}
use Rattle.structure.proofs.facts.KnownLists.empty.Goals as goal

pub returns : goal.returns
returns c = (refl, clear, clear, c.empty.ensures.0, c.empty.ensures.1)
