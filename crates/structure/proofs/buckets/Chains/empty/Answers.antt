use mathlib.Core.Path.{refl}
use Rattle.structure.proofs.Chaining.{chained_none}
use Rattle.structure.proofs.buckets.Chains.empty.Goals as goal

pub returns : goal.returns
returns c = (refl, chained_none)
