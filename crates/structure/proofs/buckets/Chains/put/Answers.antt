use mathlib.Core.Path.{refl}
use Rattle.structure.proofs.Chaining.{chained_with}
use Rattle.structure.proofs.buckets.Chains.put.Goals as goal

pub returns : goal.returns
returns c = (refl, chained_with c.requires.1 c.requires.0 _ c.bucket_of-bucket.ensures.same c.head_of-next.ensures)
