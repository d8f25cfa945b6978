use mathlib.Core.Path.{refl}
use Rattle.structure.proofs.Forest.{sound_bare}
use Rattle.structure.proofs.tree.ListTrees.empty.Goals as goal

pub returns : goal.returns
returns c = sound_bare (record { roots_bare = refl; cells_bare = refl; tests_bare = refl; keys_bare = c.empty.ensures.0 }) c.empty.ensures.1
