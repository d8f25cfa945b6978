use mathlib.Core.Path.{refl}
use Rattle.structure.proofs.Forest.{sound_grown}
use Rattle.structure.proofs.tree.ListTrees.grow.Goals as goal

pub returns : goal.returns
returns c =
    rw (c.link.ensures, c.test.ensures)
    (sound_grown c.requires.0 c.requires.1 c.requires.2 (record { roots_set = refl; cells_set = refl; tests_set = refl; keys_set = rw (c.link.ensures, c.key.ensures) at c.put.ensures.0 }) c.put.ensures.1)
