-- `turn_at`: by the chain of the fork's members.
use mathlib.Core.Path.{refl}
use native.Mathlib.Omega.{arith}
use Rattle.structure.proofs.Walking.{member_head}
use Rattle.structure.proofs.tree.ListTrees.turn_at.Goals as goal

pub row_from-requires : goal.row_from-requires
row_from-requires c = let f = rw c.in-Some.is at c.requires.2 in (c.requires.0, c.requires.1, member_head _ _ _ (omega (arith, f.0)) refl c.member_key.ensures)
