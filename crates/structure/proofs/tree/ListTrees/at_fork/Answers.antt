use mathlib.Core.Path.{refl, ap}
use Rattle.structure.specs.declared.finding.Found.TheVariants.{Member}
use Prim.Native.Nat.{ℕ}
use Rattle.structure.proofs.Walking.{fork_key}
use Rattle.structure.proofs.tree.ListTrees.at_fork.Goals as goal

pub returns : goal.returns
returns c = ap (λ (k : ℕ). Member k) (fork_key _ _ _ _ c.requires refl (rw c.place_of.ensures.same at c.look_at.ensures.same) c.member_key.ensures)
