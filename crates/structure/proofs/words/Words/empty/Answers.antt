use Prim.Native.Nat.{ℕ}
use lib.ListN.{length-replicate}
use Rattle.structure.specs.Lists.{words}
use Rattle.structure.specs.Words.{looks}
use Rattle.structure.proofs.Chaining.{links_none}
use Rattle.structure.proofs.words.Words.empty.Goals as goal

pub returns : goal.returns
returns c = (length-replicate {A = ℕ} looks 0, λ x. links_none words x)
