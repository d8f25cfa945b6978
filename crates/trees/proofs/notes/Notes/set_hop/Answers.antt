use Prim.Native.Nat.{ℕ, ◌+◌}
use mathlib.Core.Path.{ap}
use Rattle.trees.proofs.HopLaws.{hop_set}
use Rattle.trees.proofs.notes.Notes.set_hop.Goals as goal

pub returns-then-j-lt-LINE-clause-kept : goal.returns-then-j-lt-LINE-clause-kept
returns-then-j-lt-LINE-clause-kept c = hop_set c.requires.0 c.requires.1 c.if-j-lt-LINE.true (ap (λ (x : ℕ). x + c.args.j) c.line.ensures)
