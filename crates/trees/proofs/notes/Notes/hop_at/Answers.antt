use Prim.Native.Nat.{ℕ, ◌+◌}
use mathlib.Core.Path.{sym, ap, ◌∙◌}
use lib.ListN.{get_or}
use Rattle.trees.proofs.HopLaws.{hop_in, hop_out}
use Rattle.trees.proofs.notes.Notes.hop_at.Goals as goal

pub returns-then-j-lt-LINE : goal.returns-then-j-lt-LINE
returns-then-j-lt-LINE c = ap (λ (x : ℕ). get_or c.args.self.now.hops (x + c.args.j) 0) c.line.ensures ∙ sym (hop_in _ _ _ c.if-j-lt-LINE.true)

pub returns-else-j-lt-LINE : goal.returns-else-j-lt-LINE
returns-else-j-lt-LINE c = sym (hop_out _ _ _ c.if-j-lt-LINE.false)
