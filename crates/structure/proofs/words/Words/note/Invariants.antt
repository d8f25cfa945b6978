-- `note`: the words from the link on that name type i are done.
use mathlib.Core.Path.{◌≡◌}
use Rattle.structure.proofs.Noting.{Noting}
use Rattle.structure.proofs.words.Words.note.Given as goal

abbrev pub invariant-loop-k : goal.invariant-loop-k
invariant-loop-k l = Noting l.initial.self.look l.self.look l.i l.x l.link × (l.self.heads ≡ l.initial.self.heads) × (l.self.nexts ≡ l.initial.self.nexts)

abbrev pub decreases-loop-k : goal.decreases-loop-k
decreases-loop-k l = l.link
