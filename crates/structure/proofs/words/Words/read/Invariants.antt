-- `read`: the words below j are read and chained.
use Prim.Native.Nat.{◌≤◌}
use Rattle.pack.specs.Lists.{list_word}
use Rattle.structure.specs.Lists.{words}
use Rattle.structure.specs.Buckets.{Links}
use Rattle.structure.specs.Words.{Read}
use Rattle.structure.proofs.words.Words.read.Given as goal

abbrev pub invariant-loop-j : goal.invariant-loop-j
invariant-loop-j l = (l.j ≤ words) × Read l.pack l.c l.self.look l.j × Links words (list_word l.pack l.c) l.self.heads l.self.nexts l.j
