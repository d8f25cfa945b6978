-- `number_rows`: the rows below i are done.
use Prim.Native.Nat.{◌≤◌}
use Rattle.pack.specs.Lists.{list_word}
use Rattle.structure.specs.Lists.{words}
use Rattle.structure.specs.Buckets.{Links, Chained}
use Rattle.structure.specs.Tree.{Sound}
use Rattle.structure.proofs.Building.{Built}
use Rattle.structure.proofs.numbering.number_rows.Given as goal

abbrev pub invariant-loop-i : goal.invariant-loop-i
invariant-loop-i l = (l.i ≤ l.n) × Built l.pack l.c l.fit l.i l.lists l.keys.keys l.table.same l.table.marks l.words.look × Sound l.lists.trees l.i × Chained l.keys l.i × Links words (list_word l.pack l.c) l.words.heads l.words.nexts words
