-- All words below m are the same.
use Prim.Native.Nat.{ℕ, ◌+◌, ◌*◌, ◌<◌}
use Rattle.structure.specs.Words.{SameWord}
use Rattle.structure.proofs.compare.words_apart.Given as goal

abbrev pub invariant-loop-m : goal.invariant-loop-m
invariant-loop-m g l = (k : ℕ) → k < l.m → SameWord l.look (l.a + g.row.STEP * k) (l.b + g.row.STEP * k)
