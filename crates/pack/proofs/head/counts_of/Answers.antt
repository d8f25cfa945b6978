use mathlib.Core.Path.{refl}
use Rattle.pack.specs.Header.{counts_of}
use Rattle.pack.proofs.head.counts_of.Goals as goal

pub returns : goal.returns
unfolding counts_of
returns c = rw (← c.word_at.ensures.same, ← c.word_at-2.ensures.same, ← c.word_at-3.ensures.same, ← c.word_at-4.ensures.same, ← c.word_at-5.ensures.same, ← c.word_at-6.ensures.same) refl
