use mathlib.Core.Path.{refl, ap}
use Prim.Native.Nat.{ℕ}
use mathlib.Core.List.{List}
use lib.ListN.{get_or}
use Rattle.structure.proofs.Noting.{noting_start, noting_next, note_less}
use Rattle.structure.proofs.words.Words.note.Goals as goal

pub loop-k-init : goal.loop-k-init
loop-k-init c = (noting_start _ _ _ c.requires.3 c.requires.0 c.requires.2 refl, refl, refl)

pub loop-k-smaller : goal.loop-k-smaller
loop-k-smaller c = note_less _ _ _ c.requires.3 _ c.loop-k.invariant.0 c.in-Some.ensures (ap (λ (ns : List ℕ). get_or ns c.in-Some.k 0) c.loop-k.invariant.2)

pub loop-k-preserved : goal.loop-k-preserved
loop-k-preserved c = (
  noting_next _ _ _ c.requires.3 _ c.loop-k.invariant.0 c.in-Some.ensures c.note_word.ensures (ap (λ (ns : List ℕ). get_or ns c.in-Some.k 0) c.loop-k.invariant.2),
  c.loop-k.invariant.1,
  c.loop-k.invariant.2,
)
