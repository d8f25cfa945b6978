use Prim.Native.Nat.{◌/◌}
use mathlib.Core.Path.{◌≡◌, refl}
use lib.ListN.{length-set}
use Rattle.words.specs.Words.{put_word, word_byte}
use native.Mathlib.Omega.{arith}
use Rattle.words.proofs.area.write_word.Goals as goal

pub bounds-area-i : goal.bounds-area-i
bounds-area-i c = omega (arith, c.requires)

pub bounds-area-i-2 : goal.bounds-area-i-2
bounds-area-i-2 c = simp length-set (omega (arith, c.requires))

pub bounds-area-i-3 : goal.bounds-area-i-3
bounds-area-i-3 c = simp length-set (omega (arith, c.requires))

pub bounds-area-i-4 : goal.bounds-area-i-4
bounds-area-i-4 c = simp length-set (omega (arith, c.requires))

pub returns : goal.returns
unfolding put_word word_byte
returns c = let e : c.args.word / 1 ≡ c.args.word = omega arith in rw e refl
