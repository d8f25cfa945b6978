-- The roots from i on say what all of them say, and the tables are ready for the next one.
use mathlib.Core.Path.{◌≡◌}
use lib.ListN.{length}
use Rattle.expr.specs.Root.{Blank}
use Rattle.check_pack.proofs.WholeLaws.{RootsLeft}
use Rattle.check_pack.proofs.whole.check_roots.Given as goal

abbrev pub invariant-loop-i : goal.invariant-loop-i
invariant-loop-i l = (length l.words ≡ 16384) × Blank l.cells l.notes × RootsLeft l.pack l.c l.i
