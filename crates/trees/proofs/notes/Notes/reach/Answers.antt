use Rattle.trees.proofs.HopLaws.{run_join}
use native.Mathlib.Omega.{arith}
use Rattle.trees.proofs.notes.Notes.reach.Goals as goal

pub returns-else-known-eq0 : goal.returns-else-known-eq0
returns-else-known-eq0 c = run_join c.item_start-next.ensures (omega arith) (rw (← c.hop_at-known.ensures) at (c.requires.run c.args.kids c.args.j)) (rw (← c.hop_at.ensures) at (c.requires.run c.args.kids c.item_start-next.result))
