use mathlib.Core.Path.{◌∙◌}
use Rattle.names.proofs.Seeking.{rising, word_found, word_none}
use native.Mathlib.Omega.{arith}
use Rattle.names.proofs.search.seat_from.Goals as goal

pub seek-m-requires : goal.seek-m-requires
seek-m-requires c = rising c.requires.0.sorted c.requires.1 c.entry_at-low.ensures.same c.entry_at-high.ensures.same

pub entry_at-requires : goal.entry_at-requires
entry_at-requires c = omega (arith, (rising c.requires.0.sorted c.requires.1 c.entry_at-low.ensures.same c.entry_at-high.ensures.same).room)

pub returns-then-m-high : goal.returns-then-m-high
returns-then-m-high c = c.entry_at.ensures.same ∙ word_found c.requires.0.sorted c.requires.1 c.entry_at-low.ensures.same c.entry_at-high.ensures.same _ c.seek-m.ensures c.if-m-high.true

pub returns-else-m-high : goal.returns-else-m-high
returns-else-m-high c = word_none c.requires.0.sorted c.requires.1 c.entry_at-low.ensures.same c.entry_at-high.ensures.same _ c.seek-m.ensures c.if-m-high.false c.requires.2
