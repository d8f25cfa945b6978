use mathlib.Core.Path.{◌∙◌}
use Rattle.lists.proofs.PeakLaws.{spot_end, range_items}
use Rattle.lists.proofs.peaks.items_below.Goals as goal

pub range_below-requires : goal.range_below-requires
range_below-requires c = (c.requires.0.few, c.requires.0.nodes, rw c.spot-from.ensures (spot_end _ _ _ _ c.requires.1))

pub returns : goal.returns
returns c = c.range_below.ensures ∙ range_items _ _ _ c.requires.0 _ _ _ _ _ c.spot-from.ensures c.requires.1
