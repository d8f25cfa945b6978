use mathlib.Core.Path.{refl}
use Rattle.lists.specs.Peaks.{lane, spot}
use Rattle.lists.proofs.peaks.spot.Goals as goal

pub returns : goal.returns
returns c = unfold spot lane in rw (← c.region-all.ensures, ← c.stride-by.ensures, ← c.number.ensures) refl
