use mathlib.Core.Path.{refl}
use Rattle.lists.specs.Peaks.{lane, place}
use Rattle.lists.proofs.peaks.place.Goals as goal

pub returns : goal.returns
returns c = unfold place lane in rw (← c.stride-by.ensures, ← c.region.ensures) refl
