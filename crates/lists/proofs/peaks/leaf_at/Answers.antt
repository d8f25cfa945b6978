use native.Mathlib.Nat.{mod-lt}
use Rattle.lists.specs.Peaks.{leaf}
use Rattle.lists.proofs.PeakLaws.{in_place}
use native.Mathlib.Omega.{arith}
use Rattle.lists.proofs.peaks.leaf_at.Goals as goal

pub weight-requires : goal.weight-requires
weight-requires c = (rw (c.place-j.ensures, c.region-all.ensures) (in_place _ _ _ (mod-lt _ (omega arith))), c.requires)

pub returns : goal.returns
returns c = unfold leaf in rw (← c.region-all.ensures, ← c.at-form.ensures, ← c.place-j.ensures) c.weight.ensures
