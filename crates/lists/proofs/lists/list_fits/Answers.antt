use mathlib.Core.Path.{refl}
use Rattle.lists.specs.Lists.{list_fits}
use Rattle.lists.proofs.lists.list_fits.Goals as goal

pub returns : goal.returns
unfolding list_fits
returns c = refl
