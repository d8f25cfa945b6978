use mathlib.Core.Path.{refl}
use Rattle.laws.proofs.Choice.{yes, no}
use Rattle.laws.proofs.Told.{le, nle}
use Rattle.pack.specs.Lists.{list_len}
use Rattle.lists.proofs.tables.Tables.arm_weight.Goals as goal
use Rattle.lists.proofs.tables.Tables.arm_weight.Goals.{else-name-le-WILD-via-then-name-le-WILD+else-bound, else-name-le-WILD-via-else-name-le-WILD}

pub returns-then-bound : goal.returns-then-bound
unfolding list_len
returns-then-bound c = yes _ _ _ (rw (le c.list_len-name.ensures.same refl c.if-name-le-WILD.true, ← c.list_len-name.ensures.same, ← c.list_len-stored.ensures.same, ← c.if-bound.ensures) refl) c.arm_ids-ids.ensures

pub returns-else-name-le-WILD : goal.returns-else-name-le-WILD
unfolding list_len
returns-else-name-le-WILD c =
    elim c.else-name-le-WILD.branch [
      | else-name-le-WILD-via-then-name-le-WILD+else-bound w ↦ no _ _ _ (rw (le c.list_len-name.ensures.same refl w.if-name-le-WILD.true, ← c.list_len-name.ensures.same, ← c.list_len-stored.ensures.same, ← w.if-bound.ensures) refl) refl
      | else-name-le-WILD-via-else-name-le-WILD w ↦ no _ _ _ (rw (nle c.list_len-name.ensures.same refl w.if-name-le-WILD.false) refl) refl
    ]
