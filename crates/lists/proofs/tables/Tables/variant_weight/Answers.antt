use mathlib.Core.Path.{refl}
use Rattle.laws.proofs.Choice.{yes, no}
use Rattle.laws.proofs.Told.{lt, nlt}
use Rattle.pack.specs.Lists.{list_len}
use Rattle.lists.proofs.tables.Tables.variant_weight.Goals as goal
use Rattle.lists.proofs.tables.Tables.variant_weight.Goals.{else-name-lt-NAMES-via-then-name-lt-NAMES+else-ids_fit, else-name-lt-NAMES-via-else-name-lt-NAMES}

pub returns-then-ids_fit : goal.returns-then-ids_fit
unfolding list_len
returns-then-ids_fit c = yes _ _ _ (rw (lt c.list_len-name.ensures.same refl c.if-name-lt-NAMES.true, ← c.list_len-start.ensures.same, ← c.if-ids_fit.ensures) refl) refl

pub returns-else-name-lt-NAMES : goal.returns-else-name-lt-NAMES
unfolding list_len
returns-else-name-lt-NAMES c =
    elim c.else-name-lt-NAMES.branch [
      | else-name-lt-NAMES-via-then-name-lt-NAMES+else-ids_fit w ↦ no _ _ _ (rw (lt c.list_len-name.ensures.same refl w.if-name-lt-NAMES.true, ← c.list_len-start.ensures.same, ← w.if-ids_fit.ensures) refl) refl
      | else-name-lt-NAMES-via-else-name-lt-NAMES w ↦ no _ _ _ (rw (nlt c.list_len-name.ensures.same refl w.if-name-lt-NAMES.false) refl) refl
    ]
