-- `open_payload`: nothing to open where there is no payload and in an arm for every variant.
use mathlib.Core.Path.{refl}
use borrow.Author.Tests.{eq-eqb, ne_eqb}
use Rattle.laws.proofs.Choice.{yes, no}
use Rattle.expr.specs.Rules.{payload_opens}
use Rattle.expr.proofs.Recursions.{opens_none, opens_more}
use Rattle.expr.proofs.payload.open_payload.Goals as goal

pub returns-then-payload-eq0 : goal.returns-then-payload-eq0
unfolding payload_opens
returns-then-payload-eq0 c = opens_none _ _ _ _ _ _ _ c.if-payload-eq0.true refl

pub returns-then-name-eq-WILD : goal.returns-then-name-eq-WILD
unfolding payload_opens
returns-then-name-eq-WILD c = opens_more _ _ _ _ _ _ _ c.if-payload-eq0.false (yes _ _ _ (eq-eqb _ _ c.if-name-eq-WILD.true) refl)

pub returns : goal.returns
unfolding payload_opens
returns c = opens_more _ _ _ _ _ _ _ c.if-payload-eq0.false (no _ _ _ (ne_eqb _ _ c.if-name-eq-WILD.false) (rw (← c.member_of-fields.ensures) c.open_list.ensures))
