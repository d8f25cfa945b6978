-- `field_type`: the type of the field, then unify.
use Rattle.laws.proofs.Choice.{lets}
use Rattle.expr.specs.Rules.{field_type_rule}
use Rattle.expr.proofs.Steps.{goes, stops, is}
use Rattle.expr.proofs.Kept.{ran_keeps, handed_on}
use Rattle.expr.proofs.Leaves.{field_type_keeps}
use Rattle.expr.proofs.types.field_type.Goals as goal

pub returns-in_err-u : goal.returns-in_err-u
returns-in_err-u c = record { ran = λ slots notes h. handed_on c.from_residual.ensures.1 (ran_keeps (field_type_keeps _ _ _ _ _ _ _ _ _ _ h c.requires.1.0 c.requires.1.1) (unfold field_type_rule in lets _ c.type_code-code.ensures (stops _ (c.meet.ensures.ran slots notes h).same c.in_err-u.was))) }

pub returns : goal.returns
returns c = record { ran = λ slots notes h. ran_keeps (field_type_keeps _ _ _ _ _ _ _ _ _ _ h c.requires.1.0 c.requires.1.1) (unfold field_type_rule in lets _ c.type_code-code.ensures (goes _ (c.meet.ensures.ran slots notes h).same c.in_ok-u.was (is c.done.ensures))) }

pub meet-requires : goal.meet-requires
meet-requires c = (c.requires.0, (c.requires.1.0, rw c.type_code-code.ensures c.requires.1.1))
