-- `bare`: a fresh variable, then unify.
use Rattle.expr.specs.Rules.{bare_rule}
use Rattle.expr.proofs.Steps.{typed_as_lem, typed_none}
use Rattle.expr.proofs.Kept.{ran_keeps, handed_on, after_type, coded_more}
use Rattle.expr.proofs.Leaves.{bare_keeps}
use Rattle.expr.proofs.Given.{cells_ready}
use Rattle.expr.proofs.types.bare.Goals as goal

pub returns-in_err-own : goal.returns-in_err-own
returns-in_err-own c = record { ran = λ slots notes h. handed_on c.from_residual.ensures.1 (ran_keeps (bare_keeps _ _ _ _ _ _ h c.requires.1) (unfold bare_rule in typed_none _ (c.fresh_type.ensures.ran slots notes h).same c.in_err-own.was)) }

pub returns : goal.returns
returns c = record { ran = λ slots notes h. let t = c.fresh_type.ensures.ran slots notes h in ran_keeps (bare_keeps _ _ _ _ _ _ h c.requires.1) (unfold bare_rule in typed_as_lem _ t.same c.in_ok-own.was (c.meet.ensures.ran slots notes (after_type t c.in_ok-own.was).1.0).same) }

pub meet-requires : goal.meet-requires
meet-requires c = ((after_type (c.fresh_type.ensures.ran _ _ (cells_ready c.requires.0)) c.in_ok-own.was).1.0.live, (coded_more (after_type (c.fresh_type.ensures.ran _ _ (cells_ready c.requires.0)) c.in_ok-own.was).0 c.requires.1, (after_type (c.fresh_type.ensures.ran _ _ (cells_ready c.requires.0)) c.in_ok-own.was).1.1))
