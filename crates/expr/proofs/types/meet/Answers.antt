-- `meet`: what `unify` answers, as a step.
use mathlib.Core.Path.{sym, ap, ◌∙◌}
use Rattle.expr.specs.State.{step_for}
use Rattle.expr.proofs.Steps.{met}
use Rattle.expr.proofs.Kept.{ran_keeps, unify_keeps, handed_on}
use Rattle.expr.proofs.types.meet.Goals as goal

pub returns : goal.returns
returns c = record { ran = λ slots notes h. ran_keeps (unify_keeps _ _ _ _ _ _ h c.requires.1.0 c.requires.1.1) (met c.unify.ensures (c.done.ensures ∙ sym (ap (step_for _) c.in_ok-unify.was)) slots notes) }

pub returns-in_err-unify : goal.returns-in_err-unify
returns-in_err-unify c = record { ran = λ slots notes h. handed_on c.from_residual.ensures.1 (ran_keeps (unify_keeps _ _ _ _ _ _ h c.requires.1.0 c.requires.1.1) (met c.unify.ensures (sym (ap (step_for _) c.in_err-unify.was)) slots notes)) }

pub unify-requires : goal.unify-requires
unify-requires c = (c.requires.0, (c.requires.1.0.known, c.requires.1.1.known))
