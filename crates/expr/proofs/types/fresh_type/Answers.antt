-- `fresh_type`: what `fresh` makes, as a type to check against.
use mathlib.Core.Path.{sym, ap}
use Rattle.expr.specs.State.{typed_made}
use Rattle.expr.proofs.Steps.{made_type}
use Rattle.expr.proofs.Kept.{types_keeps, fresh_keeps, typed_on}
use Rattle.expr.proofs.types.fresh_type.Goals as goal

pub returns : goal.returns
returns c = record { ran = λ slots notes h. types_keeps (fresh_keeps _ _ _ h) (made_type c.fresh.ensures (sym (ap (typed_made _) c.in_ok-code.was)) slots notes) }

pub returns-in_err-code : goal.returns-in_err-code
returns-in_err-code c = record { ran = λ slots notes h. typed_on c.from_residual.ensures.1 (types_keeps (fresh_keeps _ _ _ h) (made_type c.fresh.ensures (sym (ap (typed_made _) c.in_err-code.was)) slots notes)) }
