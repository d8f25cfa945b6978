-- `let_type`: a fresh variable, or the annotation.
use Rattle.std.proofs.Common.{Err}
use mathlib.Core.Path.{refl, ap}
use Rattle.expr.proofs.Steps.{is_typed}
use Rattle.laws.proofs.Choice.{yes, no, lets}
use Rattle.expr.specs.Rules.{let_type}
use Rattle.expr.proofs.Recursions.{let_type_none, let_type_more}
use Rattle.expr.proofs.Kept.{types_keeps}
use Rattle.expr.proofs.Leaves.{let_type_keeps}
use Rattle.expr.proofs.types.let_type.Goals as goal

pub returns-then-annotation-eq0 : goal.returns-then-annotation-eq0
returns-then-annotation-eq0 c = record { ran = λ slots notes h. types_keeps (let_type_keeps _ _ _ _ _ _ _ _ c.args.env.now.marked h) (unfold let_type in let_type_none _ _ _ _ _ _ _ _ c.if-annotation-eq0.true (c.fresh_type.ensures.ran slots notes h).same) }

pub returns-then-is_marked : goal.returns-then-is_marked
returns-then-is_marked c = record { ran = λ slots notes h. types_keeps (let_type_keeps _ _ _ _ _ _ _ _ c.args.env.now.marked h) (unfold let_type in let_type_more _ _ _ _ _ _ _ _ c.if-annotation-eq0.false (yes _ _ _ (rw (← c.is_marked.ensures) c.if-is_marked.true) (is_typed (ap Err c.at.ensures)))) }

pub returns : goal.returns
returns c = record { ran = λ slots notes h. types_keeps (let_type_keeps _ _ _ _ _ _ _ _ c.args.env.now.marked h) (unfold let_type in let_type_more _ _ _ _ _ _ _ _ c.if-annotation-eq0.false (no _ _ _ (rw (← c.is_marked.ensures) c.if-is_marked.false) (lets _ c.type_code.ensures refl))) }
