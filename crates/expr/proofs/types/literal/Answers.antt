-- `literal`: a bare number, or a type of its own.
use Rattle.laws.proofs.Choice.{yes, no, lets}
use borrow.Author.Tests.{eq-eqb, ne_eqb}
use Rattle.expr.specs.Rules.{literal_rule}
use Rattle.expr.proofs.Coding.{literal_coded}
use Rattle.expr.proofs.Kept.{ran_keeps}
use Rattle.expr.proofs.Leaves.{literal_keeps}
use Rattle.expr.proofs.types.literal.Goals as goal

pub returns-then-op-eq-BARE_INTEGER : goal.returns-then-op-eq-BARE_INTEGER
returns-then-op-eq-BARE_INTEGER c = record { ran = λ slots notes h. ran_keeps (literal_keeps _ _ c.args.n _ _ _ h c.requires.1) (unfold literal_rule in yes _ _ _ (eq-eqb _ _ c.if-op-eq-BARE_INTEGER.true) (c.bare.ensures.ran slots notes h).same) }

pub returns-then-op-eq-BARE_FLOAT : goal.returns-then-op-eq-BARE_FLOAT
returns-then-op-eq-BARE_FLOAT c = record { ran = λ slots notes h. ran_keeps (literal_keeps _ _ c.args.n _ _ _ h c.requires.1) (unfold literal_rule in no _ _ _ (ne_eqb _ _ c.if-op-eq-BARE_INTEGER.false) (yes _ _ _ (eq-eqb _ _ c.if-op-eq-BARE_FLOAT.true) (c.bare-then-op-eq-BARE_FLOAT.ensures.ran slots notes h).same)) }

pub returns : goal.returns
returns c = record { ran = λ slots notes h. ran_keeps (literal_keeps _ _ c.args.n _ _ _ h c.requires.1) (unfold literal_rule in no _ _ _ (ne_eqb _ _ c.if-op-eq-BARE_INTEGER.false) (no _ _ _ (ne_eqb _ _ c.if-op-eq-BARE_FLOAT.false) (lets _ c.literal_code.ensures (c.meet.ensures.ran slots notes h).same))) }

pub meet-requires : goal.meet-requires
meet-requires c = (c.requires.0, (c.requires.1, rw c.literal_code.ensures (literal_coded _ _)))
