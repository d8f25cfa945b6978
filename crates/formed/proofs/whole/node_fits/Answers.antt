use Rattle.laws.proofs.Choice.{yes, no}
use Rattle.trees.specs.Nodes.{node_fits}
use Rattle.trees.specs.Notes.{told}
use Rattle.trees.proofs.StepLaws.{used, stated, deep}
use borrow.Author.Tests.{eq-eqb, ne_eqb}
use Rattle.trees.specs.declared.node_test.NodeTest.TheVariants.{UsedOnce, LetStated, Shallow}
use mathlib.Core.Path.{◌≡◌, ap, refl, sym, ◌∙◌}
use Rattle.formed.proofs.whole.node_fits.Goals as goal

not_first : UsedOnce ≡ LetStated → ⊥
not_first e = cc

not_third : UsedOnce ≡ Shallow → ⊥
not_third e = cc

pub returns-in-UsedOnce : goal.returns-in-UsedOnce
unfolding node_fits
returns-in-UsedOnce c = rw c.in-UsedOnce.is (used _ _ (told c.args.notes.now) c.requires.1.noted _ c.requires.0)

pub returns-then-row : goal.returns-then-row
unfolding node_fits
returns-then-row c =
    rw c.in-LetStated.is
    (yes _ _ _ (eq-eqb _ _ (ap (λ r. r.kind) (sym c.expression_row-row.ensures) ∙ c.if-row.true))
    (stated _ _ (told c.args.notes.now) c.requires.1.noted _ c.requires.0 (c.requires.1.trees (λ h. not_first (sym h ∙ c.in-LetStated.is)))))

pub returns-else-row : goal.returns-else-row
unfolding node_fits
returns-else-row c =
    rw c.in-LetStated.is
    (no _ _ _ (ne_eqb _ _ (λ h. c.if-row.false (ap (λ r. r.kind) c.expression_row-row.ensures ∙ h))) refl)

pub returns-in-Shallow : goal.returns-in-Shallow
unfolding node_fits
returns-in-Shallow c =
    rw c.in-Shallow.is (deep _ _ (told c.args.notes.now) c.requires.1.noted _ c.requires.0 (c.requires.1.trees (λ h. not_third (sym h ∙ c.in-Shallow.is))))
