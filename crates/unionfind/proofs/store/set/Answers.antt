use Rattle.std.proofs.Common.{Err}
use mathlib.Core.Path.{refl, sym, ap, ◌∙◌}
use Rattle.laws.specs.Choice.{pick}
use Rattle.laws.proofs.Told.{le, nle}
use Rattle.unionfind.specs.Answers.{set_answer}
use Rattle.unionfind.proofs.States.{sets, refuses}
use Rattle.unionfind.proofs.Stores.{no_var_no_link}
use Rattle.unionfind.proofs.store.set.Goals as goal
use Rattle.unionfind.proofs.store.set.Goals.{then-is_var+else-n-w+then-is_link+else-passes, then-is_var+else-n-w+else-is_link, else-is_var}

-- `set`: each way to an answer has the tests that give it, and `sets` turns the answer into the rest of the contract.
pub returns-then-n-v : goal.returns-then-n-v
unfolding set_answer pick
returns-then-n-v c = refuses c.requires.1 _ _ _ c.requires.0 (ap Err c.at.ensures) (rw (le refl refl c.if-n-v.true))

pub returns-then-n-w : goal.returns-then-n-w
unfolding set_answer pick
returns-then-n-w c = refuses c.requires.1 _ _ _ c.requires.0 (ap Err c.at-then-n-w.ensures)
    (rw (
      nle refl refl c.if-n-v.false,
      sym c.is_var.ensures ∙ c.if-is_var.true,
      le refl c.number_of-w.ensures c.if-n-w.true,
      c.number_of-w.ensures,
    ))

pub returns-then-passes : goal.returns-then-passes
unfolding set_answer pick
returns-then-passes c = refuses c.requires.1 _ _ _ c.requires.0 (ap Err c.at-then-passes.ensures)
    (rw (
      nle refl refl c.if-n-v.false,
      sym c.is_var.ensures ∙ c.if-is_var.true,
      nle refl c.number_of-w.ensures c.if-n-w.false,
      sym c.is_link.ensures ∙ c.if-is_link.true,
      sym (rw c.number_of-w.ensures at c.passes.ensures) ∙ c.if-passes.true,
    ))

pub returns : goal.returns
unfolding set_answer pick
returns c = sets c.requires.1 _ _ _ c.requires.0
    (rw (nle refl refl c.if-n-v.false)
    (elim c.if-is_var.branch [
      | then-is_var+else-n-w+then-is_link+else-passes w ↦
          rw (
            sym c.is_var.ensures ∙ w.if-is_var.true,
            nle refl w.number_of-w.ensures w.if-n-w.false,
            sym w.is_link.ensures ∙ w.if-is_link.true,
            sym (rw w.number_of-w.ensures at w.passes.ensures) ∙ w.if-passes.false,
          )
      | then-is_var+else-n-w+else-is_link w ↦
          rw (sym c.is_var.ensures ∙ w.if-is_var.true, nle refl w.number_of-w.ensures w.if-n-w.false, sym w.is_link.ensures ∙ w.if-is_link.false)
      | else-is_var w ↦
          let e = sym c.is_var.ensures ∙ w.if-is_var.false in rw (e, no_var_no_link _ _ e)
    ]))
