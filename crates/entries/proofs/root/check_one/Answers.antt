-- Module 4 is asked of a well-formed pack, one of its roots and an area with room alone.
use mathlib.Core.Path.{sym, ap, ◌∙◌}
use Rattle.laws.proofs.Answers.{passed_on}
use Rattle.formed.proofs.Promises.{well_formed}
use Rattle.pack.proofs.CountLaws.{limited}
use Rattle.entries.specs.Root.{checked, root_checked, checked_by}
use Rattle.entries.proofs.ReadyLaws.{root_ready}
use native.Mathlib.Omega.{arith}
use Rattle.entries.proofs.root.check_one.Goals as goal

pub overflow_cast-root : goal.overflow_cast-root
overflow_cast-root c =
    let ready = root_ready _ _ _ _ (sym c.in_ok-c.ensures) in
    omega (arith, ready.1, (limited _ (well_formed _ _ ready.0).headed.limits).roots)

pub check_numbered-requires : goal.check_numbered-requires
check_numbered-requires c =
    let ready = root_ready _ _ _ _ (sym c.in_ok-c.ensures) in
    (ready.0, ready.1, ready.2)

pub returns : goal.returns
unfolding root_checked
returns c = c.check_numbered.ensures ∙ ap (checked_by _ _ _) c.in_ok-c.ensures

pub returns-in_err-c : goal.returns-in_err-c
unfolding root_checked
returns-in_err-c c = ap (λ r. checked r c.args.area.now) (passed_on _ c.in_err-c.field-0.0 c.from_residual.ensures.1) ∙ ap (checked_by _ _ _) c.in_err-c.ensures
