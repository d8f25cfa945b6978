-- `unify`: both sides resolved, then the plan.
use mathlib.Core.Path.{sym, ◌∙◌}
use Rattle.unify.specs.declared.plan.Plan.TheVariants.{Same, Clash, Store}
use Rattle.unify.proofs.Unifying.{unifies}
use Rattle.unify.proofs.sides.unify.Goals as goal

pub returns-in-Same : goal.returns-in-Same
returns-in-Same c = unifies c.requires.0 c.requires.1.0 c.requires.1.1 c.resolve_type-a.ensures c.resolve_type-b.ensures _ _ {p = Same} (sym c.in-Same.is ∙ c.plan_for.ensures)

pub returns-in-Clash : goal.returns-in-Clash
returns-in-Clash c = rw c.at.ensures (unifies c.requires.0 c.requires.1.0 c.requires.1.1 c.resolve_type-a.ensures c.resolve_type-b.ensures _ _ {p = Clash} (sym c.in-Clash.is ∙ c.plan_for.ensures))

pub returns-in-Store : goal.returns-in-Store
returns-in-Store c = rw (c.set.ensures.answer, c.set.ensures.cells) (unifies c.requires.0 c.requires.1.0 c.requires.1.1 c.resolve_type-a.ensures c.resolve_type-b.ensures _ _ {p = Store c.in-Store.cell c.in-Store.code} (sym c.in-Store.is ∙ c.plan_for.ensures))
