use mathlib.Core.Path.{sym, ◌∙◌}
use Rattle.lists.proofs.ListLaws.{fits}
use Rattle.lists.proofs.NameLaws.{rises_by}
use native.Mathlib.Omega.{arith}
use Rattle.lists.proofs.names.items_rise.Goals as goal

pub overflow_add-s : goal.overflow_add-s
overflow_add-s c = omega (arith, fits _ _ _ (sym c.list_fits.ensures ∙ c.if-list_fits.true), c.requires.few)

pub items_below-requires : goal.items_below-requires
items_below-requires c = (c.requires, omega (arith, fits _ _ _ (sym c.list_fits.ensures ∙ c.if-list_fits.true), c.saturating_sub.ensures))

pub returns-then-list_fits : goal.returns-then-list_fits
returns-then-list_fits c = λ m. c.items_below.ensures ∙ rises_by _ _ _ c.list_len-n.ensures.same c.saturating_sub.ensures
