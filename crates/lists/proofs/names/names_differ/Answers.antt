use mathlib.Core.Path.{sym, ◌∙◌}
use Rattle.lists.proofs.ListLaws.{fits}
use Rattle.lists.proofs.NameLaws.{names_by}
use native.Mathlib.Omega.{arith}
use Rattle.lists.proofs.names.names_differ.Goals as goal

pub overflow_add-s : goal.overflow_add-s
overflow_add-s c = omega (arith, fits _ _ _ (sym c.list_fits.ensures ∙ c.if-list_fits.true), c.requires.few)

pub overflow_add-s-then-list_fits : goal.overflow_add-s-then-list_fits
overflow_add-s-then-list_fits c = omega (arith, fits _ _ _ (sym c.list_fits.ensures ∙ c.if-list_fits.true), c.requires.few)

pub items_below-requires : goal.items_below-requires
items_below-requires c = (c.requires, omega (arith, fits _ _ _ (sym c.list_fits.ensures ∙ c.if-list_fits.true)))

pub returns-then-list_fits : goal.returns-then-list_fits
returns-then-list_fits c = λ m. c.items_below.ensures ∙ names_by _ _ _ m c.list_len-n.ensures.same
