use mathlib.Core.Path.{sym, ◌∙◌}
use Rattle.lists.proofs.ListLaws.{inside, outside, fits}
use Rattle.lists.proofs.lists.items_fit.Goals as goal

pub each_fits-requires : goal.each_fits-requires
each_fits-requires c = (rw (← c.words_of.ensures) (fits _ _ _ (sym c.list_fits.ensures ∙ c.if-list_fits.true)), c.requires.0, c.requires.1)

pub returns-then-list_fits : goal.returns-then-list_fits
returns-then-list_fits c = inside _ _ _ _ c.list_len-n.ensures.same c.words_of.ensures c.list_fits.ensures c.if-list_fits.true c.each_fits.ensures

pub returns-else-list_fits : goal.returns-else-list_fits
returns-else-list_fits c = c.if-list_fits.false ∙ outside _ _ _ _ c.list_len-n.ensures.same c.words_of.ensures c.list_fits.ensures c.if-list_fits.false
