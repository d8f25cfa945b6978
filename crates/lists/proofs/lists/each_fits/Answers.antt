use mathlib.Core.Path.{refl, ◌∙◌}
use Rattle.lists.proofs.ListLaws.{and_first, and_second, ids_by, pairs_by, variants_by, arms_by}
use Rattle.lists.proofs.lists.each_fits.Goals as goal

pub returns-in-Ids : goal.returns-in-Ids
returns-in-Ids c = rw c.in-Ids.is (c.items_below.ensures ∙ ids_by _ _ _ _ _)

pub returns-then-items_below : goal.returns-then-items_below
returns-then-items_below c = rw c.in-Pairs.is (and_second c.if-items_below.true ∙ pairs_by _ _ _ _ _ _ c.items_below-in-Pairs.ensures c.items_below-then-items_below.ensures)

pub returns-else-items_below : goal.returns-else-items_below
returns-else-items_below c = rw c.in-Pairs.is (and_first _ c.if-items_below.false ∙ pairs_by _ _ _ _ _ _ c.items_below-in-Pairs.ensures refl)

pub returns-in-Variants : goal.returns-in-Variants
returns-in-Variants c = rw c.in-Variants.is (c.items_below-in-Variants.ensures ∙ variants_by _ _ _ _)

pub returns-in-Arms : goal.returns-in-Arms
returns-in-Arms c = rw c.in-Arms.is (c.items_below-in-Arms.ensures ∙ arms_by _ _ _ _ _ (rw c.in-Arms.is at c.requires.2))
