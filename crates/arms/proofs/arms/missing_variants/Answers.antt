-- `missing_variants`: none where an arm is of `_`, else as counted.
use mathlib.Core.Path.{sym, ◌∙◌}
use Rattle.arms.proofs.Covering.{wild_told}
use Rattle.arms.proofs.arms.missing_variants.Goals as goal

pub returns-then-has_free : goal.returns-then-has_free
returns-then-has_free c = wild_told _ _ _ _ c.has_free.ensures c.if-has_free.true

pub count_missing-requires : goal.count_missing-requires
count_missing-requires c = (c.requires, sym c.has_free.ensures ∙ c.if-has_free.false)
