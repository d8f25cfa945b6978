use mathlib.Core.Path.{◌∙◌}
use Rattle.type_cycle.proofs.SkipLaws.{passes_all, passes_on}
use Rattle.type_cycle.proofs.skips.Skips.pass.Goals as goal

pub returns-then-skip-count : goal.returns-then-skip-count
returns-then-skip-count c = passes_on _ _ _ _ _ _ c.requires.3 _ _ _ c.requires.0 c.if-skip-count.true (c.from.ensures ∙ c.at.ensures) c.min-more.ensures c.set.ensures

pub returns-else-skip-count : goal.returns-else-skip-count
returns-else-skip-count c = passes_all _ _ _ _ _ _ c.requires.3 c.requires.1 c.if-skip-count.false
