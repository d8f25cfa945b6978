use Rattle.unionfind.specs.Cells.{is_link}
use mathlib.Core.Path.{sym, ◌∙◌}
use Rattle.unionfind.proofs.chain.is_link.Goals as goal

-- `is_link`: what `is_var` says, and the test of the number.
pub returns-then-is_var : goal.returns-then-is_var
unfolding is_link
returns-then-is_var c = rw (sym c.is_var.ensures ∙ c.if-is_var.true, c.number_of.ensures)

pub returns-else-is_var : goal.returns-else-is_var
unfolding is_link
returns-else-is_var c = rw (sym c.is_var.ensures ∙ c.if-is_var.false)
