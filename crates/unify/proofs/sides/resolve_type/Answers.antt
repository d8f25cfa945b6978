-- `resolve_type`: a variable is found, any other type is itself.
use mathlib.Core.Path.{sym, ◌∙◌}
use Rattle.unify.proofs.Resolving.{cell_below, from_find, from_itself}
use Rattle.unify.proofs.sides.resolve_type.Goals as goal

pub find-requires : goal.find-requires
find-requires c = (rw c.number_of.ensures (cell_below c.requires.0 c.requires.1 (sym c.is_var.ensures ∙ c.if-is_var.true)), c.requires.0.loopfree)

pub returns-then-is_var : goal.returns-then-is_var
returns-then-is_var c = from_find c.requires.0 c.requires.1 (sym c.is_var.ensures ∙ c.if-is_var.true) c.number_of.ensures c.find.ensures

pub returns-else-is_var : goal.returns-else-is_var
returns-else-is_var c = from_itself c.requires.0 c.requires.1 (sym c.is_var.ensures ∙ c.if-is_var.false)
