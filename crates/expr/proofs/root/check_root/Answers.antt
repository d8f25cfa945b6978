-- `check_root`: 35, 34, then the body, and the words of a root that is accepted.
use borrow.Author.Rules.{rules}
use Rattle.std.proofs.Common.{Err}
use mathlib.Core.Path.{refl, ap, ◌∙◌}
use lib.ListN.{length}
use Rattle.words.proofs.Promises.{words_length}
use Rattle.expr.proofs.Kept.{told_on}
use Rattle.expr.proofs.Roots.{tells_refused, at_variable, at_slot, body_refused, body_held, body_written, body_told, ret_coded, root_ready, marked}
use Rattle.expr.proofs.root.check_root.Goals as goal

pub returns-then-root_marked : goal.returns-then-root_marked
returns-then-root_marked c = tells_refused c.requires.0 (at_variable c.requires.0 c.root_row-row.ensures c.root_marked.ensures c.if-root_marked.true) refl (ap Err c.at.ensures) c.requires.2.cells c.requires.2.notes

pub invariant_of-env : goal.invariant_of-env
invariant_of-env c = record { returns = ret_coded c.requires.0 c.root_row-row.ensures c.root_marked.ensures c.if-root_marked.false c.type_code-ret.ensures c.empty.ensures c.open_pairs.ensures; marked = marked c.requires.0; indexed = c.requires.1 }

pub expr-requires : goal.expr-requires
expr-requires c = (root_ready c.requires.0 c.root_row-row.ensures c.root_marked.ensures c.if-root_marked.false c.type_code-ret.ensures c.empty.ensures c.open_pairs.ensures c.requires.2, ret_coded c.requires.0 c.root_row-row.ensures c.root_marked.ensures c.if-root_marked.false c.type_code-ret.ensures c.empty.ensures c.open_pairs.ensures)

pub write_root-requires : goal.write_root-requires
write_root-requires c = body_held c.requires.0 c.root_row-row.ensures c.root_marked.ensures c.if-root_marked.false c.type_code-ret.ensures c.empty.ensures c.open_pairs.ensures c.if-open_pairs.true c.requires.2 c.expr.ensures.ran (search rules) (search rules) c.in_ok-o.was

pub returns-in_err-o : goal.returns-in_err-o
returns-in_err-o c = body_refused c.requires.0 c.root_row-row.ensures c.root_marked.ensures c.if-root_marked.false c.type_code-ret.ensures c.empty.ensures c.open_pairs.ensures c.if-open_pairs.true c.requires.2 c.expr.ensures.ran (search rules) (search rules) c.in_err-o.was (told_on _ c.from_residual.ensures.1)

pub shape_of-area : goal.shape_of-area
shape_of-area c = ap length (body_written c.requires.0 c.root_row-row.ensures c.root_marked.ensures c.if-root_marked.false c.type_code-ret.ensures c.empty.ensures c.open_pairs.ensures c.if-open_pairs.true c.requires.2 c.expr.ensures.ran (search rules) (search rules) c.in_ok-o.was c.write_root.ensures).area ∙ words_length _ _ _ _

pub returns-in_ok-o : goal.returns-in_ok-o
returns-in_ok-o c = body_told c.requires.0 c.root_row-row.ensures c.root_marked.ensures c.if-root_marked.false c.type_code-ret.ensures c.empty.ensures c.open_pairs.ensures c.if-open_pairs.true c.requires.2 c.expr.ensures.ran (search rules) (search rules) c.in_ok-o.was c.write_root.ensures

pub returns-else-open_pairs : goal.returns-else-open_pairs
returns-else-open_pairs c = tells_refused c.requires.0 (at_slot c.requires.0 c.root_row-row.ensures c.root_marked.ensures c.if-root_marked.false c.type_code-ret.ensures c.empty.ensures c.open_pairs.ensures c.if-open_pairs.false) refl (ap Err c.at-else-open_pairs.ensures) c.requires.2.cells c.requires.2.notes
