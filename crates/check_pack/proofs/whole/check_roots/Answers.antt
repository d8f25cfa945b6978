use mathlib.Core.Path.{refl, sym, ◌∙◌}
use Rattle.laws.proofs.Answers.{passed_on}
use Rattle.expr.proofs.Roots.{report_blank}
use Rattle.check_pack.proofs.WholeLaws.{checks, roots_start, root_goes, root_stops, roots_end}
use Rattle.entries.proofs.ReadyLaws.{words_few}
use borrow.Author.Rules.{rules}
use Rattle.check_pack.proofs.whole.check_roots.Goals as goal

pub fill_names-requires : goal.fill_names-requires
fill_names-requires c = (c.empty-index.ensures, words_few _ c.requires)

pub loop-i-init : goal.loop-i-init
loop-i-init c = (refl, record { cells = c.empty.ensures.cells; notes = c.empty-2.ensures }, roots_start _ _)

pub check_root-requires : goal.check_root-requires
check_root-requires c = (checks c.requires c.loop-i-test.true c.number_rows-table.ensures c.loop-i.invariant.0, c.fill_names.ensures, c.loop-i.invariant.1)

pub loop-i-preserved : goal.loop-i-preserved
loop-i-preserved c = (
  search rules,
  report_blank _ _ _ (sym c.in_ok-check_root.was ∙ c.check_root.ensures.0.0) c.check_root.ensures.1.0 c.check_root.ensures.1.1,
  root_goes c.loop-i.invariant.2 c.loop-i-test.true c.check_root.ensures.0.0 c.in_ok-check_root.was,
)

pub returns-in_err-check_root : goal.returns-in_err-check_root
returns-in_err-check_root c = passed_on _ _ c.from_residual.ensures.1 ∙ root_stops c.loop-i.invariant.2 c.loop-i-test.true c.check_root.ensures.0.0 c.in_err-check_root.was

pub returns : goal.returns
returns c = roots_end c.loop-i.invariant.2 c.loop-i-test.false
