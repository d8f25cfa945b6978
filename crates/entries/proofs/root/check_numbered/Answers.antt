-- The rows are numbered, the names put in order, the tables new; then the root is checked.
use Rattle.entries.proofs.AnswerLaws.{root_both}
use Rattle.entries.proofs.ReadyLaws.{root_checks, words_few}
use Rattle.entries.proofs.root.check_numbered.Goals as goal

pub fill_names-requires : goal.fill_names-requires
fill_names-requires c = (c.empty-index.ensures, words_few _ c.requires.0)

pub check_root-requires : goal.check_root-requires
check_root-requires c = (root_checks c.requires.0 c.requires.1 c.number_rows-table.ensures c.requires.2, c.fill_names.ensures, record { cells = c.empty.ensures.cells; notes = c.empty-2.ensures })

pub returns : goal.returns
returns c = root_both c.check_root.ensures.0
