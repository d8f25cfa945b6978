use Rattle.pack.proofs.CountLaws.{limited}
use Rattle.rows.proofs.tables.rows.Goals as goal

pub fill_tree-requires : goal.fill_tree-requires
fill_tree-requires c = ((limited _ c.requires).words, c.empty-peaks.ensures)

pub all_tables-requires : goal.all_tables-requires
all_tables-requires c = (c.fill_tree.ensures, c.requires)
