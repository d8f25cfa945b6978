use Rattle.std.proofs.Common.{Ok}
use Rattle.laws.proofs.First.{RowsLeft}
use Rattle.laws.specs.Faults.{passes, faulted}
use Rattle.rows.specs.Tables.{table_number, rows_in, row_rule, row_of, table_of}
use Rattle.rows.proofs.tables.table_rows.Given as goal

abbrev pub invariant-loop-i : goal.invariant-loop-i
invariant-loop-i l =
    let t = table_number l.table in
    RowsLeft (λ k x. passes (faulted x k t (Ok l.c))) (row_rule l.pack l.c t) (row_of l.pack l.c t) (Ok l.c) l.i (rows_in l.c t) (table_of l.pack l.c t)
