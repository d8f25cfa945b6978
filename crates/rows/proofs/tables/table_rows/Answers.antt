use Rattle.laws.proofs.Answers.{at_fault}
use Rattle.laws.proofs.First.{row_goes, row_stops, row_ends}
use Rattle.rows.proofs.RowLaws.{rows_most}
use Rattle.rows.specs.Tables.{table_number, table_of}
use mathlib.Core.Path.{refl, ◌∙◌}
use native.Mathlib.Omega.{arith}
use Rattle.rows.proofs.tables.table_rows.Goals as goal

pub loop-i-init : goal.loop-i-init
unfolding table_of
loop-i-init c = record { left = record { says = refl } }

pub row_rule-requires : goal.row_rule-requires
row_rule-requires c = (c.requires.0, omega (arith, rows_most c.args.c (table_number c.args.table) c.requires.1, c.len-i-end.ensures))

pub returns-in-Some : goal.returns-in-Some
returns-in-Some c =
    let f = at_fault _ c.loop-i.i (table_number c.args.table) c.args.c c.in-Some.ensures in
    rw (c.from.ensures, c.number.ensures) (f.1 ∙ row_stops c.loop-i.invariant (omega arith) c.in-Some.ensures refl)

pub loop-i-preserved : goal.loop-i-preserved
loop-i-preserved c = row_goes c.loop-i.invariant (omega arith) c.in_default.ensures refl

pub returns : goal.returns
returns c = row_ends c.loop-i.invariant (omega arith)
