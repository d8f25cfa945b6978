-- Table after table: what is left from each on says what the whole says.
use mathlib.Core.Path.{refl, sym, ap, ◌∙◌}
use mathlib.Core.List.{List}
use Prim.Native.Nat.{ℕ}
use native.Mathlib.Omega.{arith}
use Rattle.std.proofs.Common.{Ok}
use Rattle.laws.proofs.Answers.{passed_on}
use Rattle.laws.proofs.First.{Left, goes, stops, ends}
use Rattle.laws.specs.Faults.{passes}
use Rattle.pack.specs.declared.counts.Counts.{Counts}
use Rattle.rows.specs.Tables.{tables, table_of, rows_of}
use Rattle.rows.proofs.tables.all_tables.Goals as goal

abbrev LeftOf : List ℕ → Counts → ℕ → Type 0
LeftOf p c t = Left (λ t. passes (table_of p c t)) (table_of p c) (Ok c) t tables (rows_of p c)

begins : (p : List ℕ) (c : Counts) → LeftOf p c 0
unfolding rows_of
begins p c = record { says = refl }

pub returns-in_err-table_rows : goal.returns-in_err-table_rows
returns-in_err-table_rows c =
    passed_on _ c.in_err-table_rows.field-0.0 c.from_residual.ensures.1
    ∙ c.in_err-table_rows.ensures
    ∙ stops (begins _ _) (omega arith) (sym (ap passes c.in_err-table_rows.ensures))

pub returns-in_err-table_rows-2 : goal.returns-in_err-table_rows-2
returns-in_err-table_rows-2 c =
    passed_on _ c.in_err-table_rows-2.field-0.0 c.from_residual-in_err-table_rows-2.ensures.1
    ∙ c.in_err-table_rows-2.ensures
    ∙ stops (goes (begins _ _) (omega arith) (sym (ap passes c.in_ok-table_rows.ensures))) (omega arith) (sym (ap passes c.in_err-table_rows-2.ensures))

pub returns-in_err-table_rows-3 : goal.returns-in_err-table_rows-3
returns-in_err-table_rows-3 c =
    passed_on _ c.in_err-table_rows-3.field-0.0 c.from_residual-in_err-table_rows-3.ensures.1
    ∙ c.in_err-table_rows-3.ensures
    ∙ stops (goes (goes (begins _ _) (omega arith) (sym (ap passes c.in_ok-table_rows.ensures))) (omega arith) (sym (ap passes c.in_ok-table_rows-2.ensures))) (omega arith) (sym (ap passes c.in_err-table_rows-3.ensures))

pub returns-in_err-table_rows-4 : goal.returns-in_err-table_rows-4
returns-in_err-table_rows-4 c =
    passed_on _ c.in_err-table_rows-4.field-0.0 c.from_residual-in_err-table_rows-4.ensures.1
    ∙ c.in_err-table_rows-4.ensures
    ∙ stops (goes (goes (goes (begins _ _) (omega arith) (sym (ap passes c.in_ok-table_rows.ensures))) (omega arith) (sym (ap passes c.in_ok-table_rows-2.ensures))) (omega arith) (sym (ap passes c.in_ok-table_rows-3.ensures))) (omega arith) (sym (ap passes c.in_err-table_rows-4.ensures))

pub returns-in_err-table_rows-5 : goal.returns-in_err-table_rows-5
returns-in_err-table_rows-5 c =
    passed_on _ c.in_err-table_rows-5.field-0.0 c.from_residual-in_err-table_rows-5.ensures.1
    ∙ c.in_err-table_rows-5.ensures
    ∙ stops (goes (goes (goes (goes (begins _ _) (omega arith) (sym (ap passes c.in_ok-table_rows.ensures))) (omega arith) (sym (ap passes c.in_ok-table_rows-2.ensures))) (omega arith) (sym (ap passes c.in_ok-table_rows-3.ensures))) (omega arith) (sym (ap passes c.in_ok-table_rows-4.ensures))) (omega arith) (sym (ap passes c.in_err-table_rows-5.ensures))

pub returns : goal.returns
returns c = ends (goes (goes (goes (goes (goes (begins _ _) (omega arith) (sym (ap passes c.in_ok-table_rows.ensures))) (omega arith) (sym (ap passes c.in_ok-table_rows-2.ensures))) (omega arith) (sym (ap passes c.in_ok-table_rows-3.ensures))) (omega arith) (sym (ap passes c.in_ok-table_rows-4.ensures))) (omega arith) (sym (ap passes c.in_ok-table_rows-5.ensures))) (omega arith)
