-- The root entry: the pack, the root number and the area, "then the entry's own module alone", here module 4.
use Rattle.std.specs.Prelude.{ℕ, List, length, Ok, Err}
use Rattle.pack.specs.declared.counts.Counts.{Counts}
use Rattle.pack.specs.Answer.{Reading}
use Rattle.expr.specs.Root.{root_answer, root_area, Checked as Answer}
use Rattle.entries.specs.Answers.{Result, result, answer_told}
use Rattle.entries.specs.Ready.{ready_to_check}

-- the answer of module 4, and the area after it
pub record Checked : Type 0 where
  pub answer : Answer
  pub area : List ℕ

abbrev pub checked : Answer → List ℕ → Checked
checked a area = record { answer = a; area = area }

abbrev pub checked_in : List ℕ → Counts → ℕ → List ℕ → Checked
checked_in p c root area = checked (root_answer p c root) (root_area p c root area)

-- "A refusal leaves the result area unchanged."
abbrev pub checked_by : List ℕ → ℕ → List ℕ → Reading → Checked
checked_by p root area (Ok c) = checked_in p c root area
checked_by p root area (Err r) = checked (Err r) area

unfoldable pub root_checked : List ℕ → ℕ → List ℕ → Checked
root_checked p root area = checked_by p root area (ready_to_check p root (length area))

abbrev pub root_result : Checked → Result
root_result out = result (answer_told out.answer) out.area

abbrev pub root_of : List ℕ → ℕ → List ℕ → Result
root_of p root area = root_result (root_checked p root area)
