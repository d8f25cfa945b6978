-- The program: "prints .. a line as each part passes, roots rising; a refusal prints `refused`, number, place, detail and ends."
-- How far a pack comes, in terms of what the entries answer.
use Rattle.std.specs.Prelude.{ℕ, List, Ok, Err}
use Rattle.laws.specs.First.{first}
use Rattle.laws.specs.Faults.{passes}
use Rattle.pack.specs.declared.counts.Counts.{Counts}
use Rattle.pack.specs.Answer.{Reading}
use Rattle.expr.specs.Root.{root_answer, Checked}
use Rattle.value_cycle.specs.Order.{Order, Outcome, order_of}
use Rattle.entries.specs.Types.{types_answer}
use Rattle.check_pack.specs.declared.whole.Verdict.{Verdict}
use Rattle.check_pack.specs.declared.whole.Verdict.TheVariants.{NoTypes, NoRoot, NoOrder, Passed}

-- the verdict, and the area that has the order
pub record Whole : Type 0 where
  pub verdict : Verdict
  pub area : List ℕ

abbrev pub whole : Verdict → List ℕ → Whole
whole verdict area = record { verdict = verdict; area = area }

-- the last part
abbrev pub order_verdict : Counts → Order → Verdict
order_verdict c (Ok u) = Passed c
order_verdict c (Err r) = NoOrder c r

abbrev pub order_part : Counts → Outcome → Whole
order_part c out = whole (order_verdict c out.answer) out.area

-- "roots rising": the first that is refused, or a report
unfoldable pub roots_answer : List ℕ → Counts → Checked
roots_answer p c = first (λ i. passes (root_answer p c i)) (root_answer p c) (Ok tt) 0 c.roots

abbrev pub after_roots : List ℕ → Counts → List ℕ → Checked → Whole
after_roots p c area (Ok u) = order_part c (order_of p c area)
after_roots p c area (Err r) = whole (NoRoot r) area

abbrev pub roots_part : List ℕ → Counts → List ℕ → Whole
roots_part p c area = after_roots p c area (roots_answer p c)

-- after the first part
abbrev pub after_types : List ℕ → List ℕ → Reading → Whole
after_types p area (Ok c) = roots_part p c area
after_types p area (Err r) = whole (NoTypes r) area

unfoldable pub whole_of : List ℕ → List ℕ → Whole
whole_of p area = after_types p area (types_answer p)
