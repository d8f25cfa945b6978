-- The order entry: the pack and the area, "then the entry's own module alone", here module 5.
use Rattle.std.specs.Prelude.{ℕ, List, length, Ok, Err}
use Rattle.pack.specs.Answer.{Reading}
use Rattle.value_cycle.specs.Order.{Outcome, outcome, order_of as listing_of}
use Rattle.entries.specs.Answers.{Result, result, answer_told}
use Rattle.entries.specs.Ready.{ready_to_order}

-- "A refusal leaves the result area unchanged."
abbrev pub ordered : List ℕ → List ℕ → Reading → Outcome
ordered p area (Ok c) = listing_of p c area
ordered p area (Err r) = outcome (Err r) area

unfoldable pub order_answer : List ℕ → List ℕ → Outcome
order_answer p area = ordered p area (ready_to_order p (length area))

abbrev pub order_result : Outcome → Result
order_result out = result (answer_told out.answer) out.area

abbrev pub order_of : List ℕ → List ℕ → Result
order_of p area = order_result (order_answer p area)
