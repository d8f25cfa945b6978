-- The order of a pack's values as its bytes have it: 50, 51, 52, or the listing, and what the area holds after it.
use Rattle.std.specs.Prelude.{ℕ, ◌<◌, ◌≤◌, ◌≡◌, Bool, ◌&&◌, List, leb, get_or, Option, MatchOption, Result, Ok, Err}
use Rattle.pack.specs.Named.{refs_of}
use Rattle.pack.specs.declared.counts.Counts.{Counts}
use Rattle.components.specs.Answers.{Answer, listed, refused, order, constant, lists_itself, first₅₀, first₅₁, first₅₂, answer}
use Rattle.tarjan.specs.Values.{kind_of}
use Rattle.value_cycle.specs.Area.{written}
use Rattle.laws.specs.Faults.{refusal as refusal_of}
use Rattle.laws.specs.declared.fault.Fault.{Fault}
use Rattle.laws.specs.declared.refusal.Refusal.{Refusal}

-- the values are listed, or there is no such order
abbrev pub Order : Type 0
Order = Result Unit Refusal

abbrev pub all_listed : Order
all_listed = Ok _

-- a refusal of ordering: "number, place and detail (0 unless said)"
abbrev pub refusal : Fault → ℕ → Order
refusal fault place = Err (refusal_of fault place 0)

-- the answer, and the area after it
pub record Outcome : Type 0 where
  pub answer : Order
  pub area : List ℕ

abbrev pub outcome : Order → List ℕ → Outcome
outcome r area = record { answer = r; area = area }

-- "A refusal leaves the result area unchanged."
unfoldable pub answered : Answer → List ℕ → Outcome
answered (listed xs) area = outcome all_listed (written xs area)
answered (refused fault place) area = outcome (refusal fault place) area

-- what a search for the first of n places finds: what stands at `place`, or nothing where that is n
abbrev pub Finds : ℕ → ℕ → ℕ → Option ℕ → Type 0
Finds n place there found = MatchOption found (n ≤ place) (λ v. (place < n) × (v ≡ there))

-- of the values of a pack p with the counts c
module _ (p : List ℕ) (c : Counts) where
  abbrev pub lists_itself_in : ℕ → Bool
  lists_itself_in v = lists_itself (kind_of p c) (refs_of p c) c.values v

  abbrev pub is_looped_in : List ℕ → ℕ → Bool
  is_looped_in size v = constant (kind_of p c) (refs_of p c) c.values v && leb 2 (get_or size v 0)

  abbrev pub self_at : ℕ
  self_at = first₅₀ (kind_of p c) (refs_of p c) c.values

  abbrev pub loop_at : ℕ
  loop_at = first₅₁ (kind_of p c) (refs_of p c) c.values

  -- the value that is listed there
  abbrev pub looped_at : ℕ
  looped_at = get_or (order (kind_of p c) (refs_of p c) c.values) loop_at 0

  abbrev pub context_at : ℕ
  context_at = first₅₂ (kind_of p c) (refs_of p c) c.values

  abbrev pub answer_of : Answer
  answer_of = answer (kind_of p c) (refs_of p c) c.values

  unfoldable pub order_of : List ℕ → Outcome
  unfolding answered
  order_of area = answered answer_of area
