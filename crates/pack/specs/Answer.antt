-- "Every answer is either a report or a refusal carrying number, place and detail (0 unless said)."
use Rattle.std.specs.Prelude.{ℕ, Bool, Result, Ok, Err}
use Rattle.laws.specs.Choice.{pick}
use Rattle.laws.specs.Faults.{refusal, number_of as number_for}
use Rattle.laws.specs.declared.fault.Fault.{Fault}
use Rattle.laws.specs.declared.refusal.Refusal.{Refusal}
use Rattle.pack.specs.declared.counts.Counts.{Counts}

-- what reading answers: the counts of a pack, or a refusal
abbrev pub Reading : Type 0
Reading = Result Counts Refusal

abbrev pub refuse : Fault → ℕ → ℕ → Reading
refuse fault place detail = Err (refusal fault place detail)

-- "Places: 1 to 6, 37: 0.": where the test fails, that refusal at place 0; else what follows
unfoldable pub needs : Bool → Fault → Reading → Reading
needs ok fault rest = pick ok rest (refuse fault 0 0)

-- "this paper's number and values for each case of the enum": 0 for a report
abbrev pub number_of : Reading → ℕ
number_of (Ok c) = 0
number_of (Err r) = number_for r.fault

abbrev pub place_of : Reading → ℕ
place_of (Ok c) = 0
place_of (Err r) = r.place

abbrev pub detail_of : Reading → ℕ
detail_of (Ok c) = 0
detail_of (Err r) = r.detail
