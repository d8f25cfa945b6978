-- "Every answer is either a report or a refusal carrying number, place and detail (0 unless said)": as the host gets them, all 0 for a report.
use Rattle.std.specs.Prelude.{ℕ, List, Result as Returned, Ok, Err}
use Rattle.laws.specs.Faults.{number_of}
use Rattle.laws.specs.declared.refusal.Refusal.{Refusal}

pub record Told : Type 0 where
  pub number : ℕ
  pub place : ℕ
  pub detail : ℕ

abbrev pub told : ℕ → ℕ → ℕ → Told
told number place detail = record { number = number; place = place; detail = detail }

-- and every byte of the result area after it
pub record Result : Type 0 where
  pub answer : Told
  pub area : List ℕ

abbrev pub result : Told → List ℕ → Result
result answer area = record { answer = answer; area = area }

abbrev pub report : Told
report = told 0 0 0

abbrev pub refusal : Refusal → Told
refusal r = told (number_of r.fault) r.place r.detail

-- "a definition gives this paper's number and values for each case of the enum"
abbrev pub answer_told : {A : Type 0} → Returned A Refusal → Told
answer_told (Ok x) = report
answer_told (Err r) = refusal r
