-- "Every answer is either a report or a refusal carrying number, place and detail (0 unless said)."
use Rattle.std.specs.Prelude.{ℕ, Bool, true, false, Result, Ok, Err, Option, Some, None}
use Rattle.laws.specs.Choice.{pick}
use Rattle.laws.specs.declared.fault.Fault.{Fault}
use Rattle.laws.specs.declared.fault.Fault.TheVariants.{TooShort, WrongStart, OverLimit, WrongLength, NoSuchRoot, AreaTooShort, UnknownRow, OutOfRange, NotUsedOnce, TooDeep, NotDistinct, StrayLet, Mismatch, NotNumeric, NotInteger, ExamineeDiverges, NotAnEnum, ArmAfterAny, NoSuchVariant, PayloadGiven, PayloadMissing, PayloadLength, NotExhaustive, WrongFields, NoSuchField, SlotNotOpen, SlotBoundBefore, HoldsVariable, NotPlain, NoRoom, UnknownVariable, ClosesLoop, Unresolved, TypeCycle, ReferencesItself, OnLongerCycle, ReachesContext}
use Rattle.laws.specs.declared.refusal.Refusal.{Refusal}

-- document 01's table of refusals
abbrev pub number_of : Fault → ℕ
number_of TooShort = 1
number_of WrongStart = 2
number_of OverLimit = 3
number_of WrongLength = 4
number_of NoSuchRoot = 5
number_of AreaTooShort = 6
number_of UnknownRow = 10
number_of OutOfRange = 11
number_of NotUsedOnce = 12
number_of TooDeep = 13
number_of NotDistinct = 14
number_of StrayLet = 15
number_of Mismatch = 20
number_of NotNumeric = 21
number_of NotInteger = 22
number_of ExamineeDiverges = 23
number_of NotAnEnum = 24
number_of ArmAfterAny = 25
number_of NoSuchVariant = 26
number_of PayloadGiven = 27
number_of PayloadMissing = 28
number_of PayloadLength = 29
number_of NotExhaustive = 30
number_of WrongFields = 31
number_of NoSuchField = 32
number_of SlotNotOpen = 33
number_of SlotBoundBefore = 34
number_of HoldsVariable = 35
number_of NotPlain = 36
number_of NoRoom = 37
number_of UnknownVariable = 38
number_of ClosesLoop = 39
number_of Unresolved = 40
number_of TypeCycle = 41
number_of ReferencesItself = 50
number_of OnLongerCycle = 51
number_of ReachesContext = 52

abbrev pub refusal : Fault → ℕ → ℕ → Refusal
refusal fault place detail = record { fault = fault; place = place; detail = detail }

-- whether nothing was refused so far
abbrev pub passes : {A : Type 0} → Result A Refusal → Bool
passes (Ok x) = true
passes (Err r) = false

-- whether a rule found no fault
abbrev pub clean : Option Fault → Bool
clean None = true
clean (Some fault) = false

-- a rule's fault as a refusal at that place; where it found none, what follows
abbrev pub faulted : {A : Type 0} → Option Fault → ℕ → ℕ → Result A Refusal → Result A Refusal
faulted None place detail rest = rest
faulted (Some fault) place detail rest = Err (refusal fault place detail)

-- "Places: 1 to 6, 37: 0.": where the test fails, that refusal at place 0
abbrev pub need : Bool → Fault → Result Unit Refusal
need ok fault = pick ok (Ok _) (Err (refusal fault 0 0))
