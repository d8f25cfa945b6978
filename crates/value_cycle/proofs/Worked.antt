-- The order cases of document 01 that are marked P, as one table of packs' bytes under one statement, computed.
-- Assumes nothing.
use Prim.Native.Nat.{ℕ}
use mathlib.Core.Path.{◌≡◌, refl}
use mathlib.Core.List.{List, [], ◌∷◌, map}
use Rattle.laws.specs.Choice.{pick}
use Rattle.laws.specs.First.{first, walk}
use Rattle.laws.specs.Lists.{gather}
use Rattle.pack.specs.Answer.{Reading, needs}
use Rattle.pack.specs.Counts.{in_limits}
use Rattle.pack.specs.Header.{header_of, counts_of}
use Rattle.pack.specs.Lists.{list_word, list_len, list_item}
use Rattle.pack.specs.Named.{items_of}
use Rattle.pack.specs.Read.{byte_at, word_at, row32, starts_with}
use Rattle.pack.specs.Rows.{value_row}
use Rattle.std.proofs.Common.{Ok, Err}
use Rattle.components.specs.Answers.{any, found, first₅₀, first₅₁, first₅₂, answer}
use Rattle.components.specs.DepthFirst.{meet, meet_all, enter, reached}
use Rattle.components.specs.Tarjan.{follow, follow_all, leave, strong_connect, tarjan}
use Rattle.value_cycle.specs.Area.{bytes_of, written}
use Rattle.value_cycle.specs.Order.{all_listed, Outcome, outcome, refusal, answered, order_of}
use Rattle.laws.specs.declared.fault.Fault.TheVariants.{ReferencesItself, OnLongerCycle, ReachesContext}

-- the order of the pack that was read, in an area
abbrev pub ordered : List ℕ → List ℕ → Reading → Outcome
ordered p area (Ok c) = order_of p c area
ordered p area (Err r) = outcome (Err r) area

-- the bytes of a pack, beside an area of two bytes a value and one byte more
abbrev pub Case : Type 0
Case = List ℕ × List ℕ

pub ran : Case → Outcome
unfolding order_of header_of
ran (p, area) = ordered p area (header_of p)

pub cases : List Case
cases =
    -- none
    (82 ∷ 80 ∷ 75 ∷ 1 ∷ 0 ∷ 0 ∷ 0 ∷ 0 ∷ 0 ∷ 0 ∷ 0 ∷ 0 ∷ 0 ∷ 0 ∷ 0 ∷ 0 ∷ [], 7 ∷ [])
    -- C0{0}
    ∷ (82 ∷ 80 ∷ 75 ∷ 1 ∷ 0 ∷ 0 ∷ 0 ∷ 0 ∷ 0 ∷ 0 ∷ 0 ∷ 0 ∷ 0 ∷ 1 ∷ 0 ∷ 2 ∷ 0 ∷ 0 ∷ 0 ∷ 0 ∷ 0 ∷ 1 ∷ 0 ∷ 0 ∷ [], 7 ∷ 7 ∷ 7 ∷ [])
    -- C0{1} C1{0}
    ∷ (82 ∷ 80 ∷ 75 ∷ 1 ∷ 0 ∷ 0 ∷ 0 ∷ 0 ∷ 0 ∷ 0 ∷ 0 ∷ 0 ∷ 0 ∷ 2 ∷ 0 ∷ 4 ∷ 0 ∷ 0 ∷ 0 ∷ 0 ∷ 0 ∷ 0 ∷ 0 ∷ 2 ∷ 0 ∷ 1 ∷ 0 ∷ 1 ∷ 0 ∷ 1 ∷ 0 ∷ 0 ∷ [], 7 ∷ 7 ∷ 7 ∷ 7 ∷ 7 ∷ [])
    -- C0{1} F1{0}
    ∷ (82 ∷ 80 ∷ 75 ∷ 1 ∷ 0 ∷ 0 ∷ 0 ∷ 0 ∷ 0 ∷ 0 ∷ 0 ∷ 0 ∷ 0 ∷ 2 ∷ 0 ∷ 4 ∷ 0 ∷ 0 ∷ 0 ∷ 0 ∷ 64 ∷ 0 ∷ 0 ∷ 2 ∷ 0 ∷ 1 ∷ 0 ∷ 1 ∷ 0 ∷ 1 ∷ 0 ∷ 0 ∷ [], 7 ∷ 7 ∷ 7 ∷ 7 ∷ 7 ∷ [])
    -- F0{1} F1{0}
    ∷ (82 ∷ 80 ∷ 75 ∷ 1 ∷ 0 ∷ 0 ∷ 0 ∷ 0 ∷ 0 ∷ 0 ∷ 0 ∷ 0 ∷ 0 ∷ 2 ∷ 0 ∷ 4 ∷ 64 ∷ 0 ∷ 0 ∷ 0 ∷ 64 ∷ 0 ∷ 0 ∷ 2 ∷ 0 ∷ 1 ∷ 0 ∷ 1 ∷ 0 ∷ 1 ∷ 0 ∷ 0 ∷ [], 7 ∷ 7 ∷ 7 ∷ 7 ∷ 7 ∷ [])
    -- C0{1} F1{2} X2
    ∷ (82 ∷ 80 ∷ 75 ∷ 1 ∷ 0 ∷ 0 ∷ 0 ∷ 0 ∷ 0 ∷ 0 ∷ 0 ∷ 0 ∷ 0 ∷ 3 ∷ 0 ∷ 5 ∷ 0 ∷ 0 ∷ 0 ∷ 0 ∷ 64 ∷ 0 ∷ 0 ∷ 2 ∷ 128 ∷ 0 ∷ 0 ∷ 4 ∷ 0 ∷ 1 ∷ 0 ∷ 1 ∷ 0 ∷ 1 ∷ 0 ∷ 2 ∷ 0 ∷ 0 ∷ [], 7 ∷ 7 ∷ 7 ∷ 7 ∷ 7 ∷ 7 ∷ 7 ∷ [])
    -- F0 F1{2,3} F2{1} X3 C4{2}
    ∷ (82 ∷ 80 ∷ 75 ∷ 1 ∷ 0 ∷ 0 ∷ 0 ∷ 0 ∷ 0 ∷ 0 ∷ 0 ∷ 0 ∷ 0 ∷ 5 ∷ 0 ∷ 9 ∷ 64 ∷ 0 ∷ 0 ∷ 0 ∷ 64 ∷ 0 ∷ 0 ∷ 1 ∷ 64 ∷ 0 ∷ 0 ∷ 4 ∷ 128 ∷ 0 ∷ 0 ∷ 6 ∷ 0 ∷ 0 ∷ 0 ∷ 7 ∷ 0 ∷ 0 ∷ 0 ∷ 2 ∷ 0 ∷ 2 ∷ 0 ∷ 3 ∷ 0 ∷ 1 ∷ 0 ∷ 1 ∷ 0 ∷ 0 ∷ 0 ∷ 1 ∷ 0 ∷ 2 ∷ [], 7 ∷ 7 ∷ 7 ∷ 7 ∷ 7 ∷ 7 ∷ 7 ∷ 7 ∷ 7 ∷ 7 ∷ 7 ∷ [])
    ∷ []

pub worked : map ran cases ≡ (
    outcome all_listed (7 ∷ [])
    ∷ outcome (refusal ReferencesItself 0) (7 ∷ 7 ∷ 7 ∷ [])
    ∷ outcome (refusal OnLongerCycle 1) (7 ∷ 7 ∷ 7 ∷ 7 ∷ 7 ∷ [])
    ∷ outcome (refusal OnLongerCycle 0) (7 ∷ 7 ∷ 7 ∷ 7 ∷ 7 ∷ [])
    ∷ outcome all_listed (0 ∷ 1 ∷ 0 ∷ 0 ∷ 7 ∷ [])
    ∷ outcome (refusal ReachesContext 0) (7 ∷ 7 ∷ 7 ∷ 7 ∷ 7 ∷ 7 ∷ 7 ∷ [])
    ∷ outcome (refusal ReachesContext 4) (7 ∷ 7 ∷ 7 ∷ 7 ∷ 7 ∷ 7 ∷ 7 ∷ 7 ∷ 7 ∷ 7 ∷ 7 ∷ [])
    ∷ []
    )
unfolding ran cases order_of answered header_of needs in_limits counts_of starts_with byte_at word_at row32 value_row list_word list_len list_item items_of gather pick first walk any found first₅₀ first₅₁ first₅₂ answer meet meet_all enter reached follow follow_all leave strong_connect tarjan bytes_of written
worked = refl
