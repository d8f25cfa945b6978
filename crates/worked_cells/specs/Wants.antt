-- What each letter of the tables wants of two types that are unified: `=` nothing changes, `<` the left one is set to the right one, `>` the
-- right one to the left one, `.` 20 at the node that asks.
use Rattle.std.specs.Prelude.{ℕ, Option, Some, None}
use Rattle.laws.specs.Faults.{refusal}
use Rattle.laws.specs.declared.fault.Fault.TheVariants.{Mismatch}
use Rattle.laws.specs.declared.refusal.Refusal.{Refusal}
use Rattle.worked_cells.specs.declared.pairs.Pair.{Pair}
use Rattle.worked_cells.specs.declared.wants.Want.{Want}
use Rattle.worked_cells.specs.declared.wants.Want.TheVariants.{Same, Left, Right, Clash}

abbrev pub letter_of : Want → ℕ
letter_of Same = 61
letter_of Left = 60
letter_of Right = 62
letter_of Clash = 46

abbrev pub answer_of : Want → Option Refusal
answer_of Same = None
answer_of Left = None
answer_of Right = None
answer_of Clash = Some (refusal Mismatch 77 0)

abbrev pub changes_of : Want → ℕ
changes_of Same = 0
changes_of Left = 1
changes_of Right = 1
changes_of Clash = 0

abbrev pub pair : ℕ → ℕ → Pair
pair left right = record { left = left; right = right }

-- what the two stand for afterwards
abbrev pub after_of : Want → Pair → Pair
after_of Same p = p
after_of Left p = pair p.right p.right
after_of Right p = pair p.left p.left
after_of Clash p = p
