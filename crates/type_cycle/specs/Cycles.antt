-- Module 3: "40 first, at the smallest definition with a variable in a field, looking into records but not into functions or arguments.
-- Then 41, at the smallest definition on a cycle of names."
use Rattle.std.specs.Prelude.{ℕ, zero, suc, Bool, true, ◌&&◌, not, List, leb}
use Rattle.laws.specs.declared.fault.Fault.TheVariants as fault
use Rattle.std.specs.Prelude.{Ok}
use Rattle.laws.specs.Choice.{pick}
use Rattle.laws.specs.First.{first}
use Rattle.laws.specs.Lists.{count}
use Rattle.laws.specs.Answers.{after}
use Rattle.laws.specs.Faults.{passes}
use Rattle.pack.specs.Answer.{Reading, refuse}
use Rattle.pack.specs.declared.counts.Counts.{Counts}
use Rattle.type_cycle.specs.Leads.{none_of, is_variable, types_in, names_in}

-- no variable in a field
unfoldable pub resolved : List ℕ → Counts → ℕ → Bool
resolved p c d = none_of (is_variable p) (types_in p c d)

-- from definition d to definition e by one step of names or more, where each name between them is below k
unfoldable pub leads : List ℕ → Counts → ℕ → ℕ → ℕ → Bool
leads p c zero d e = leb 1 (count e (names_in p c d))
leads p c (suc k) d e = let through = leads p c k d k && leads p c k k e in pick (leads p c k d e) true through

-- back to itself, through any names
unfoldable pub on_cycle : List ℕ → Counts → ℕ → Bool
on_cycle p c d = leads p c c.definitions d d

unfoldable pub unresolved_of : List ℕ → Counts → Reading
unresolved_of p c = first (resolved p c) (λ d. refuse fault.Unresolved d 0) (Ok c) 0 c.definitions

unfoldable pub cycle_of : List ℕ → Counts → Reading
cycle_of p c = first (λ d. not (on_cycle p c d)) (λ d. refuse fault.TypeCycle d 0) (Ok c) 0 c.definitions

unfoldable pub type_cycles_of : List ℕ → Counts → Reading
type_cycles_of p c = after passes (unresolved_of p c) (cycle_of p c)
