-- "Value: kind 2 .., zero 16, list 14 of the values it references." Refusals 10, 11 and 14.
use Rattle.std.specs.Prelude.{ℕ, List, eqb, Option}
use Rattle.laws.specs.declared.fault.Fault.{Fault}
use Rattle.pack.specs.Rows.{value_row}
use Rattle.pack.specs.declared.counts.Counts.{Counts}
use Rattle.lists.specs.declared.lists.Items.TheVariants.{Ids}
use Rattle.lists.specs.Lists.{items_fit}
use Rattle.lists.specs.Names.{items_rise}
use Rattle.rows.specs.Types.{fault_of}

unfoldable pub value_rule : List ℕ → Counts → ℕ → Option Fault
value_rule p c i =
    fault_of (eqb (value_row p c i).zero 0) (items_fit p c (Ids c.values) (value_row p c i).list)
    (items_rise p c (value_row p c i).list)
