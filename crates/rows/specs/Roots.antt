-- "Root: body, return type, list of (slot, type), 14 each, zero 22." Refusals 10 and 11.
use Rattle.std.specs.Prelude.{ℕ, Bool, true, ◌&&◌, List, ltb, eqb, Option}
use Rattle.laws.specs.declared.fault.Fault.{Fault}
use Rattle.pack.specs.Rows.{root_row}
use Rattle.pack.specs.declared.counts.Counts.{Counts}
use Rattle.pack.specs.declared.rows.RootRow.{RootRow}
use Rattle.lists.specs.declared.lists.Items.TheVariants.{Pairs}
use Rattle.lists.specs.Limits.{slots}
use Rattle.lists.specs.Lists.{items_fit}
use Rattle.rows.specs.Types.{fault_of}

unfoldable pub root_in_range : List ℕ → Counts → RootRow → Bool
root_in_range p c r =
    ltb r.body c.expressions
    && ltb r.returns c.types
    && items_fit p c (Pairs slots c.types) r.list

unfoldable pub root_rule : List ℕ → Counts → ℕ → Option Fault
root_rule p c i = fault_of (eqb (root_row p c i).zero 0) (root_in_range p c (root_row p c i)) true
