-- A well-formed pack's values can be ordered: its references are values of the pack, and there are at most 1,024.
-- So what is promised of ordering holds of every well-formed pack, with an area of at least 2v bytes.
-- Assumes nothing.
use Prim.Native.Nat.{ℕ, ◌*◌, ◌≤◌}
use mathlib.Core.Path.{◌≡◌}
use mathlib.Core.List.{List}
use lib.ListN.{length}
use Rattle.std.proofs.Common.{Ok}
use Rattle.pack.specs.declared.counts.Counts.{Counts}
use Rattle.rows.proofs.Promises.{refs_inside}
use Rattle.pack.proofs.CountLaws.{limited}
use Rattle.formed.specs.Formed.{formed_of}
use Rattle.formed.proofs.Promises.{WellFormed, well_formed}
use Rattle.tarjan.specs.Values.{InRange}
use Rattle.value_cycle.specs.Area.{Orders}
use Rattle.value_cycle.specs.Order.{order_of}
use Rattle.value_cycle.proofs.Promises.{Promised, promised}

in_range : {p : List ℕ} {c : Counts} → WellFormed p c → InRange p c
in_range {p} {c} w = record { few = (limited c w.headed.limits).values; fits = λ a l b m. refs_inside p c w.rows_passed a b l m }

pub orders : (p : List ℕ) (c : Counts) (area : List ℕ) → formed_of p ≡ Ok c → 2 * c.values ≤ length area → Orders p c area
orders p c area e l = record { in_range = in_range (well_formed p c e); long = l }

pub promised_of_formed : (p : List ℕ) (c : Counts) (area : List ℕ) → formed_of p ≡ Ok c → 2 * c.values ≤ length area → Promised p c area (order_of p c area)
promised_of_formed p c area e l = promised (orders p c area e l)
