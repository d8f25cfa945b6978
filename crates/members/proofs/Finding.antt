-- Where a name stands in a list of pairs: at most at the end (member_high).
-- Assumes nothing.
use mathlib.Core.List.{List}
use mathlib.Core.Bool.{not}
use Prim.Native.Nat.{ℕ, ◌≤◌}
use native.Mathlib.Omega.{arith}
use lib.Dec.{eqb}
use Rattle.laws.proofs.First.{until_is}
use Rattle.pack.specs.Lists.{list_len, pair_of}
use Rattle.pack.specs.declared.counts.Counts.{Counts}
use Rattle.members.specs.Lookup.{name_at}

pub member_high : (p : List ℕ) (c : Counts) (list name : ℕ) → pair_of p c list name ≤ list_len p c list
unfolding pair_of
member_high p c list name = (until_is (λ k. not (eqb (name_at p c list k) name)) 0 (list_len p c list) (omega arith)).high
