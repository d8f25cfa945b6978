-- Within the limits no table has many rows, and the list words are few.
-- Assumes nothing.
use Prim.Native.Nat.{◌≤◌}
use mathlib.Core.Path.{◌≡◌}
use mathlib.Core.Bool.{true}
use borrow.Author.Tests.{leb-true}
use Rattle.laws.proofs.Choice.{and_both}
use Rattle.pack.specs.Counts.{in_limits}
use Rattle.pack.specs.declared.counts.Counts.{Counts}

-- the six limits
pub record Limited (c : Counts) : Type 0 where
  pub types : c.types ≤ 2048
  pub definitions : c.definitions ≤ 512
  pub expressions : c.expressions ≤ 4096
  pub roots : c.roots ≤ 256
  pub values : c.values ≤ 1024
  pub words : c.words ≤ 8184

pub limited : (c : Counts) → in_limits c ≡ true → Limited c
unfolding in_limits
limited c e =
    let all = and_both _ _ e in
    let four = and_both _ _ all.0 in
    let two = and_both _ _ four.0 in
    let trees = and_both _ _ four.1 in
    let lists = and_both _ _ all.1 in
    record {
      types = leb-true c.types 2048 two.0;
      definitions = leb-true c.definitions 512 two.1;
      expressions = leb-true c.expressions 4096 trees.0;
      roots = leb-true c.roots 256 trees.1;
      values = leb-true c.values 1024 lists.0;
      words = leb-true c.words 8184 lists.1;
    }
