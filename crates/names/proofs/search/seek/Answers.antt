-- The seats of one key rise, so the library's search by halves finds the first that is not below x.
use Rattle.std.proofs.Common.{rules}
use Rattle.std.proofs.lemmas.List.Sorted.{IsPartitionPoint-from_clause, IsPartitionedBy-ltb}
use lib.Dec.{ltb}
use Rattle.names.proofs.Seeking.{seats_rise, seek_ends}
use Rattle.names.proofs.search.seek.Goals as goal

pub returns : goal.returns
returns c =
    let parted = IsPartitionedBy-ltb (λ y. y) _ c.args.x (seats_rise c.requires c.told-names) in
    seek_ends c.requires c.told-names c.args.x c.partition_point-below.ensures.bound
    (IsPartitionPoint-from_clause (λ y. ltb y c.args.x) _ _ c.partition_point-below.ensures.partitioned parted (λ a r f' k. search rules))
