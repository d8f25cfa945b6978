-- No row from the link on has the key.
use Rattle.structure.specs.Table.{entry, has_key}
use Rattle.structure.specs.Buckets.{bucket_of}
use Rattle.structure.proofs.Chaining.{Walk}
use Rattle.structure.proofs.buckets.Chains.row_from.Given as goal

abbrev pub invariant-loop-row : goal.invariant-loop-row
invariant-loop-row l = Walk (has_key l.self.keys l.key) (entry l.self.keys) (bucket_of l.key) l.i l.link

abbrev pub decreases-loop-row : goal.decreases-loop-row
decreases-loop-row l = l.link
