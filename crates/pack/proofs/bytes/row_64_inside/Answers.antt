use Rattle.pack.specs.Read.{row64}
use borrow.Author.Rules.{rules}
use Rattle.pack.proofs.bytes.row_64_inside.Goals as goal

pub returns : goal.returns
unfolding row64
returns c = search rules
