use Rattle.pack.specs.Read.{row32}
use borrow.Author.Rules.{rules}
use Rattle.pack.proofs.bytes.row_32_inside.Goals as goal

pub returns : goal.returns
unfolding row32
returns c = search rules
