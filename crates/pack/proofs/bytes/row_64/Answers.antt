use Rattle.pack.specs.Read.{row64}
use Rattle.pack.proofs.Past.{row64_past}
use mathlib.Core.Path.{sym}
use borrow.Author.Rules.{rules}
use Rattle.pack.proofs.bytes.row_64.Goals as goal

pub returns-else-pack-i-gt7 : goal.returns-else-pack-i-gt7
unfolding row64
returns-else-pack-i-gt7 c = search rules

pub returns-else-i-pack : goal.returns-else-i-pack
returns-else-i-pack c = sym (row64_past _ _ c.if-i-pack.false)

pub returns-then-pack-i-gt7 : goal.returns-then-pack-i-gt7
returns-then-pack-i-gt7 c = c.row_64_inside.ensures
