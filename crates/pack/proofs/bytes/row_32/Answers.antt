use Rattle.pack.specs.Read.{row32}
use Rattle.pack.proofs.Past.{row32_past}
use mathlib.Core.Path.{sym}
use borrow.Author.Rules.{rules}
use Rattle.pack.proofs.bytes.row_32.Goals as goal

pub returns-else-pack-i-gt3 : goal.returns-else-pack-i-gt3
unfolding row32
returns-else-pack-i-gt3 c = search rules

pub returns-else-i-pack : goal.returns-else-i-pack
returns-else-i-pack c = sym (row32_past _ _ c.if-i-pack.false)

pub returns-then-pack-i-gt3 : goal.returns-then-pack-i-gt3
returns-then-pack-i-gt3 c = c.row_32_inside.ensures
