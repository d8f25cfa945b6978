use Rattle.pack.specs.Read.{word_at}
use Rattle.pack.proofs.Past.{word_past}
use mathlib.Core.Path.{sym}
use borrow.Author.Rules.{rules}
use Rattle.pack.proofs.bytes.word_at.Goals as goal

pub returns-else-pack-i-gt1 : goal.returns-else-pack-i-gt1
unfolding word_at
returns-else-pack-i-gt1 c = search rules

pub returns-else-i-pack : goal.returns-else-i-pack
returns-else-i-pack c = record { same = sym (word_past _ _ c.if-i-pack.false); small = search rules }

pub returns-then-pack-i-gt1 : goal.returns-then-pack-i-gt1
returns-then-pack-i-gt1 c = c.word_inside.ensures
