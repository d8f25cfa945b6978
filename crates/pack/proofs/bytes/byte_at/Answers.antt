use Rattle.pack.specs.Read.{byte_at}
use Rattle.pack.proofs.Past.{byte_past}
use mathlib.Core.Path.{sym}
use borrow.Author.Rules.{rules}
use Rattle.pack.proofs.bytes.byte_at.Goals as goal

pub returns-then-i-pack : goal.returns-then-i-pack
unfolding byte_at
returns-then-i-pack c = search rules

pub returns-else-i-pack : goal.returns-else-i-pack
returns-else-i-pack c = record { same = sym (byte_past _ _ c.if-i-pack.false); small = search rules }
