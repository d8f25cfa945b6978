use Rattle.pack.specs.Read.{byte_at}
use Rattle.pack.proofs.WordLaws.{joined}
use borrow.Author.Rules.{rules}
use Rattle.pack.proofs.bytes.word_inside.Goals as goal

pub returns : goal.returns
unfolding byte_at
returns c =
    joined _ _
    (record { same = c.from-first.ensures; small = search rules })
    (record { same = c.from-second.ensures; small = search rules })
