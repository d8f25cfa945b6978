use Rattle.pack.specs.Lists.{list_item, list_word}
use borrow.Author.Rules.{rules}
use Rattle.pack.proofs.lists.list_item.Goals as goal

pub returns : goal.returns
unfolding list_item list_word
returns c = record { same = rw (← c.lists_at.ensures.same) c.word_at.ensures.same; small = search rules }
