use Rattle.words.proofs.Writing.{seen_written, unseen_written}
use Rattle.words.proofs.nodes.write_node.Goals as goal

pub returns-then-is_seen : goal.returns-then-is_seen
returns-then-is_seen c = seen_written c.requires.0 _ _ _ c.is_seen.ensures c.if-is_seen.true c.word_of-word.ensures c.write_word.ensures

pub returns-else-is_seen : goal.returns-else-is_seen
returns-else-is_seen c = unseen_written c.requires.0 _ _ _ c.is_seen.ensures c.if-is_seen.false
