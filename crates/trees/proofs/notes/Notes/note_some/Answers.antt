use Rattle.trees.proofs.HopLaws.{passed_one, passed_run}
use Rattle.trees.proofs.notes.Notes.note_some.Goals as goal

pub returns-then-run-eq0 : goal.returns-then-run-eq0
returns-then-run-eq0 c = passed_one c.requires.1 c.note_item.ensures.noted c.note_item.ensures.hops

pub returns-else-run-eq0 : goal.returns-else-run-eq0
returns-else-run-eq0 c = passed_run c.set_hop.ensures.noted c.set_hop.ensures.kept c.item_start-j.ensures c.reach-run.ensures c.if-run-eq0.false
