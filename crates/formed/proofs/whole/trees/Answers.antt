use Rattle.laws.proofs.Answers.{passed_on, went_on, gave_up}
use Rattle.laws.specs.Faults.{passes}
use Rattle.pack.proofs.CountLaws.{limited}
use Rattle.formed.specs.Formed.{trees_of}
use Rattle.formed.proofs.Ready.{at_first_test, past_first_test}
use mathlib.Core.Path.{ap, sym}
use Rattle.formed.proofs.whole.trees.Goals as goal

pub note_pack-requires : goal.note_pack-requires
note_pack-requires c = ((limited _ c.requires.0).expressions, c.empty-notes.ensures)

pub nodes-requires : goal.nodes-requires
nodes-requires c = at_first_test c.note_pack.ensures

pub nodes-requires-2 : goal.nodes-requires-2
nodes-requires-2 c = past_first_test _ c.note_pack.ensures c.requires.1 (sym (ap passes c.in_ok-nodes.ensures))

pub nodes-requires-3 : goal.nodes-requires-3
nodes-requires-3 c = past_first_test _ c.note_pack.ensures c.requires.1 (sym (ap passes c.in_ok-nodes.ensures))

pub returns-in_err-nodes : goal.returns-in_err-nodes
unfolding trees_of
returns-in_err-nodes c = gave_up _ _ (passed_on _ c.in_err-nodes.field-0.0 c.from_residual.ensures.1) c.in_err-nodes.ensures

pub returns-in_err-nodes-2 : goal.returns-in_err-nodes-2
unfolding trees_of
returns-in_err-nodes-2 c =
    went_on _ _ c.in_ok-nodes.ensures
    (gave_up _ _ (passed_on _ c.in_err-nodes-2.field-0.0 c.from_residual-in_err-nodes-2.ensures.1) c.in_err-nodes-2.ensures)

pub returns : goal.returns
unfolding trees_of
returns c = went_on _ _ c.in_ok-nodes.ensures (went_on _ _ c.in_ok-nodes-2.ensures c.nodes-3.ensures)
