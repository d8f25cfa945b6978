use Rattle.structure.specs.Tree.{fork}
use Rattle.structure.proofs.Walking.{at_fork_is, at_small}
use Rattle.structure.proofs.finding.at_end.Goals as goal

pub returns-in-Some : goal.returns-in-Some
returns-in-Some c = fork _ (rw (← c.slot_at-t.ensures.same) c.in-Some.ensures) (at_small _ _ c.slot_at-t.ensures.same c.look_at-own.ensures) (at_fork_is _ _ _ _ _ c.slot_at-t.ensures.same c.look_at-own.ensures.same c.look_at.ensures.same c.member_key-key.ensures)
