-- A store where there is room, and none past it.
use Rattle.laws.proofs.Bounded.{put_in, put_out}
use Rattle.cells_abi.proofs.replay.put_number.Goals as goal

pub returns-then-i-answers : goal.returns-then-i-answers
returns-then-i-answers c = put_in _ _ _ _ c.if-i-answers.true

pub returns-else-i-answers : goal.returns-else-i-answers
returns-else-i-answers c = put_out _ _ _ _ c.if-i-answers.false
