-- The measure is how many bytes are left: a case has some.
use Rattle.std.proofs.Common.{length}
use Rattle.replay.proofs.run.run_in.Given as goal

abbrev pub decreases-loop-rest : goal.decreases-loop-rest
decreases-loop-rest g l = length l.rest
