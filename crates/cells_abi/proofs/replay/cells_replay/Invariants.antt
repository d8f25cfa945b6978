-- What is left leaves what the whole leaves.
use mathlib.Core.Path.{◌≡◌}
use lib.ListN.{length}
use Rattle.unionfind.specs.Cells.{Live}
use Rattle.cells_abi.specs.Script.{replay_of}
use Rattle.cells_abi.proofs.Replaying.{Left}
use Rattle.cells_abi.proofs.replay.cells_replay.Given as goal

abbrev pub invariant-loop-i : goal.invariant-loop-i
invariant-loop-i l =
    Left l.script l.ops l.i l.n l.cells l.answers (replay_of l.script l.ops l.initial.answers) × (Live l.n l.cells × (length l.answers ≡ length l.initial.answers))
