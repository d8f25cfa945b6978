-- The measures of the cycle.
use Prim.Native.Nat.{◌+◌, ◌*◌, ◌-◌}
use Rattle.tarjan.proofs.Follows.{Following}
use Rattle.tarjan.proofs.search.Search.+connect.Given as goal

abbrev pub decreases-follow : goal.decreases-follow
decreases-follow l = 3 * (1024 - l.self.now.discovered) + 1

abbrev pub decreases-follow_all : goal.decreases-follow_all
decreases-follow_all l = 3 * (1024 - l.self.now.discovered) + 2

abbrev pub decreases-strongly_connect : goal.decreases-strongly_connect
decreases-strongly_connect l = 3 * (1024 - l.self.now.discovered)

abbrev pub invariant-follow_all-loop-k : goal.invariant-follow_all-loop-k
invariant-follow_all-loop-k l = Following l.pack l.c l.s l.initial.self l.initial.low l.k-end l.self l.low l.k
