use Rattle.tarjan.proofs.Takes.{Taking}
use Rattle.tarjan.proofs.listing.Listing.take.Given as goal

abbrev pub invariant-loop-v : goal.invariant-loop-v
invariant-loop-v l = Taking l.members l.initial.self l.self l.v-index
