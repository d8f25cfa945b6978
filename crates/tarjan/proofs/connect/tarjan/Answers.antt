use Rattle.tarjan.proofs.Follows.{run_start, run_turn, run_end}
use Rattle.tarjan.proofs.connect.tarjan.Goals as goal

pub loop-v-init : goal.loop-v-init
loop-v-init c = run_start c.requires c.empty-search.ensures

pub follow-low-requires : goal.follow-low-requires
follow-low-requires c = (c.loop-v-test.true, (c.loop-v.invariant.now_at, c.loop-v.invariant.holds))

pub loop-v-preserved : goal.loop-v-preserved
loop-v-preserved c = run_turn c.loop-v.invariant c.loop-v-test.true c.follow-low.ensures.gives

pub returns : goal.returns
returns c = run_end c.loop-v.invariant c.loop-v-test.false
