use Rattle.std.proofs.Common.{ℕ, not, rules, tests}
use Rattle.members.specs.Lookup.{name_at, is_member}
use Rattle.members.proofs.Counting.{count_filtered}
use Rattle.records.specs.Record.{strangers}
use Rattle.records.proofs.records.strangers.Goals as goal

pub returns : goal.returns
unfolding strangers
returns c =
    count_filtered (λ (j : ℕ). not (is_member c.args.pack.now c.args.c c.args.list (name_at c.args.pack.now c.args.c c.args.given j))) c.list_len.ensures.same c.count.ensures.ran c.filter.ensures.source c.filter.ensures.closure
    (λ x b q k. search (rules, tests))
