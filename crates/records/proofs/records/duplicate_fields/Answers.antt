use Rattle.std.proofs.Common.{ℕ, ◌&&◌, rules, tests}
use Rattle.members.specs.Lookup.{name_at, is_member}
use Rattle.members.proofs.Counting.{count_filtered}
use Rattle.records.specs.Record.{duplicate_fields, named_before}
use Rattle.records.proofs.records.duplicate_fields.Goals as goal

pub returns : goal.returns
unfolding duplicate_fields
returns c =
    count_filtered (λ (j : ℕ). is_member c.args.pack.now c.args.c c.args.list (name_at c.args.pack.now c.args.c c.args.fields j) && named_before c.args.pack.now c.args.c c.args.fields j)
    c.list_len.ensures.same c.count.ensures.ran c.filter.ensures.source c.filter.ensures.closure (λ x b q k. search (rules, tests))
