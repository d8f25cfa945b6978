use Rattle.std.proofs.Common.{ℕ, not, ◌∙◌, refl, ap, rules, tests}
use Rattle.pack.specs.Lists.{list_len}
use Rattle.members.specs.Lookup.{name_at}
use Rattle.members.specs.Places.{any}
use Rattle.members.proofs.Counting.{count_filtered}
use Rattle.members.proofs.Counts.{tally_same}
use Rattle.arms.specs.Free.{arm_has}
use Rattle.arms.specs.Match.{missing_variants}
use Rattle.arms.proofs.Covering.{covered_told}
use Rattle.arms.proofs.arms.count_missing.Goals as goal

pub returns : goal.returns
unfolding missing_variants
returns c =
    let met = λ (k : ℕ). any (arm_has c.args.pack.now c.args.c c.args.arms (name_at c.args.pack.now c.args.c c.args.list k)) (list_len c.args.pack.now c.args.c c.args.arms) in
    count_filtered (λ (k : ℕ). not (met k)) c.list_len.ensures.same c.count.ensures.ran c.filter.ensures.source c.filter.ensures.closure (λ x b q k. search (rules, tests))
    ∙ tally_same (λ (k : ℕ). not (met k)) _ (λ k. ap not (covered_told _ _ _ _ c.requires.1 refl)) _
