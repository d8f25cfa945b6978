use Rattle.std.proofs.Common.{rules, tests, arith, refl, ◌+◌, ◌*◌}
use Rattle.std.proofs.lemmas.Iterator.{YieldsList-from_range}
use Rattle.std.proofs.lemmas.Iterator.Search.{any_from_yields_List}
use Rattle.members.specs.Marks.{is_marked, any_field_marked}
use Rattle.pack.specs.Lists.{list_item}
use Rattle.members.proofs.Counting.{any_listed}
use Rattle.members.proofs.marks.any_field_marked.Goals as goal

pub returns : goal.returns
unfolding any_field_marked
returns c =
    any_listed _ c.list_len.ensures.same
    (any_from_yields_List (λ k. is_marked c.args.marks.now (list_item c.args.pack.now c.args.c c.args.list (2 * k + 1))) _ _ _ c.any.ensures.ran (YieldsList-from_range 0 c.list_len.result c.list_len.result refl (omega arith)) (λ x b q k. search (rules, tests)))
