use mathlib.Core.Path.{◌≡◌, ◌∙◌}
use Prim.Native.Nat.{◌-◌, min}
use Rattle.laws.proofs.Members.{by_le}
use Rattle.names.proofs.Items.{item_room, item_low, item_found, item_none}
use native.Mathlib.Omega.{arith}
use Rattle.names.proofs.search.item_from.Goals as goal

pub overflow_add-first : goal.overflow_add-first
overflow_add-first c = omega (arith, item_room _ _ _ c.requires.1 c.requires.3 c.seat_of-first.ensures, c.requires.0.sorted.few)

pub seat_from-requires : goal.seat_from-requires
seat_from-requires c = (c.requires.0, c.requires.2, item_room _ _ _ c.requires.1 c.requires.3 c.seat_of-first.ensures)

pub overflow_sub-k : goal.overflow_sub-k
overflow_sub-k c = omega (arith, item_low _ _ _ _ _ _ c.requires.1 c.requires.2 c.requires.3 c.seat_of-first.ensures c.seat_from.ensures)

pub returns : goal.returns
returns c =
    c.min.ensures
    ∙ by_le c.args.n (c.seat_from.result - c.seat_of-first.result)
    (λ h. let e : min (c.seat_from.result - c.seat_of-first.result) c.args.n ≡ c.args.n = omega arith in e ∙ item_none _ _ _ _ _ _ c.requires.1 c.requires.2 c.requires.3 c.seat_of-first.ensures c.seat_from.ensures h)
    (λ h. let e : min (c.seat_from.result - c.seat_of-first.result) c.args.n ≡ c.seat_from.result - c.seat_of-first.result = omega arith in e ∙ item_found _ _ _ _ _ _ c.requires.1 c.requires.2 c.requires.3 c.seat_of-first.ensures c.seat_from.ensures h)
