use native.Mathlib.Omega.{arith}
use Rattle.structure.proofs.Spots.{none_held, within_is, held_pairs, held_types, span_pairs, span_types}
use Rattle.structure.proofs.lists.words_held.Goals as goal

pub returns-then-sort-eq1 : goal.returns-then-sort-eq1
returns-then-sort-eq1 c = record { empty = λ z. absurd (let q = c.if-sort-eq1.true in let e = rw z at q in omega (arith, e)); held = λ w. held_pairs _ c.args.s _ c.if-sort-eq1.true c.any_held.ensures }

pub returns-else-sort-eq1 : goal.returns-else-sort-eq1
returns-else-sort-eq1 c = record { empty = none_held _ _ _ c.any_held-else-sort-eq1.ensures; held = λ w. held_types _ c.args.s _ c.if-sort-eq1.false c.any_held-else-sort-eq1.ensures }

pub any_held-requires : goal.any_held-requires
any_held-requires c = let q = within_is c.args.s _ c.is_within.ensures c.if-is_within.true in let p = span_pairs _ c.if-sort-eq1.true in (omega (arith, q, p), omega (arith, q, p))

pub any_held-requires-else-sort-eq1 : goal.any_held-requires-else-sort-eq1
any_held-requires-else-sort-eq1 c = let q = within_is c.args.s _ c.is_within.ensures c.if-is_within.true in let p = span_types _ c.if-sort-eq1.false in (omega (arith, q, p), omega (arith, q, p))
