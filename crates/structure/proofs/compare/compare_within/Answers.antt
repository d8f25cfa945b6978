use native.Mathlib.Omega.{arith}
use Rattle.structure.proofs.Spots.{apart_pairs, apart_types, span_pairs, span_types}
use Rattle.structure.proofs.compare.compare_within.Goals as goal

pub returns-then-sort-eq1 : goal.returns-then-sort-eq1
returns-then-sort-eq1 c = apart_pairs c.if-sort-eq1.true c.pairs_apart.ensures

pub returns-else-sort-eq1 : goal.returns-else-sort-eq1
returns-else-sort-eq1 c = apart_types c.if-sort-eq1.false c.types_apart.ensures

pub pairs_apart-requires : goal.pairs_apart-requires
pairs_apart-requires c = (omega (arith, c.requires.1, span_pairs _ c.if-sort-eq1.true), omega (arith, c.requires.2, span_pairs _ c.if-sort-eq1.true))

pub types_apart-requires : goal.types_apart-requires
types_apart-requires c = (omega (arith, c.requires.1, span_types _ c.if-sort-eq1.false), omega (arith, c.requires.2, span_types _ c.if-sort-eq1.false))
