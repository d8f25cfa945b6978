use native.Mathlib.Omega.{arith}
use Rattle.unionfind.proofs.Steps.{onward, passes_self, passes_on, passes_not}
use Rattle.unionfind.proofs.chain.+passes.Goals as goal

pub returns-then-w-v : goal.returns-then-w-v
returns-then-w-v t c = passes_self c.requires.1 _ _ c.requires.0 c.if-w-v.true

pub offset_bounds-cells-w : goal.offset_bounds-cells-w
offset_bounds-cells-w t c = omega (arith, c.requires.0)

pub bounds-cells-w : goal.bounds-cells-w
bounds-cells-w t c = c.requires.0

pub passes-requires : goal.passes-requires
passes-requires t c = onward c.requires.1 _ c.requires.0 _ c.is_link.ensures c.number_of.ensures c.decreases c.if-is_link.true

pub returns-then-is_link : goal.returns-then-is_link
returns-then-is_link t c = passes_on c.requires.1 _ c.requires.0 _ c.is_link.ensures c.number_of.ensures _ c.if-w-v.false c.if-is_link.true c.passes.ensures

pub returns-else-is_link : goal.returns-else-is_link
returns-else-is_link t c = passes_not c.requires.1 _ c.requires.0 _ c.is_link.ensures _ c.if-w-v.false c.if-is_link.false
