use native.Mathlib.Omega.{arith}
use Rattle.unionfind.proofs.Steps.{onward, found_on, found_here}
use Rattle.unionfind.proofs.chain.+find_ref.Goals as goal

pub offset_bounds-cells-v : goal.offset_bounds-cells-v
offset_bounds-cells-v t c = omega (arith, c.requires.0)

pub bounds-cells-v : goal.bounds-cells-v
bounds-cells-v t c = c.requires.0

pub find_ref-requires : goal.find_ref-requires
find_ref-requires t c = onward c.requires.1 _ c.requires.0 _ c.is_link.ensures c.number_of.ensures c.decreases c.if-is_link.true

pub returns-then-is_link : goal.returns-then-is_link
returns-then-is_link t c = found_on c.requires.1 _ c.requires.0 _ c.is_link.ensures c.number_of.ensures c.if-is_link.true c.find_ref.ensures

pub returns-else-is_link : goal.returns-else-is_link
returns-else-is_link t c = found_here c.requires.1 _ c.requires.0 _ c.is_link.ensures c.if-is_link.false
