use mathlib.Core.Path.{refl}
use native.Mathlib.Omega.{arith}
use Rattle.laws.proofs.Bounded.{get_in}
use Rattle.laws.proofs.Told.{eq, ne}
use Rattle.structure.specs.Structure.{rows}
use Rattle.structure.proofs.Chaining.{walk_start, walk_on, walk_less, walk_found, key_sorted}
use Rattle.structure.proofs.buckets.Chains.row_from.Goals as goal

pub loop-row-init : goal.loop-row-init
loop-row-init c = rw c.requires.2 (walk_start c.requires.1.links (key_sorted _ _))

pub loop-row-preserved : goal.loop-row-preserved
loop-row-preserved c =
    walk_on c.requires.1.links (key_sorted _ _) _ c.loop-row.invariant c.in-Some.ensures c.requires.0 refl (ne (get_in rows _ _ (omega (arith, c.loop-row.invariant.high, c.requires.0, c.in-Some.ensures))) refl c.if-self-row.false)

pub loop-row-smaller : goal.loop-row-smaller
loop-row-smaller c = walk_less c.requires.1.links (key_sorted _ _) _ c.loop-row.invariant c.in-Some.ensures c.requires.0 refl

pub returns-then-self-row : goal.returns-then-self-row
returns-then-self-row c = walk_found c.loop-row.invariant c.in-Some.ensures (eq (get_in rows _ _ (omega (arith, c.loop-row.invariant.high, c.requires.0, c.in-Some.ensures))) refl c.if-self-row.true)
