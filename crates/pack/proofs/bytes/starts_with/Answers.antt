use Rattle.laws.proofs.First.{goes, stops, ends}
use Rattle.laws.proofs.Told.{eq, ne}
use Rattle.pack.specs.Read.{starts_with}
use mathlib.Core.Path.{refl}
use native.Mathlib.Omega.{arith}
use Rattle.pack.proofs.bytes.starts_with.Goals as goal

pub loop-i-init : goal.loop-i-init
unfolding starts_with
loop-i-init c = record { says = refl }

pub returns-then-byte_at : goal.returns-then-byte_at
returns-then-byte_at c = stops c.loop-i.invariant (omega arith) (ne c.byte_at.ensures.same c.byte_at-in-loop-i.ensures.same c.if-byte_at.true)

pub loop-i-preserved : goal.loop-i-preserved
loop-i-preserved c = goes c.loop-i.invariant (omega arith) (eq c.byte_at.ensures.same c.byte_at-in-loop-i.ensures.same c.if-byte_at.false)

pub returns : goal.returns
returns c = ends c.loop-i.invariant (omega arith)
