-- Of the words below m, as many name a marked type as were counted.
use Prim.Native.Nat.{◌+◌, ◌*◌, ◌%◌}
use lib.Dec.{eqb}
use Rattle.laws.specs.First.{all}
use Rattle.laws.specs.Bounded.{get}
use Rattle.structure.specs.Words.{looks}
use Rattle.structure.proofs.Counting.{Counted}
use Rattle.structure.proofs.lists.run_held.Given as goal

abbrev pub invariant-loop-m : goal.invariant-loop-m
invariant-loop-m g l = Counted (λ k. eqb (get looks l.look (l.a + g.row.STEP * k) % 2) 0) l.m l.n (all (λ k. eqb (get looks l.look (l.a + g.row.STEP * k) % 2) 0) 0 l.n) l.odd
