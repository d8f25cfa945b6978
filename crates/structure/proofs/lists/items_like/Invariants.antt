-- `items_like`: each item below m looks the same.
use Rattle.laws.specs.First.{all}
use Rattle.laws.proofs.First.{AllLeft}
use Rattle.structure.specs.Table.{entry, like_at}
use Rattle.structure.proofs.lists.items_like.Given as goal

abbrev pub invariant-loop-m : goal.invariant-loop-m
invariant-loop-m l = AllLeft (like_at l.pack l.c (entry l.same) l.s l.t) l.m l.n (all (like_at l.pack l.c (entry l.same) l.s l.t) 0 l.n)
