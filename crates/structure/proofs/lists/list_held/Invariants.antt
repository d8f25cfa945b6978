-- `list_held`: no type of an item below m is marked.
use lib.Dec.{eqb}
use Rattle.laws.specs.First.{all}
use Rattle.laws.proofs.First.{AllLeft}
use Rattle.structure.specs.Lists.{len_at, part_at}
use Rattle.structure.specs.Table.{entry}
use Rattle.structure.proofs.lists.list_held.Given as goal

abbrev pub invariant-loop-m : goal.invariant-loop-m
invariant-loop-m l = AllLeft (λ k. eqb (entry l.marks (part_at l.pack l.c l.s k)) 0) l.m (len_at l.pack l.c l.s) (all (λ k. eqb (entry l.marks (part_at l.pack l.c l.s k)) 0) 0 (len_at l.pack l.c l.s))
