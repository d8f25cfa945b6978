-- `all_fit`: the lists of the rows below k fit.
use Rattle.laws.specs.First.{all}
use Rattle.laws.proofs.First.{AllLeft}
use Rattle.pack.specs.Rows.{type_row}
use Rattle.structure.specs.Lists.{slot_of, fits}
use Rattle.structure.proofs.numbering.all_fit.Given as goal

abbrev pub invariant-loop-k : goal.invariant-loop-k
invariant-loop-k l = AllLeft (λ i. fits l.pack l.c (slot_of (type_row l.pack i))) l.k l.n (all (λ i. fits l.pack l.c (slot_of (type_row l.pack i))) 0 l.n)
