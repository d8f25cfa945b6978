use Rattle.laws.proofs.First.{AllLeft}
use Rattle.pack.specs.Read.{byte_at, starts_with}
use lib.Dec.{eqb}
use lib.ListN.{length}
use Rattle.pack.proofs.bytes.starts_with.Given as goal

abbrev pub invariant-loop-i : goal.invariant-loop-i
invariant-loop-i l = AllLeft (λ k. eqb (byte_at l.pack k) (byte_at l.with k)) l.i (length l.with) (starts_with l.pack l.with)
