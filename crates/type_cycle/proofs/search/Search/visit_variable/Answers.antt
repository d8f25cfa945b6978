use native.Mathlib.Omega.{arith}
use Rattle.type_cycle.specs.Search.{state}
use Rattle.type_cycle.proofs.StepLaws.{meets_variable}
use Rattle.type_cycle.proofs.search.Search.visit_variable.Goals as goal

pub returns : goal.returns
returns c = record { visited = λ p d. meets_variable (state c.args.self.now) (omega (arith, c.requires)) }
