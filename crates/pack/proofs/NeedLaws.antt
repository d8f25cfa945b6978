-- A test that was asked with a `?`, and what follows of the tests after it.
--     met      it passed: what follows counts
--     unmet    it failed: its refusal stands
-- Assumes nothing.
use mathlib.Core.Path.{◌≡◌, ap}
use mathlib.Core.Bool.{Bool}
use Rattle.std.proofs.Common.{Ok, Err}
use Rattle.laws.specs.Faults.{need}
use Rattle.laws.specs.declared.fault.Fault.{Fault}
use Rattle.laws.specs.declared.refusal.Refusal.{Refusal}
use Rattle.laws.proofs.Answers.{is_met, is_unmet}
use Rattle.laws.proofs.Choice.{yes, no}
use Rattle.pack.specs.Answer.{Reading, needs}

module _ (ok : Bool) (fault : Fault) (rest : Reading) where
  pub met : {x : Unit {0}} {z : Reading} → Ok x ≡ need ok fault → z ≡ rest → z ≡ needs ok fault rest
  unfolding needs
  met e h = yes ok rest _ (is_met ok fault e) h

  pub unmet : {r : Refusal} → Err r ≡ need ok fault → ◌≡◌ {A = Reading} (Err r) (needs ok fault rest)
  unfolding needs
  unmet e = let f = is_unmet ok fault e in no ok rest _ f.0 (ap Err f.1)
