-- In plain words: what holds of two answers where a fault was found and where none was, or by what was decided, holds of the rule that asks.
--     by_found, by_decided       of one answer
--     both_found, both_recorded, both_decided     of the answers of two checkers; a fault that was found is one of module 4
-- Assumes nothing.
use mathlib.Core.Path.{◌≡◌, refl}
use Rattle.std.proofs.Common.{Option, Some, None, Result, Ok, Err}
use Rattle.laws.specs.declared.fault.Fault.{Fault}
use Rattle.operators.specs.Operators.{Plan}
use Rattle.operators.specs.declared.plan.OperatorPlan.{OperatorPlan}
use Rattle.records.specs.declared.answer.RecordFault.{RecordFault}
use Rattle.expr.specs.State.{Ans, refusing, deciding}
use Rattle.expr.proofs.Numbers.{LateFault, LateFound, LateRecord, LatePlan}

module _ {F : Type 0} (P : Ans → Type 0) (refused : F → Ans) (next : Ans) where
  pub by_found : (found : Option F) → (found ≡ None → P next) → ((f : F) → found ≡ Some f → P (refused f)) → P (refusing refused next found)
  unfolding refusing
  by_found None n s = n refl
  by_found (Some f) n s = s f refl

module _ {A : Type 0} (P : Ans → Type 0) (refused : Fault → Ans) (next : A → Ans) where
  pub by_decided : (decided : Result A Fault) → ((x : A) → decided ≡ Ok x → P (next x)) → ((f : Fault) → decided ≡ Err f → P (refused f)) → P (deciding refused next decided)
  unfolding deciding
  by_decided (Ok x) o r = o x refl
  by_decided (Err f) o r = r f refl

module _ (P : Ans → Ans → Type 0) where
  pub both_found : (refused also : Fault → Ans) (next later : Ans) (found : Option Fault) → LateFound found → P next later → ((f : Fault) → LateFault f → P (refused f) (also f)) → P (refusing refused next found) (refusing also later found)
  unfolding refusing
  both_found refused also next later None late n s = n
  both_found refused also next later (Some f) late n s = s f late

  pub both_recorded : (refused also : RecordFault → Ans) (next later : Ans) (found : Option RecordFault) → LateRecord found → P next later → ((f : RecordFault) → LateFault f.fault → P (refused f) (also f))
      → P (refusing refused next found) (refusing also later found)
  unfolding refusing
  both_recorded refused also next later None late n s = n
  both_recorded refused also next later (Some f) late n s = s f late

  pub both_decided : (refused also : Fault → Ans) (next later : OperatorPlan → Ans) (decided : Plan) → LatePlan decided → ((plan : OperatorPlan) → P (next plan) (later plan))
      → ((f : Fault) → LateFault f → P (refused f) (also f)) → P (deciding refused next decided) (deciding also later decided)
  unfolding deciding
  both_decided refused also next later (Ok plan) late o s = o plan
  both_decided refused also next later (Err f) late o s = s f late
