-- The laws of answers one after the other.
--     follows     an answer that passed: what follows counts
--     stands      an answer that did not: it stands
--     passed      where the whole passes, each part did, and the whole is the last
-- And of what a `?` passes on:
--     passed_on   the answer is the refusal itself
--     went_on     after an answer that passed, what follows
--     gave_up     an answer that did not pass
--     is_met      a test that was asked with a `?` and passed
--     is_unmet    one that failed, and the refusal that it gave
-- And of a rule that may find a fault:
--     at_fault    the refusal that it leads to
--     at_none     nothing is refused
-- Assumes nothing.
use mathlib.Core.Path.{◌≡◌, refl, sym, ap, ◌∙◌}
use mathlib.Core.Bool.{Bool, true, false}
use Prim.Native.Nat.{ℕ}
use Rattle.std.proofs.Common.{Result, Ok, Err, Option, Some, None}
use Rattle.std.proofs.lemmas.Result.{err_from_is_err_and}
use Rattle.std.specs.Result.{IsErrAnd}
use Rattle.laws.specs.Answers.{after}
use Rattle.laws.specs.Choice.{pick}
use Rattle.laws.specs.Faults.{need, refusal, passes, faulted}
use Rattle.laws.specs.declared.fault.Fault.{Fault}
use Rattle.laws.specs.declared.refusal.Refusal.{Refusal}
use Rattle.laws.proofs.Choice.{yes, no, by_test, fails}

module _ {A : Type 0} (passes : A → Bool) (a b : A) where
  pub follows : {z : A} → passes a ≡ true → z ≡ b → z ≡ after passes a b
  unfolding after
  follows t e = yes (passes a) b a t e

  pub stands : {z : A} → passes a ≡ false → z ≡ a → z ≡ after passes a b
  unfolding after
  stands f e = no (passes a) b a f e

  pub passed : passes (after passes a b) ≡ true → (passes a ≡ true) × (after passes a b ≡ b)
  passed t =
      by_test (passes a)
      (λ y. (y, sym (follows y refl)))
      (λ n. absurd (fails (sym t ∙ ap passes (sym (stands n refl)) ∙ n)))

-- ---- what a `?` passes on

pub passed_on : {T E : Type 0} (r : Result T E) (e : E) → IsErrAnd r (λ y. y ≡ e) → r ≡ Err e
passed_on r e h = let p = err_from_is_err_and r h in p.1 ∙ ap Err p.2

module _ {A : Type 0} (a b : Result A Refusal) where
  pub went_on : {x : A} {z : Result A Refusal} → Ok x ≡ a → z ≡ b → z ≡ after passes a b
  went_on e h = follows passes a b (sym (ap passes e)) h

  pub gave_up : {r : Refusal} {z : Result A Refusal} → z ≡ Err r → Err r ≡ a → z ≡ after passes a b
  gave_up h e = stands passes a b (sym (ap passes e)) (h ∙ e)

pub is_met : (ok : Bool) (fault : Fault) {x : Unit {0}} → Ok x ≡ need ok fault → ok ≡ true
unfolding pick
is_met true fault e = refl
is_met false fault e = absurd (fails (ap passes e))

pub is_unmet : (ok : Bool) (fault : Fault) {r : Refusal} → Err r ≡ need ok fault → (ok ≡ false) × (r ≡ refusal fault 0 0)
unfolding pick
is_unmet true fault e = absurd (fails (sym (ap passes e)))
is_unmet false fault e = (refl, cc)

-- ---- a rule's fault as an answer

module _ {A : Type 0} (rule : Option Fault) (place detail : ℕ) (x : A) where
  pub at_fault : {fault : Fault} → Some fault ≡ rule → (passes (faulted rule place detail (Ok x)) ≡ false) × (◌≡◌ {A = Result A Refusal} (Err (refusal fault place detail)) (faulted rule place detail (Ok x)))
  at_fault e = rw (sym e) (refl, refl)

  pub at_none : None ≡ rule → passes (faulted rule place detail (Ok x)) ≡ true
  at_none e = rw (sym e) refl
