-- The laws of the ways in which a rule is put together from steps: each takes one step off the right side of a goal, so that the proof of
-- a return is the path that leads there.
--     goes, stops            a step that has to be accepted
--     typed_as_lem, typed_none   a type to check against
--     resolves_to            a type resolved
--     is, is_typed           the answer itself
--     met, made_type         unify and fresh as steps
--     none_found, fault_found, was_decided, was_refused    a fault that was found, or what was decided
-- Assumes nothing.
use mathlib.Core.Path.{◌≡◌, sym, ap, ◌∙◌}
use mathlib.Core.List.{List}
use Prim.Native.Nat.{ℕ}
use Rattle.laws.specs.declared.refusal.Refusal.{Refusal}
use Rattle.unionfind.specs.Answers.{Answer, Made, fresh_answer, Makes}
use Rattle.unionfind.specs.declared.codes.Kind.{Kind}
use Rattle.unify.specs.Unify.{resolve_of, Resolves, unify_answer, Unifies}
use Rattle.expr.specs.State.{State, Ans, Typing, st, ran, typed_as, cont, ◌then◌, cont_with, ◌gives◌, resolving, refusing, deciding, typed_made, fresh_type, step_for, unify_step, Step, Typed, expected}
use Rattle.expr.specs.declared.answer.Outcome.{Outcome}
use Rattle.std.proofs.Common.{Option, Some, None, Result, Ok, Err}
use Rattle.laws.specs.declared.fault.Fault.{Fault}

pub goes : {z a : Ans} {r : Step} {c s w : List ℕ} {o : Outcome} (k : Outcome → State → Ans)
    → ran r c s w ≡ a → r ≡ Ok o → z ≡ k o (st c s w) → z ≡ (a then k)
unfolding ◌then◌
goes {c = c} {s = s} {w = w} k h d e =
    e ∙ sym (ap (λ (r : Step). cont r (st c s w) k) d) ∙ ap (λ (a : Ans). cont a.step a.st k) h

pub stops : {a : Ans} {r : Step} {c s w : List ℕ} {f : Refusal} (k : Outcome → State → Ans)
    → ran r c s w ≡ a → r ≡ Err f → ran (Err f) c s w ≡ (a then k)
unfolding ◌then◌
stops {c = c} {s = s} {w = w} k h d =
    sym (ap (λ (r : Step). cont r (st c s w) k) d) ∙ ap (λ (a : Ans). cont a.step a.st k) h

pub typed_as_lem : {z : Ans} {a : Typing} {r : Typed} {c s w : List ℕ} {x more : ℕ} (k : ℕ → ℕ → State → Ans)
    → typed_as r c s w ≡ a → r ≡ Ok (expected x more) → z ≡ k x more (st c s w) → z ≡ (a gives k)
unfolding ◌gives◌
typed_as_lem {c = c} {s = s} {w = w} k h d e =
    e ∙ sym (ap (λ (r : Typed). cont_with r (st c s w) k) d) ∙ ap (λ (a : Typing). cont_with a.typed a.st k) h

pub typed_none : {a : Typing} {r : Typed} {c s w : List ℕ} {f : Refusal} (k : ℕ → ℕ → State → Ans)
    → typed_as r c s w ≡ a → r ≡ Err f → ran (Err f) c s w ≡ (a gives k)
unfolding ◌gives◌
typed_none {c = c} {s = s} {w = w} k h d =
    sym (ap (λ (r : Typed). cont_with r (st c s w) k) d) ∙ ap (λ (a : Typing). cont_with a.typed a.st k) h

pub resolves_to : {z : Ans} {n x r : ℕ} {c d s w : List ℕ} (k : ℕ → State → Ans) → Resolves n c x r d → z ≡ k r (st d s w) → z ≡ resolving x (st c s w) k
unfolding resolving
resolves_to {x = x} {c = c} {d = d} {s = s} {w = w} k h e =
    e ∙ ap (λ (y : ℕ). k y (st d s w)) h.answer ∙ ap (λ (l : List ℕ). k (resolve_of c x) (st l s w)) h.cells

pub is : {r q : Step} {c s w : List ℕ} → r ≡ q → ran r c s w ≡ ran q c s w
is {c = c} {s = s} {w = w} h = ap (λ (r : Step). ran r c s w) h

pub is_typed : {r q : Typed} {c s w : List ℕ} → r ≡ q → typed_as r c s w ≡ typed_as q c s w
is_typed {c = c} {s = s} {w = w} h = ap (λ (r : Typed). typed_as r c s w) h

-- ---- the layers below

pub met : {n at a b : ℕ} {marks xs ys : List ℕ} {u : Answer} → Unifies n marks at xs a b u ys → {r : Step} → r ≡ step_for n u → (s w : List ℕ)
    → ran r ys s w ≡ unify_step marks at a b n (st xs s w)
unfolding unify_step
met {n = n} {at = at} {a = a} {b = b} {marks = marks} {xs = xs} {ys = ys} h {r = r} e s w =
    ap (λ (r : Step). ran r ys s w) (e ∙ ap (step_for n) h.answer) ∙ ap (λ (l : List ℕ). ran (step_for n (unify_answer n marks at xs a b)) l s w) h.cells

pub made_type : {n : ℕ} {kind : Kind} {xs ys : List ℕ} {u : Made} → Makes n xs kind u ys → {r : Typed} → r ≡ typed_made n u → (s w : List ℕ)
    → typed_as r ys s w ≡ fresh_type kind n (st xs s w)
unfolding fresh_type
made_type {n = n} {kind = kind} {ys = ys} h {r = r} e s w =
    ap (λ (r : Typed). typed_as r ys s w) (e ∙ ap (typed_made n) h.answer) ∙ ap (λ (l : List ℕ). typed_as (typed_made n (fresh_answer n kind)) l s w) h.cells

-- ---- a fault that was found, or what was decided

module _ {F : Type 0} (refused : F → Ans) (next : Ans) {found : Option F} where
  pub none_found : {z : Ans} → found ≡ None → z ≡ next → z ≡ refusing refused next found
  unfolding refusing
  none_found e h = rw e h

  pub fault_found : {z : Ans} {f : F} → found ≡ Some f → z ≡ refused f → z ≡ refusing refused next found
  unfolding refusing
  fault_found e h = rw e h

module _ {A : Type 0} (refused : Fault → Ans) (next : A → Ans) {decided : Result A Fault} where
  pub was_decided : {z : Ans} {x : A} → decided ≡ Ok x → z ≡ next x → z ≡ deciding refused next decided
  unfolding deciding
  was_decided e h = rw e h

  pub was_refused : {z : Ans} {f : Fault} → decided ≡ Err f → z ≡ refused f → z ≡ deciding refused next decided
  unfolding deciding
  was_refused e h = rw e h
