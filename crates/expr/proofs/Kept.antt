-- What is ready stays so: a law for each way in which a rule is put together, and for the steps of the layers below.
--     Keeps, KeepsType, RunKeeps           a rule that leaves the state ready where it is accepted
--     ran_keeps, types_keeps               a contract is met by the equation and the law of the rule
--     told_on, handed_on, typed_on         a refusal that a `?` hands on
--     after, after_type                    what the next call is given, from what the last one ensured and the match told
--     picks, lets, thens, givens, resolved the combinators; dones, refuses where a rule ends
--     fresh_keeps, unify_keeps             one fresh variable, and unify
-- Assumes nothing.
use mathlib.Core.Path.{◌≡◌, refl, sym, ap, subst, ◌∙◌}
use mathlib.Core.List.{List}
use mathlib.Core.Bool.{Bool, true, false}
use Prim.Native.Nat.{ℕ, ◌<◌, ◌≤◌}
use native.Mathlib.Omega.{arith}
use lib.Dec.{ltb}
use borrow.Author.Tests.{ltb-true, ltb-false}
use Rattle.laws.specs.Choice.{pick, letting}
use Rattle.laws.proofs.Choice.{by_test}
use Rattle.laws.specs.declared.refusal.Refusal.{Refusal}
use Rattle.unionfind.specs.Cells.{capacity, Live}
use Rattle.unionfind.specs.Codes.{own_code, tag_for, codes}
use Rattle.unionfind.specs.declared.codes.Kind.{Kind}
use Rattle.unionfind.specs.declared.codes.Kind.TheVariants.{Var, IntVar, FloatVar}
use Rattle.unionfind.proofs.States.{makes, makes_none}
use Rattle.unionfind.specs.Answers.{Answer}
use Rattle.unify.specs.Unify.{resolve_of, settled, Resolves, unify_answer, unify_cells}
use Rattle.unify.proofs.Resolving.{resolves}
use Rattle.unify.proofs.Unifying.{unifies}
use Rattle.report.specs.Report.{Held}
use Rattle.expr.specs.State.{State, Ans, Typing, st, ran, typed_as, with_cells, done, cont, ◌then◌, cont_with, ◌gives◌, resolving, fresh_type, step_for, unify_step, Step, Typed, expected}
use Rattle.expr.specs.Rules.{Run}
use Rattle.expr.specs.Ready.{Coded, Ready, After, AfterTyped, Ran, Types}
use Rattle.expr.proofs.Unmarked.{chosen, named}
use Rattle.expr.specs.declared.answer.Outcome.{Outcome}
use Rattle.std.proofs.Common.{Ok, Err}
use Rattle.std.specs.Prelude.{Result, IsErrAnd}
use Rattle.std.proofs.lemmas.Result.{err_from_is_err_and}

-- a rule's answer, from vars variables in use
pub record Keeps (vars : ℕ) (a : Ans) : Type 0 where
  pub kept : After vars a.step a.st

pub record KeepsType (vars : ℕ) (a : Typing) : Type 0 where
  pub kept : AfterTyped vars a.typed a.st

-- a checker of the parts
pub record RunKeeps (run : Run) : Type 0 where
  pub keeps : (id want vars : ℕ) (s : State) → Ready vars s → Coded vars want → Keeps vars (run id want vars s)

-- ---- contracts

-- a `?` hands a refusal on
pub told_on : {T : Type 0} (r : Result T Refusal) {f : Refusal} → IsErrAnd r (λ y. y ≡ f) → r ≡ Err f
told_on r q = let p = err_from_is_err_and r q in p.1 ∙ ap Err p.2

module _ {vars : ℕ} {c s w : List ℕ} where
  pub ran_keeps : {a : Ans} {r : Step} → Keeps vars a → ran r c s w ≡ a → Ran vars a r c s w
  ran_keeps {r = r} k e = let h : Keeps vars (ran r c s w) = rw e k in record { same = e; ready = h.kept }

  pub handed_on : {a : Ans} {r : Step} {f : Refusal} → IsErrAnd r (λ y. y ≡ f) → Ran vars a (Err f) c s w → Ran vars a r c s w
  handed_on {a = a} {r = r} q h = subst (λ (r : Step). Ran vars a r c s w) (sym (told_on r q)) h

  pub types_keeps : {a : Typing} {r : Typed} → KeepsType vars a → typed_as r c s w ≡ a → Types vars a r c s w
  types_keeps {r = r} k e = let h : KeepsType vars (typed_as r c s w) = rw e k in record { same = e; ready = h.kept }

  pub typed_on : {a : Typing} {r : Typed} {f : Refusal} → IsErrAnd r (λ y. y ≡ f) → Types vars a (Err f) c s w → Types vars a r c s w
  typed_on {a = a} {r = r} q h = subst (λ (r : Typed). Types vars a r c s w) (sym (told_on r q)) h

  pub after : {a : Ans} {r : Step} {o : Outcome} → Ran vars a r c s w → r ≡ Ok o → (vars ≤ o.vars) × Ready o.vars (st c s w)
  after {o = o} h e = let k : After vars (Ok o) (st c s w) = rw e at h.ready in k

  -- the variables in use, and that each note knows them, for the report
  pub held_after : {a : Ans} {r : Step} {o : Outcome} → Ran vars a r c s w → r ≡ Ok o → Held o.vars c w
  held_after h e = let k = (after h e).1 in record { live = k.live; known = λ i. (k.notes.each i).known }

  pub after_type : {a : Typing} {r : Typed} {x more : ℕ} → Types vars a r c s w → r ≡ Ok (expected x more) → (vars ≤ more) × (Ready more (st c s w) × Coded more x)
  after_type {x = x} {more = more} h e = let k : AfterTyped vars (Ok (expected x more)) (st c s w) = rw e at h.ready in k

-- ---- more variables in use

pub coded_more : {n m x : ℕ} → n ≤ m → Coded n x → Coded m x
coded_more h k = record { small = k.small; known = record { var = λ e. omega (arith, k.known.var e) } }

-- a fresh one changes the cells alone
pub ready_more : {n m : ℕ} {s : State} {l : List ℕ} → n ≤ m → Live m l → Ready n s → Ready m (with_cells l s)
ready_more h l r = record {
  live = l;
  slots = record { each = λ i. coded_more h (r.slots.each i) };
  notes = record { each = λ i. coded_more h (r.notes.each i) };
}

-- ---- combinators

module _ {n : ℕ} where
  pub dones : {d : Bool} {call : ℕ} {s : State} → Ready n s → Keeps n (done d call n s)
  dones h = record { kept = (omega arith, h) }

  pub refuses : {f : Refusal} {s : State} → Keeps n (record { step = Err f; st = s })
  refuses = record { kept = tt }

  pub picks : (b : Bool) {x y : Ans} → (b ≡ true → Keeps n x) → (b ≡ false → Keeps n y) → Keeps n (pick b x y)
  picks b f g = chosen (Keeps n) b f g

  pub lets : {A : Type 0} (a : A) (k : A → Ans) → Keeps n (k a) → Keeps n (letting a k)
  lets a k h = named (Keeps n) a k h

  -- from more variables in use
  pub keeps_less : {m : ℕ} {a : Ans} → n ≤ m → Keeps m a → Keeps n a
  keeps_less {m = m} {a = a} le h = record { kept = go a.step h.kept }
    where
      go : (r : Step) → After m r a.st → After n r a.st
      go (Ok o) k = (omega (arith, k.0), k.1)
      go (Err f) k = tt

  pub thens : {a : Ans} {k : Outcome → State → Ans} → Keeps n a → ((o : Outcome) (s : State) → n ≤ o.vars → Ready o.vars s → Keeps o.vars (k o s)) → Keeps n (a then k)
  unfolding ◌then◌
  thens {a = a} {k = k} h f = go a.step h.kept
    where
      go : (r : Step) → After n r a.st → Keeps n (cont r a.st k)
      go (Ok o) h = keeps_less h.0 (f o a.st h.0 h.1)
      go (Err e) h = refuses

  pub givens : {a : Typing} {k : ℕ → ℕ → State → Ans} → KeepsType n a
      → ((x m : ℕ) (s : State) → n ≤ m → Ready m s → Coded m x → Keeps m (k x m s)) → Keeps n (a gives k)
  unfolding ◌gives◌
  givens {a = a} {k = k} h f = go a.typed h.kept
    where
      go : (r : Typed) → AfterTyped n r a.st → Keeps n (cont_with r a.st k)
      go (Ok t) h = keeps_less h.0 (f t.code t.vars a.st h.0 h.1.0 h.1.1)
      go (Err e) h = refuses

  pub resolved : {x : ℕ} {s : State} {k : ℕ → State → Ans} → Ready n s → Coded n x → ((y : ℕ) (s' : State) → Ready n s' → Keeps n (k y s')) → Keeps n (resolving x s k)
  unfolding resolving
  resolved h c f = f _ _ (ready_more (omega arith) (resolves h.live c.known).live h)

-- ---- the steps of the layers below

-- a code that is a variable's own is a type's
own_small : (kind : Kind) (n : ℕ) → n < capacity → own_code (tag_for kind) n < codes
own_small Var n h = omega arith
own_small IntVar n h = omega arith
own_small FloatVar n h = omega arith

pub fresh_keeps : (kind : Kind) (vars : ℕ) (s : State) → Ready vars s → KeepsType vars (fresh_type kind vars s)
unfolding fresh_type
fresh_keeps kind vars s h =
    by_test (ltb vars capacity)
    (λ t.
    let l : vars < capacity = ltb-true vars capacity t in
    let m = makes h.live kind l in
    rw (← m.answer) (record { kept = (omega arith, (ready_more (omega arith) m.live.0 h, record { small = own_small kind vars l; known = m.live.1 })) }))
    (λ f. rw (← (makes_none h.live kind (ltb-false vars capacity f)).answer) (record { kept = tt }))

pub unify_keeps : (marks : List ℕ) (at left right vars : ℕ) (s : State) → Ready vars s → Coded vars left → Coded vars right → Keeps vars (unify_step marks at left right vars s)
unfolding unify_step
unify_keeps marks at left right vars s h a b = record { kept = go (unify_answer vars marks at s.cells left right) }
  where
    one : Resolves vars s.cells left (resolve_of s.cells left) (settled s.cells left)
    one = resolves h.live a.known

    live : Live vars (unify_cells vars marks s.cells left right)
    live =
        let u = unifies h.live a.known b.known one (resolves one.live b.known) marks at refl in
        rw u.cells at u.live

    go : (r : Answer) → After vars (step_for vars r) (with_cells (unify_cells vars marks s.cells left right) s)
    go (Ok x) = (omega arith, ready_more (omega arith) live h)
    go (Err f) = tt
