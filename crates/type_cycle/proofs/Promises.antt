-- What module 3 promises of every pack whose rows have no fault, in words that compute nothing.
--     on_cycle_lem, cycled        a definition is on a cycle exactly if it has a walk of one or more steps of names to itself
--     unresolved_is, is_unresolved   it is not resolved exactly if a field holds a variable
--     says                    the answer is 40 at the smallest definition with a variable in a field; else 41 at the smallest that has a walk to
--                             itself; else the counts
--     only                    and that is the only such answer
-- Assumes nothing.
use Prim.Native.Nat.{ℕ, ◌<◌}
use mathlib.Core.Path.{◌≡◌, refl, sym, ap, ◌∙◌}
use mathlib.Core.Logic.{◌⊎◌, inl, inr, ⊎_elim}
use mathlib.Core.Bool.{Bool, true, false, not}
use mathlib.Core.List.{List}
use native.Mathlib.Omega.{arith}
use lib.Dec.{leb, ltb}
use borrow.Author.Tests.{leb-true, ltb-true, ltb-false, not-true, not-false}
use Rattle.laws.specs.declared.fault.Fault.TheVariants as fault
use Rattle.std.proofs.Common.{Ok}
use Rattle.laws.specs.First.{first, until}
use Rattle.laws.proofs.Choice.{by_test, fails, and_both}
use Rattle.laws.proofs.First.{at_first, none_is, until_is, Until}
use Rattle.laws.proofs.Answers.{follows, stands}
use Rattle.laws.specs.Faults.{passes}
use Rattle.pack.specs.Answer.{Reading, refuse}
use Rattle.pack.specs.Counts.{in_limits}
use Rattle.pack.specs.Rows.{type_row}
use Rattle.pack.specs.Named.{field_types_of}
use Rattle.pack.specs.declared.counts.Counts.{Counts}
use Rattle.rows.specs.Tables.{rows_of}
use Rattle.type_cycle.specs.Leads.{over, is_variable, inside, types_in}
use Rattle.type_cycle.specs.Cycles.{resolved, on_cycle, unresolved_of, cycle_of, type_cycles_of}
use Rattle.type_cycle.specs.Walks.{Walk, Unresolved, First, None, Says, unresolved, cyclic, neither}
use Rattle.type_cycle.specs.Order.{Good}
use Rattle.type_cycle.proofs.Ready.{good}
use Rattle.type_cycle.proofs.LeadLaws.{over_in, in_over, none_false, some_such, inside_held, held_inside, variable_kind}
use Rattle.type_cycle.proofs.WalkLaws.{leads_walk, walk_leads}

-- ---- the first place that fails

record Fails {A : Type 0} (ok : ℕ → Bool) (fault : ℕ → A) (none : A) (n : ℕ) : Type 0 where
  at : ℕ
  inside : at < n
  wrong : ok at ≡ false
  right : (k : ℕ) → k < at → ok k ≡ true
  is : first ok fault none 0 n ≡ fault at

record Right {A : Type 0} (ok : ℕ → Bool) (fault : ℕ → A) (none : A) (n : ℕ) : Type 0 where
  right : (k : ℕ) → k < n → ok k ≡ true
  is : first ok fault none 0 n ≡ none

either : {A : Type 0} (ok : ℕ → Bool) (fault : ℕ → A) (none : A) (n : ℕ) → Fails ok fault none n ⊎ Right ok fault none n
either ok fault none n =
    by_test (ltb (until ok 0 n) n)
    (λ t.
    let l = ltb-true (until ok 0 n) n t in
    inl (record {
      at = until ok 0 n;
      inside = l;
      wrong = u.wrong l;
      right = λ k h. u.right k (omega arith) h;
      is = at_first ok fault none 0 (until ok 0 n) n (omega arith) l (λ k a b. u.right k a b) (u.wrong l);
    }))
    (λ t.
    let l = ltb-false (until ok 0 n) n t in
    inr (record { right = λ k h. u.right k (omega arith) (omega arith); is = none_is ok fault none 0 n (λ k a b. u.right k a (omega arith)) }))
  where
    u : Until ok 0 n (until ok 0 n)
    u = until_is ok 0 n (omega arith)

-- ---- the two tests

module _ {p : List ℕ} {c : Counts} (g : Good p c) (d : ℕ) (l : d < c.definitions) where
  pub on_cycle_lem : on_cycle p c d ≡ true → Walk p c d d
  unfolding on_cycle
  on_cycle_lem e = leads_walk p c c.definitions d d e

  pub cycled : Walk p c d d → on_cycle p c d ≡ true
  unfolding on_cycle
  cycled w = walk_leads g w l

  pub unresolved_is : resolved p c d ≡ false → Unresolved p c d
  unfolding resolved types_in
  unresolved_is e =
      let r = some_such (is_variable p) (over (inside p c c.types) (field_types_of p c d)) e in
      let q = over_in r.0 (inside p c c.types) (field_types_of p c d) r.1 in
      let b = and_both (leb 7 (type_row p r.0).kind) (leb (type_row p r.0).kind 10) r.2 in
      record {
        field_type = q.0;
        in_fields = q.1;
        row = r.0;
        held = inside_held p c c.types q.0 r.0 q.2;
        low = leb-true 7 (type_row p r.0).kind b.0;
        high = leb-true (type_row p r.0).kind 10 b.1;
      }

  pub is_unresolved : Unresolved p c d → resolved p c d ≡ false
  unfolding resolved types_in
  is_unresolved u =
      let k = (g.ready.fields d l).below u.field_type u.in_fields in
      none_false (is_variable p) (over (inside p c c.types) (field_types_of p c d)) u.row
      (in_over u.row u.field_type (inside p c c.types) (field_types_of p c d) u.in_fields (held_inside g u.held k c.types k))
      (variable_kind p u.row u.low u.high)

-- ---- the answer

module _ (p : List ℕ) (c : Counts) (few : in_limits c ≡ true) (o : passes (rows_of p c) ≡ true) where
  g : Good p c
  g = good p c few o

  resolved_not : (d : ℕ) → d < c.definitions → resolved p c d ≡ true → Unresolved p c d → ⊥
  resolved_not d l e u = fails (sym e ∙ is_unresolved g d l u)

  cycled_not : (d : ℕ) → d < c.definitions → not (on_cycle p c d) ≡ true → Walk p c d d → ⊥
  cycled_not d l e w = fails (sym (cycled g d l w) ∙ not-true (on_cycle p c d) e)

  cycles_say : None c (Unresolved p c) → passes (unresolved_of p c) ≡ true → Says p c (type_cycles_of p c)
  unfolding cycle_of type_cycles_of
  cycles_say n e =
      ⊎_elim
      (λ f.
      cyclic f.at n
      (record {
        inside = f.inside;
        holds = on_cycle_lem g f.at f.inside (not-false (on_cycle p c f.at) f.wrong);
        smallest = λ k h w. cycled_not k (omega (arith, f.inside)) (f.right k h) w;
      })
      (sym (follows passes (unresolved_of p c) (cycle_of p c) e refl) ∙ f.is))
      (λ r. neither n (record { never = λ d l w. cycled_not d l (r.right d l) w }) (sym (follows passes (unresolved_of p c) (cycle_of p c) e refl) ∙ r.is))
      (either (λ d. not (on_cycle p c d)) (λ d. refuse fault.TypeCycle d 0) (Ok c) c.definitions)

  pub says : Says p c (type_cycles_of p c)
  unfolding unresolved_of
  says =
      ⊎_elim
      (λ (f : Fails (resolved p c) (λ d. refuse fault.Unresolved d 0) (Ok c) c.definitions).
      unresolved f.at
      (record {
        inside = f.inside;
        holds = unresolved_is g f.at f.inside f.wrong;
        smallest = λ k h u. resolved_not k (omega (arith, f.inside)) (f.right k h) u;
      })
      (unfold type_cycles_of in sym (stands passes (unresolved_of p c) (cycle_of p c) (ap passes f.is) refl) ∙ f.is))
      (λ r. cycles_say (record { never = λ d l u. resolved_not d l (r.right d l) u }) (ap passes r.is))
      (either (resolved p c) (λ d. refuse fault.Unresolved d 0) (Ok c) c.definitions)

-- the smallest is one
same_first : {c : Counts} {P : ℕ → Type 0} (d e : ℕ) → First c P d → First c P e → d ≡ e
same_first d e a b =
    by_test (ltb d e)
    (λ t. absurd (b.smallest d (ltb-true d e t) a.holds))
    (λ t.
    by_test (ltb e d)
    (λ s. absurd (a.smallest e (ltb-true e d s) b.holds))
    (λ s. omega (arith, ltb-false d e t, ltb-false e d s)))

not_both : {c : Counts} {P : ℕ → Type 0} (d : ℕ) → First c P d → None c P → ⊥
not_both d a n = n.never d a.inside a.holds

pub only : {p : List ℕ} {c : Counts} {r q : Reading} → Says p c r → Says p c q → r ≡ q
only (unresolved d a e) (unresolved b f h) = e ∙ ap (λ (k : ℕ). refuse fault.Unresolved k 0) (same_first d b a f) ∙ sym h
only (unresolved d a e) (cyclic b n f h) = absurd (not_both d a n)
only (unresolved d a e) (neither n m h) = absurd (not_both d a n)
only (cyclic d n a e) (unresolved b f h) = absurd (not_both b f n)
only (cyclic d n a e) (cyclic b m f h) = e ∙ ap (λ (k : ℕ). refuse fault.TypeCycle k 0) (same_first d b a f) ∙ sym h
only (cyclic d n a e) (neither m f h) = absurd (not_both d a f)
only (neither n m e) (unresolved b f h) = absurd (not_both b f n)
only (neither n m e) (cyclic b k f h) = absurd (not_both b f m)
only (neither n m e) (neither k f h) = e ∙ sym h
