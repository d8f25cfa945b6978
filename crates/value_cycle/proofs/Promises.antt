-- What is promised of ordering (demand 3), in one place, in terms of a pack's bytes and the area's.
-- "v references w" is read in the pack's value rows and lists, a kind in its value rows; a walk is one reference or more in a row.
-- Assumes nothing.
use Prim.Native.Nat.{ℕ, ◌*◌, ◌≤◌}
use mathlib.Core.Path.{◌≡◌, refl, sym, ap, subst, ◌∙◌}
use mathlib.Core.Logic.{◌↔◌}
use mathlib.Core.List.{List}
use native.Mathlib.Omega.{arith}
use lib.ListN.{length, get_or}
use Rattle.pack.specs.Named.{refs_of}
use Rattle.laws.specs.declared.refusal.Refusal.{Refusal}
use Rattle.pack.specs.declared.counts.Counts.{Counts}
use Rattle.components.specs.Account.{Lists, Orderable, Refuses, Says}
use Rattle.components.specs.Answers.{Answer, listed, refused}
use Rattle.components.proofs.Answers.{says, refuses_not}
use Rattle.components.proofs.Rooms.{full}
use Rattle.components.proofs.Unique.{one_listing, one_refusal}
use Rattle.tarjan.specs.Values.{kind_of}
use Rattle.value_cycle.specs.Area.{written, read_back, Orders}
use Rattle.value_cycle.specs.Order.{Order, all_listed, Outcome, refusal, answered, answer_of, order_of}
use Rattle.std.proofs.Common.{Ok, Err}
use Rattle.laws.specs.Faults.{refusal as refusal_of}
use Rattle.laws.specs.declared.fault.Fault.{Fault}
use Rattle.value_cycle.proofs.ReadBack.{read_written, written_rest, written_length}

-- what has to hold of an outcome, for the pack p with the counts c and the area that was lent
pub record Promised (p : List ℕ) (c : Counts) (area : List ℕ) (out : Outcome) : Type 0 where
  -- Ordering succeeds exactly if no constant has a walk to itself and none has a walk to a context value.
  pub succeeds : (out.answer ≡ all_listed) ↔ Orderable (kind_of p c) (refs_of p c) c.values
  -- Then the numbers in the area are a list in which each value stands exactly once; in which b stands before a if a has a walk to b
  -- and b none to a; and which is the classes of mutual reach one after the other, each as its first-discovered member finishes in a
  -- depth-first walk (values and references rising), with its members by falling discovery. (`Lists` of `components` has these parts.)
  pub lists : out.answer ≡ all_listed → Lists (kind_of p c) (refs_of p c) c.values (read_back out.area c.values)
  -- And every other byte of the area is as before.
  pub others : out.answer ≡ all_listed → (i : ℕ) → 2 * c.values ≤ i → get_or out.area i 0 ≡ get_or area i 0
  pub same_length : length out.area ≡ length area
  -- A refusal is 50 at the smallest constant that lists itself; else 51 at the first listed constant that has a walk to itself; else 52 at
  -- the smallest constant that has a walk to a context value. (`Refuses` of `components` has these parts.) Its detail is 0.
  pub refuses : (r : Refusal) → out.answer ≡ Err r → Refuses (kind_of p c) (refs_of p c) c.values r.fault r.place
  pub no_detail : (r : Refusal) → out.answer ≡ Err r → r.detail ≡ 0
  -- And the area is unchanged.
  pub unchanged : (r : Refusal) → out.answer ≡ Err r → out.area ≡ area

module _ {p : List ℕ} {c : Counts} {area : List ℕ} (o : Orders p c area) where
  by_answer : (a : Answer) → Says (kind_of p c) (refs_of p c) c.values a → Promised p c area (answered a area)
  unfolding answered
  by_answer (listed xs) t =
      let long : length xs ≡ c.values = full c.values xs t.0.once t.0.only in
      record {
        succeeds = (λ e. t.1, λ k. refl);
        lists = λ e. subst (Lists (kind_of p c) (refs_of p c) c.values) (sym (read_written xs area) ∙ ap (read_back (written xs area)) long) t.0;
        others = λ e i h. written_rest xs area i (omega arith);
        same_length = written_length xs area (omega (arith, o.long));
        refuses = λ r e. absurd (never r e);
        no_detail = λ r e. absurd (never r e);
        unchanged = λ r e. absurd (never r e);
      }
    where
      never : (r : Refusal) → ◌≡◌ {A = Order} all_listed (Err r) → ⊥
      never r e = let z : ◌≡◌ {A = ℕ} 0 1 = cc in omega arith
  by_answer (refused fault place) t =
      record {
        succeeds = (λ e. absurd (never e), λ k. absurd (refuses_not (kind_of p c) (refs_of p c) c.values o.in_range.fits fault place t k));
        lists = λ e. absurd (never e);
        others = λ e. absurd (never e);
        same_length = refl;
        refuses = λ r e. subst (λ (q : Refusal). Refuses (kind_of p c) (refs_of p c) c.values q.fault q.place) (same r e) t;
        no_detail = λ r e. ap (λ (q : Refusal). q.detail) (sym (same r e));
        unchanged = λ r e. refl;
      }
    where
      never : refusal fault place ≡ all_listed → ⊥
      never e = let z : ◌≡◌ {A = ℕ} 0 1 = cc in omega arith

      same : (r : Refusal) → refusal fault place ≡ Err r → ◌≡◌ {A = Refusal} (refusal_of fault place 0) r
      same r e = cc

  -- What the contract of `find_compilation_order` gives is as promised, for every pack whose values are in range and every area that is long enough.
  pub promised : Promised p c area (order_of p c area)
  unfolding order_of
  promised = by_answer (answer_of p c) (says (kind_of p c) (refs_of p c) c.values o.in_range.fits)

-- The promise leaves one outcome: whatever is as promised gives this answer, and lists the values in this order.
pub record SameOutcome (c : Counts) (out out' : Outcome) : Type 0 where
  pub answer_is : out.answer ≡ out'.answer
  pub order_is : out.answer ≡ all_listed → read_back out.area c.values ≡ read_back out'.area c.values

module _ {p : List ℕ} {c : Counts} {area : List ℕ} (o : Orders p c area) {out out' : Outcome} (s : Promised p c area out) (t : Promised p c area out') where
  same_refusal : (r q : Refusal) → out.answer ≡ Err r → out'.answer ≡ Err q → r ≡ q
  same_refusal r q e f =
      let a : ◌≡◌ {A = Answer} (refused r.fault r.place) (refused q.fault q.place) = one_refusal (kind_of p c) (refs_of p c) c.values o.in_range.fits (s.refuses r e) (t.refuses q f) in
      let n : r.fault ≡ q.fault = cc in
      let v : r.place ≡ q.place = cc in
      let d : r.detail ≡ q.detail = s.no_detail r e ∙ sym (t.no_detail q f) in
      ap (λ (x : Fault). refusal_of x r.place r.detail) n ∙ ap (λ (x : ℕ). refusal_of q.fault x r.detail) v ∙ ap (λ (x : ℕ). refusal_of q.fault q.place x) d

  by_answers : (a b : Order) → out.answer ≡ a → out'.answer ≡ b → SameOutcome c out out'
  by_answers (Ok x) (Ok y) e f = record { answer_is = e ∙ sym f; order_is = λ h. one_listing (kind_of p c) (refs_of p c) c.values o.in_range.fits (s.lists e) (t.lists f) }
  by_answers (Ok x) (Err r) e f = absurd (refuses_not (kind_of p c) (refs_of p c) c.values o.in_range.fits r.fault r.place (t.refuses r f) (s.succeeds.0 e))
  by_answers (Err r) (Ok x) e f = absurd (refuses_not (kind_of p c) (refs_of p c) c.values o.in_range.fits r.fault r.place (s.refuses r e) (t.succeeds.0 f))
  by_answers (Err r) (Err q) e f = record { answer_is = e ∙ ap Err (same_refusal r q e f) ∙ sym f; order_is = λ h. absurd (never (sym e ∙ h)) }
    where
      never : ◌≡◌ {A = Order} (Err r) all_listed → ⊥
      never k = let z : ◌≡◌ {A = ℕ} 0 1 = cc in omega arith

  pub one_outcome : SameOutcome c out out'
  one_outcome = by_answers out.answer out'.answer refl refl
