-- What the program's verdict says: it is what the entries answer on the same pack, asked one after the other.
--     entries_say     the verdict's case, and each entry's answer with it
-- Assumes nothing.
use Prim.Native.Nat.{ℕ, ◌*◌, ◌≤◌, ◌<◌}
use mathlib.Core.Path.{◌≡◌, refl, sym, ap, subst, ◌∙◌}
use mathlib.Core.Bool.{Bool, true}
use mathlib.Core.List.{List}
use native.Mathlib.Omega.{arith}
use lib.Dec.{ltb}
use lib.ListN.{length}
use borrow.Author.Tests.{ltb-true, ltb-false}
use Rattle.laws.specs.First.{until}
use Rattle.laws.specs.Faults.{passes}
use Rattle.laws.proofs.Choice.{by_test, fails}
use Rattle.laws.proofs.First.{each, at_first, none_is, until_is, Until}
use Rattle.pack.specs.declared.counts.Counts.{Counts}
use Rattle.laws.specs.declared.refusal.Refusal.{Refusal}
use Rattle.formed.specs.Formed.{formed_of}
use Rattle.expr.specs.Root.{root_answer, Checked}
use Rattle.value_cycle.specs.Order.{Order, order_of as listing_of}
use Rattle.entries.specs.Answers.{Told, Result, result, report, refusal, answer_told}
use Rattle.entries.specs.Types.{types_answer, types_of}
use Rattle.entries.specs.Root.{root_of}
use Rattle.entries.specs.Order.{order_result, order_of}
use Rattle.entries.proofs.ReadyLaws.{by_reading, types_formed, formed_ready}
use Rattle.entries.proofs.Promises.{order_goes, root_goes}
use Rattle.check_pack.specs.Whole.{Whole, order_verdict, roots_answer, after_roots, roots_part, whole_of}
use Rattle.check_pack.specs.declared.whole.Verdict.{Verdict}
use Rattle.check_pack.specs.declared.whole.Verdict.TheVariants.{NoTypes, NoRoot, NoOrder, Passed}
use Rattle.check_pack.proofs.WholeLaws.{types_pass, types_stop, has_room}
use Rattle.std.proofs.Common.{Ok, Err}

-- the entry's answer to root i, whatever the area is, if it has room for the words of c's expressions
pub record RootSays (p : List ℕ) (c : Counts) (i : ℕ) (t : Told) : Type 0 where
  pub says : (area : List ℕ) → 4 * c.expressions ≤ length area → (root_of p i area).answer ≡ t

pub record RootsSay (p : List ℕ) (c : Counts) (below : ℕ) : Type 0 where
  pub each : (i : ℕ) → i < below → RootSays p c i report

-- the first root that is refused
pub record FirstRefused (p : List ℕ) (c : Counts) (r : Refusal) : Type 0 where
  pub root : ℕ
  pub inside : root < c.roots
  pub refused : RootSays p c root (refusal r)
  pub before : RootsSay p c root

-- What the entries answer, by the case of the verdict; `after` is the area after it.
pub data EntriesSay (p area after : List ℕ) : Verdict → Type 0 where
  -- types are refused
  no_types : (r : Refusal) → types_of p ≡ refusal r → EntriesSay p area after (NoTypes r)
  -- types pass, and the first root that is refused is refused so
  no_root : (c : Counts) (r : Refusal) → types_of p ≡ report → FirstRefused p c r → EntriesSay p area after (NoRoot r)
  -- types and all roots pass, and the order is refused
  no_order : (c : Counts) (r : Refusal) → types_of p ≡ report → RootsSay p c c.roots → order_of p area ≡ result (refusal r) after → EntriesSay p area after (NoOrder c r)
  -- all pass, and the area is as the order leaves it
  passed : (c : Counts) → types_of p ≡ report → RootsSay p c c.roots → order_of p area ≡ result report after → EntriesSay p area after (Passed c)

by_checked : (a : Checked) {P : Type 0} → (a ≡ Ok tt → P) → ((r : Refusal) → a ≡ Err r → P) → P
by_checked (Ok u) y n = y refl
by_checked (Err r) y n = n r refl

accepts : (a : Checked) → passes a ≡ true → a ≡ Ok tt
accepts (Ok u) e = refl
accepts (Err r) e = absurd (fails (sym e))

module _ (p area : List ℕ) (c : Counts) (e : types_answer p ≡ Ok c) (l : 2048 ≤ length area) where
  well : formed_of p ≡ Ok c
  well = types_formed p c e

  -- one root
  root_says : (i : ℕ) → i < c.roots → (t : Told) → answer_told (root_answer p c i) ≡ t → RootSays p c i t
  root_says i h t q = record { says = λ words room. ap (λ (x : Result). x.answer) (root_goes p i words c well h room) ∙ q }

  -- the first root that does not pass
  abbrev fine : ℕ → Bool
  fine i = passes (root_answer p c i)

  abbrev stop : ℕ
  stop = until fine 0 c.roots

  u : Until fine 0 c.roots stop
  u = until_is fine 0 c.roots (omega arith)

  passing : (below : ℕ) → below ≤ c.roots → ((i : ℕ) → i < below → passes (root_answer p c i) ≡ true) → RootsSay p c below
  passing below h r = record { each = λ i b. root_says i (omega arith) report (ap answer_told (accepts (root_answer p c i) (r i b))) }

  -- a refusal is the first root's that has one
  first_refused : (r : Refusal) → roots_answer p c ≡ Err r → FirstRefused p c r
  unfolding roots_answer
  first_refused r q =
      by_test (ltb stop c.roots)
      (λ t.
      let h = ltb-true stop c.roots t in
      record {
        root = stop;
        inside = h;
        refused = root_says stop h (refusal r)
            (ap answer_told (sym (at_first fine (root_answer p c) (Ok tt) 0 stop c.roots (omega arith) h (λ k a b. u.right k a b) (u.wrong h)) ∙ q));
        before = passing stop u.high (λ i b. u.right i (omega arith) b);
      })
      (λ f.
      absurd
      (fails
      (ap passes
      (sym (none_is fine (root_answer p c) (Ok tt) 0 c.roots (λ k a b. u.right k a (omega (arith, ltb-false stop c.roots f)))) ∙ q))))

  -- and a report is all roots'
  all_pass : roots_answer p c ≡ Ok tt → RootsSay p c c.roots
  unfolding roots_answer
  all_pass q = passing c.roots (omega arith) (λ i b. each fine (root_answer p c) (Ok tt) passes (λ k f. f) c.roots 0 (ap passes q) i (omega arith) b)

  ordered_is : order_of p area ≡ order_result (listing_of p c area)
  ordered_is = order_goes p area c (formed_ready p (length area) c well (has_room p area c well l).long)

  -- the last part
  order_says : roots_answer p c ≡ Ok tt → (a : Order) → (listing_of p c area).answer ≡ a → EntriesSay p area (listing_of p c area).area (order_verdict c a)
  order_says q (Ok u) s = passed c (ap answer_told e) (all_pass q) (ordered_is ∙ ap (λ (o : Order). result (answer_told o) (listing_of p c area).area) s)
  order_says q (Err r) s = no_order c r (ap answer_told e) (all_pass q) (ordered_is ∙ ap (λ (o : Order). result (answer_told o) (listing_of p c area).area) s)

  rest_says : EntriesSay p area (roots_part p c area).area (roots_part p c area).verdict
  rest_says =
      by_checked (roots_answer p c)
      (λ q. subst (λ (a : Checked). EntriesSay p area (after_roots p c area a).area (after_roots p c area a).verdict) (sym q) (order_says q (listing_of p c area).answer refl))
      (λ r q. subst (λ (a : Checked). EntriesSay p area (after_roots p c area a).area (after_roots p c area a).verdict) (sym q) (no_root c r (ap answer_told e) (first_refused r q)))

-- The verdict is what the entries answer.
pub entries_say : (p area : List ℕ) → 2048 ≤ length area → EntriesSay p area (whole_of p area).area (whole_of p area).verdict
entries_say p area l =
    by_reading (types_answer p)
    (λ c e. subst (λ (w : Whole). EntriesSay p area w.area w.verdict) (types_pass p area c e refl) (rest_says p area c e l))
    (λ r e. subst (λ (w : Whole). EntriesSay p area w.area w.verdict) (types_stop p area r e) (no_types r (ap answer_told e)))
