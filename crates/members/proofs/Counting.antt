-- Tests of the places of a list, as iterators over a range tell them.
--     any_listed      whether a place passes
--     count_listed, count_filtered    how many do
-- And what is stored as x+1 (stored_none, stored_some).
-- Assumes nothing.
use mathlib.Core.Path.{◌≡◌, refl, sym, ap, ◌∙◌}
use mathlib.Core.Bool.{Bool, cond, true, false, not}
use Prim.Native.Nat.{ℕ, zero, suc, ◌+◌, ◌-◌}
use native.Mathlib.Numerals.{add-one}
use native.Mathlib.Omega.{arith}
use mathlib.Core.List.{List}
use lib.ListN.{length}
use denote.Ref.{Bor}
use denote.Param.Members.{Mut}
use Rattle.std.specs.declared.iter.Filter.{Filter}
use Rattle.std.specs.declared.ops.Range.{Range}
use Rattle.std.proofs.iter.Yields.{nat_range_steps}
use Rattle.std.proofs.lemmas.Iterator.{YieldsList-from_range}
use Rattle.std.proofs.lemmas.Iterator.Consumers.{YieldsList-from_filter, count_from_yields_List}
use Rattle.std.proofs.lemmas.List.Sums.{length-filter}
use Rattle.std.specs.Fn.{CalledAt}
use Rattle.std.specs.Iterator.{Drains}
use Rattle.std.specs.Iterator.Adapters.{filter_source, filter_callee, filter_steps}
use Rattle.std.specs.List.{list_any, count_by, fold, range_with_len}
use Rattle.laws.specs.First.{first, walk}
use Rattle.laws.specs.Lists.{bit}
use Rattle.laws.specs.Choice.{pick}
use Rattle.laws.proofs.Choice.{by_test}
use Rattle.names.specs.Tally.{tally}
use Rattle.names.proofs.Tally.{tally_more}
use Rattle.members.specs.Places.{any, perhaps}

-- whether a place passes, as an iterator over a range answers
any_walked : (test : ℕ → Bool) (n i : ℕ) → list_any test (range_with_len i n) ≡ walk (λ k. not (test k)) (λ k. true) false i n
unfolding walk pick
any_walked test zero i = refl
any_walked test (suc n) i = by_test (test i) (λ t. rw t refl) (λ f. rw (f, add-one) (any_walked test n (suc i)))

pub any_listed : (test : ℕ → Bool) {n m : ℕ} {r : Bool} → n ≡ m → r ≡ list_any test (range_with_len 0 n) → r ≡ any test m
unfolding any first
any_listed test {n} {m} q e = let z : m - 0 ≡ m = omega arith in rw z (e ∙ rw q (any_walked test m 0))

one_bit : (b : Bool) → cond b 1 0 ≡ bit b
one_bit true = refl
one_bit false = refl

-- how many places pass, as an iterator over a range counts them
count_walked : (test : ℕ → Bool) (n i : ℕ) → fold (λ (a x : ℕ). a + cond (test x) 1 0) (tally test i) (range_with_len i n) ≡ tally test (i + n)
count_walked test zero i = let e : i + 0 ≡ i = omega arith in rw e refl
count_walked test (suc n) i =
    let e : i + suc n ≡ i + 1 + n = omega arith in
    let f : tally test i + cond (test i) 1 0 ≡ tally test (i + 1) = omega (arith, tally_more test i, one_bit (test i)) in
    ap (λ (k : ℕ). fold (λ (a x : ℕ). a + cond (test x) 1 0) k (range_with_len (i + 1) n)) f ∙ count_walked test n (i + 1) ∙ ap (tally test) (sym e)

pub count_listed : (test : ℕ → Bool) {n m r : ℕ} → n ≡ m → r ≡ count_by test (range_with_len 0 n) → r ≡ tally test m
unfolding tally
count_listed test {n} {m} q e = let z : 0 + m ≡ m = omega arith in e ∙ rw q (count_walked test m 0) ∙ ap (tally test) z

-- what a range counts that is filtered by a closure, which computes the test
pub count_filtered : {F : Type 0} {n m r : ℕ} {s : Filter (Range ℕ) F} {f : F} {g : Mut F (Bor ℕ × Unit {0}) Bool} (test : ℕ → Bool) → n ≡ m
    → (xs : List ℕ) × Drains (filter_steps nat_range_steps g) s xs × (r ≡ length xs) → filter_source s ≡ record { start = 0; end = n } → filter_callee s ≡ f
    → ((x : ℕ) (b : Bool) (q : F) → CalledAt g f x b q → (q ≡ f) × (b ≡ test x)) → r ≡ tally test m
count_filtered {n = n} {g = g} test q ran source callee calls =
    count_listed test q
    (count_from_yields_List _ _ ran (YieldsList-from_filter g test (YieldsList-from_range 0 n n source (omega arith)) callee calls) ∙ length-filter test (range_with_len 0 n))

module _ {A : Type 0} {z : A} (none : A) (some : ℕ → A) where
  pub stored_none : {x : ℕ} (y : ℕ) → x ≡ y → x ≡ 0 → z ≡ none → z ≡ perhaps none some y
  stored_none zero e h q = q
  stored_none (suc y) e h q = absurd (omega arith)

  pub stored_some : {x : ℕ} (y : ℕ) → x ≡ y → (x ≡ 0 → ⊥) → z ≡ some (x - 1) → z ≡ perhaps none some y
  stored_some zero e h q = absurd (h e)
  stored_some (suc y) e h q = let w : suc y - 1 ≡ y = omega arith in q ∙ ap (λ (k : ℕ). some (k - 1)) e ∙ ap some w
