-- The first failing place of a range.
-- The steps of a loop that counts i up to n and answers at the first place that is not right:
--     Left     its invariant: what is left, from i on, says what the whole says
--     goes     a place that is right is passed
--     stops    a place that is not is the answer
--     ends     past the last place there is no fault
-- The same for a test of each place (AllLeft), and for rows by what each row's rule gives (RowsLeft).
-- What an answer says of the places:
--     each        where the answer passes and no fault would, each place is right
--     none_is     and the other way round
--     at_first    the answer at a place that fails, where all before it are right
--     all_more    a test of each place, taken one place further
--     all_until   a test of each place, by the first place that fails
-- Assumes nothing.
use Prim.Native.Nat.{ℕ, zero, suc, ◌+◌, ◌-◌, ◌<◌, ◌≤◌}
use mathlib.Core.Path.{◌≡◌, refl, sym, ap, ◌∙◌}
use mathlib.Core.Bool.{Bool, true, false, ◌&&◌}
use native.Mathlib.Numerals.{add-one}
use native.Mathlib.Omega.{arith}
use native.Mathlib.Nat.{add-zero}
use lib.Dec.{leb}
use borrow.Author.Tests.{leb-true, leb-false}
use Rattle.laws.specs.Choice.{pick}
use Rattle.laws.specs.First.{first, walk, all, until}
use Rattle.laws.proofs.Choice.{yes, no, by_test, by_eq, fails}

pub record Left {A : Type 0} (ok : ℕ → Bool) (fault : ℕ → A) (none : A) (i n : ℕ) (whole : A) : Type 0 where
  pub says : first ok fault none i n ≡ whole

-- one place of the range taken off
pub first_at : {A : Type 0} (ok : ℕ → Bool) (fault : ℕ → A) (none : A) (i n : ℕ) → i < n
    → first ok fault none i n ≡ pick (ok i) (first ok fault none (i + 1) n) (fault i)
unfolding first walk
first_at ok fault none i n l = let e : n - i ≡ suc (n - (i + 1)) = omega arith in rw (e, add-one) refl

pub first_past : {A : Type 0} (ok : ℕ → Bool) (fault : ℕ → A) (none : A) (i n : ℕ) → n ≤ i → first ok fault none i n ≡ none
unfolding first walk
first_past ok fault none i n l = let e : n - i ≡ 0 = omega arith in rw e refl

module _ {A : Type 0} {ok : ℕ → Bool} {fault : ℕ → A} {none : A} {i n : ℕ} {whole : A} (inv : Left ok fault none i n whole) where
  pub goes : i < n → ok i ≡ true → Left ok fault none (i + 1) n whole
  goes l t = record { says = yes (ok i) _ (fault i) t refl ∙ sym (first_at ok fault none i n l) ∙ inv.says }

  pub stops : i < n → ok i ≡ false → fault i ≡ whole
  stops l f = no (ok i) (first ok fault none (i + 1) n) _ f refl ∙ sym (first_at ok fault none i n l) ∙ inv.says

  pub ends : n ≤ i → none ≡ whole
  ends l = sym (first_past ok fault none i n l) ∙ inv.says

abbrev pub AllLeft : (ℕ → Bool) → ℕ → ℕ → Bool → Type 0
AllLeft ok i n whole = Left ok (λ k. false) true i n whole

-- what is left of a table from row i on says what the whole says; x is what the row's function returned, and ok whether it passes
pub record RowsLeft {X A : Type 0} (ok : ℕ → X → Bool) (rule : ℕ → X) (fault : ℕ → A) (none : A) (i n : ℕ) (whole : A) : Type 0 where
  pub left : Left (λ k. ok k (rule k)) fault none i n whole

module _ {X A : Type 0} {ok : ℕ → X → Bool} {rule : ℕ → X} {fault : ℕ → A} {none : A} {i n : ℕ} {whole : A} (inv : RowsLeft ok rule fault none i n whole) where
  pub row_goes : {x : X} → i < n → x ≡ rule i → ok i x ≡ true → RowsLeft ok rule fault none (i + 1) n whole
  row_goes l e t = record { left = goes inv.left l (sym (ap (ok i) e) ∙ t) }

  pub row_stops : {x : X} → i < n → x ≡ rule i → ok i x ≡ false → fault i ≡ whole
  row_stops l e f = stops inv.left l (sym (ap (ok i) e) ∙ f)

  pub row_ends : n ≤ i → none ≡ whole
  row_ends l = ends inv.left l

-- ---- what an answer says of the places

module _ {A : Type 0} (ok : ℕ → Bool) (fault : ℕ → A) (none : A) where
  pub each : (passes : A → Bool) → ((k : ℕ) → ok k ≡ false → passes (fault k) ≡ false) → (n i : ℕ) → passes (first ok fault none i n) ≡ true
      → (k : ℕ) → i ≤ k → k < n → ok k ≡ true
  each passes stop n i e k l h = go (n - i) i (omega arith) e l
    where
      go : (m i : ℕ) → i + m ≡ n → passes (first ok fault none i n) ≡ true → i ≤ k → ok k ≡ true
      go zero i w e l = absurd (omega arith)
      go (suc m) i w e l =
          by_test (ok i)
          (λ t. by_eq k i (λ q. rw q t) (λ q. go m (i + 1) (omega arith) (ap passes (yes (ok i) _ (fault i) t refl) ∙ s) (omega arith)))
          (λ f. absurd (fails (sym s ∙ ap passes (sym (no (ok i) (first ok fault none (i + 1) n) _ f refl)) ∙ stop i f)))
        where
          s : passes (pick (ok i) (first ok fault none (i + 1) n) (fault i)) ≡ true
          s = ap passes (sym (first_at ok fault none i n (omega arith))) ∙ e

  passed : (d i n : ℕ) → ((k : ℕ) → i ≤ k → k < i + d → ok k ≡ true) → i + d ≤ n → first ok fault none i n ≡ first ok fault none (i + d) n
  passed zero i n r l = rw add-zero
  passed (suc d) i n r l =
      let e : i + suc d ≡ i + 1 + d = omega arith in
      first_at ok fault none i n (omega arith)
      ∙ sym (yes (ok i) _ (fault i) (r i (omega arith) (omega arith)) refl)
      ∙ passed d (i + 1) n (λ k a b. r k (omega arith) (omega arith)) (omega arith)
      ∙ ap (λ (j : ℕ). first ok fault none j n) (sym e)

  pub at_first : (i j n : ℕ) → i ≤ j → j < n → ((k : ℕ) → i ≤ k → k < j → ok k ≡ true) → ok j ≡ false → first ok fault none i n ≡ fault j
  at_first i j n l h r f =
      let e : i + (j - i) ≡ j = omega arith in
      passed (j - i) i n (λ k a b. r k a (omega arith)) (omega arith)
      ∙ ap (λ (x : ℕ). first ok fault none x n) e
      ∙ first_at ok fault none j n h
      ∙ sym (no (ok j) (first ok fault none (j + 1) n) _ f refl)

  pub none_is : (i n : ℕ) → ((k : ℕ) → i ≤ k → k < n → ok k ≡ true) → first ok fault none i n ≡ none
  none_is i n r = by_test (leb n i) (λ t. first_past ok fault none i n (leb-true n i t)) (λ f. far (leb-false n i f))
    where
      far : i < n → first ok fault none i n ≡ none
      far l =
          let e : i + (n - i) ≡ n = omega arith in
          passed (n - i) i n (λ k a b. r k a (omega arith)) (omega arith)
          ∙ ap (λ (x : ℕ). first ok fault none x n) e
          ∙ first_past ok fault none n n (omega arith)

-- where the first place that fails lies
pub record Until (ok : ℕ → Bool) (i n u : ℕ) : Type 0 where
  pub low : i ≤ u
  pub high : u ≤ n
  pub right : (k : ℕ) → i ≤ k → k < u → ok k ≡ true
  pub wrong : u < n → ok u ≡ false

pub until_is : (ok : ℕ → Bool) (i n : ℕ) → i ≤ n → Until ok i n (until ok i n)
until_is ok i n l = let e : i + (n - i) ≡ n = omega arith in go (n - i) i e
  where
    go : (m i : ℕ) → i + m ≡ n → Until ok i n (until ok i n)
    go zero i e =
        rw (first_past ok (λ k. k) n i n (omega arith)) (record { low = omega arith; high = omega arith; right = λ k a b. absurd (omega arith); wrong = λ h. absurd (omega arith) })
    go (suc m) i e =
        by_test (ok i)
        (λ t.
        let r = go m (i + 1) (omega arith) in
        rw (at ∙ sym (yes (ok i) _ i t refl))
        (record {
          low = omega (arith, r.low);
          high = r.high;
          right = λ k a b. by_eq k i (λ q. rw q t) (λ q. r.right k (omega arith) b);
          wrong = r.wrong;
        }))
        (λ f. rw (at ∙ sym (no (ok i) (until ok (i + 1) n) _ f refl)) (record { low = omega arith; high = omega arith; right = λ k a b. absurd (omega arith); wrong = λ h. f }))
      where
        at : until ok i n ≡ pick (ok i) (until ok (i + 1) n) i
        at = first_at ok (λ k. k) n i n (omega arith)

-- what a test of each place says where it holds, of the places from i on and of all
module _ (ok : ℕ → Bool) (i n : ℕ) where
  pub all_in : all ok i n ≡ true → (k : ℕ) → i ≤ k → k < n → ok k ≡ true
  all_in e k l h = each ok (λ j. false) true (λ b. b) (λ j f. refl) n i e k l h

  pub all_of : ((k : ℕ) → i ≤ k → k < n → ok k ≡ true) → all ok i n ≡ true
  all_of r = none_is ok (λ j. false) true i n r

pub all_each : (ok : ℕ → Bool) (n : ℕ) → all ok 0 n ≡ true → (k : ℕ) → k < n → ok k ≡ true
all_each ok n t k l = all_in ok 0 n t k (omega arith) l

pub all_true : (ok : ℕ → Bool) (n : ℕ) → ((k : ℕ) → k < n → ok k ≡ true) → all ok 0 n ≡ true
all_true ok n r = all_of ok 0 n (λ k a b. r k b)

-- a place that fails makes it fail
pub all_false : (ok : ℕ → Bool) (k n : ℕ) → k < n → ok k ≡ false → all ok 0 n ≡ false
all_false ok k n l f = by_test (all ok 0 n) (λ t. absurd (fails (sym (all_each ok n t k l) ∙ f))) (λ g. g)

pub all_until : (ok : ℕ → Bool) (a n w : ℕ) → a + n ≤ w → all (λ k. ok (a + k)) 0 n ≡ leb (a + n) (until ok a w)
all_until ok a n w l =
    by_test (leb (a + n) (until ok a w))
    (λ t. all_true (λ k. ok (a + k)) n (λ k h. u.right (a + k) (omega arith) (omega (arith, leb-true (a + n) (until ok a w) t))) ∙ sym t)
    (λ f.
    let h : until ok a w < a + n = leb-false (a + n) (until ok a w) f in
    let e : a + (until ok a w - a) ≡ until ok a w = omega (arith, u.low) in
    all_false (λ k. ok (a + k)) (until ok a w - a) n (omega (arith, u.low)) (ap ok e ∙ u.wrong (omega arith)) ∙ sym f)
  where
    u : Until ok a w (until ok a w)
    u = until_is ok a w (omega arith)

pub all_more : (ok : ℕ → Bool) (n : ℕ) → all ok 0 (n + 1) ≡ (all ok 0 n && ok n)
all_more ok n =
    by_test (all ok 0 n)
    (λ t. by_test (ok n) (λ p. rw (t, p) (all_true ok (n + 1) (λ k h. by_eq k n (λ q. rw q p) (λ q. all_each ok n t k (omega arith))))) (λ p. rw (t, p) (all_false ok n (n + 1) (omega arith) p)))
    (λ f.
    by_test (all ok 0 (n + 1))
    (λ t. absurd (fails (sym (all_true ok n (λ k h. all_each ok (n + 1) t k (omega arith))) ∙ f)))
    (λ g. rw (f, g)))
