-- Where each name stood last before: the marks of a loop over all words, and what they tell of a list of pairs.
--     met_more    one word more
--     names_by    no name repeats exactly if each stood last before the first of the list
-- Assumes nothing.
use Prim.Native.Nat.{ℕ, zero, suc, ◌+◌, ◌*◌, ◌/◌, ◌-◌, ◌<◌, ◌≤◌}
use mathlib.Core.Path.{◌≡◌, refl, sym, ap, ◌∙◌}
use mathlib.Core.List.{List}
use mathlib.Core.Bool.{Bool, true, not}
use native.Mathlib.Omega.{arith}
use native.Mathlib.Numerals.{add-one}
use lib.ListN.{length, get_or, set, replicate, length-set, length-replicate}
use lib.Seq.{get_or-set_same, get_or-set_other}
use lib.Dec.{eqb, ltb}
use borrow.Author.Tests.{eqb-true, eq-eqb, ne_eqb, ltb-true, ltb-false}
use Rattle.laws.specs.Choice.{pick}
use Rattle.laws.specs.First.{all}
use Rattle.laws.proofs.Choice.{yes, no, by_eq, by_test, fails}
use Rattle.laws.proofs.First.{all_in, all_of}
use Rattle.laws.proofs.Tests.{same_test, all_same}
use Rattle.pack.specs.Lists.{list_word, list_len, list_item}
use Rattle.pack.specs.declared.counts.Counts.{Counts}
use Rattle.lists.specs.Forms.{stride}
use Rattle.lists.specs.declared.forms.Form.TheVariants.{Name, Reference}
use Rattle.lists.specs.Names.{name_at, fresh, names_differ, items_rise, Named}
use Rattle.lists.specs.Peaks.{key, last_of, earlier, weight}
use Rattle.lists.proofs.ListLaws.{light}

pub record Met (p : List ℕ) (c : Counts) (j : ℕ) (marks places : List ℕ) : Type 0 where
  pub long_marks : length marks ≡ 98304
  pub long : length places ≡ 8192
  pub met : (x : ℕ) → get_or marks x 0 ≡ last_of (λ i. eqb (key p c i) x) j
  pub done : (i : ℕ) → i < j → get_or places i 0 ≡ earlier p c i

zero_at : (n x : ℕ) → get_or {A = ℕ} (replicate n 0) x 0 ≡ 0
zero_at zero x = refl
zero_at (suc n) zero = refl
zero_at (suc n) (suc x) = zero_at n x

pub met_none : (p : List ℕ) (c : Counts) {marks places : List ℕ} → marks ≡ replicate {A = ℕ} 98304 0 → length places ≡ 8192 → Met p c 0 marks places
met_none p c e l =
    record {
      long_marks = ap length e ∙ length-replicate {A = ℕ} 98304 0;
      long = l;
      met = λ x. ap (λ (m : List ℕ). get_or m x 0) e ∙ zero_at 98304 x;
      done = λ i h. absurd (omega arith);
    }

pub met_more : {p : List ℕ} {c : Counts} {j k : ℕ} {marks places : List ℕ} → Met p c j marks places → k ≡ key p c j → k < 32768 → j < 8192
    → Met p c (j + 1) (set marks k j) (set places j (get_or marks k 0))
unfolding earlier
met_more {p} {c} {j} {k} {marks} {places} m e small l =
    record {
      long_marks = length-set marks k j ∙ m.long_marks;
      long = length-set places j (get_or marks k 0) ∙ m.long;
      met =
          λ x.
          by_eq x k
          (λ q.
          ap (λ (u : ℕ). get_or (set marks k j) u 0) q
          ∙ get_or-set_same marks k j 0 (omega (arith, m.long_marks))
          ∙ yes (eqb (key p c j) x) j (last_of (λ i. eqb (key p c i) x) j) (eq-eqb (key p c j) x (sym e ∙ sym q)) refl
          ∙ next x)
          (λ q.
          get_or-set_other marks k x j 0 q
          ∙ m.met x
          ∙ no (eqb (key p c j) x) j (last_of (λ i. eqb (key p c i) x) j) (ne_eqb (key p c j) x (λ w. q (sym w ∙ sym e))) refl
          ∙ next x);
      done =
          λ i h.
          by_eq i j
          (λ q.
          ap (λ (u : ℕ). get_or (set places j (get_or marks k 0)) u 0) q
          ∙ get_or-set_same places j (get_or marks k 0) 0 (omega (arith, m.long))
          ∙ m.met k
          ∙ ap (λ (x : ℕ). last_of (λ i. eqb (key p c i) x) j) e
          ∙ ap (earlier p c) (sym q))
          (λ q. get_or-set_other places j i (get_or marks k 0) 0 q ∙ m.done i (omega arith));
    }
  where
    next : (x : ℕ) → pick (eqb (key p c j) x) j (last_of (λ i. eqb (key p c i) x) j) ≡ last_of (λ i. eqb (key p c i) x) (j + 1)
    next x = rw (add-one j) refl

-- ---- a list of pairs

-- no place where the test holds is later than the last
last_most : (ok : ℕ → Bool) (n i : ℕ) → i < n → ok i ≡ true → i ≤ last_of ok n
last_most ok zero i l t = absurd (omega arith)
last_most ok (suc n) i l t =
    by_test (ok n)
    (λ y. rw (sym (yes (ok n) n (last_of ok n) y refl)) (omega arith))
    (λ f.
    rw (sym (no (ok n) n (last_of ok n) f refl))
    (by_eq i n (λ q. absurd (fails (sym t ∙ ap ok q ∙ f))) (λ q. last_most ok n i (omega arith) t)))

-- and where there is one, the test holds at it
pub record Last (ok : ℕ → Bool) (n x : ℕ) : Type 0 where
  pub low : x < n
  pub holds : ok x ≡ true

last_is : (ok : ℕ → Bool) (n : ℕ) → 1 ≤ last_of ok n → Last ok n (last_of ok n)
last_is ok zero l = absurd (omega arith)
last_is ok (suc n) l =
    by_test (ok n)
    (λ y. rw (sym (yes (ok n) n (last_of ok n) y refl)) (record { low = omega arith; holds = y }))
    (λ f.
    let e : pick (ok n) n (last_of ok n) ≡ last_of ok n = sym (no (ok n) n (last_of ok n) f refl) in
    let r = last_is ok n (omega arith) in
    rw e (record { low = omega (arith, r.low); holds = r.holds }))

fresh_by : (p : List ℕ) (c : Counts) (s k : ℕ) → Named p c s → k < list_len p c s → ltb (earlier p c (s + 1 + 2 * k)) (s + 1) ≡ fresh (name_at p c s) k (name_at p c s k)
unfolding earlier list_item
fresh_by p c s k m h =
    same_test (ltb (earlier p c (s + 1 + 2 * k)) (s + 1)) (fresh (name_at p c s) k (name_at p c s k)) before_first after_first
  where
    ok : ℕ → Bool
    ok i = eqb (key p c i) (key p c (s + 1 + 2 * k))

    before_first : ltb (earlier p c (s + 1 + 2 * k)) (s + 1) ≡ true → fresh (name_at p c s) k (name_at p c s k) ≡ true
    before_first t =
        all_of (λ j. not (eqb (name_at p c s j) (name_at p c s k))) 0 k
        (λ i a b.
        by_eq (name_at p c s i) (name_at p c s k)
        (λ q.
        absurd
        (omega (
          arith,
          ltb-true (earlier p c (s + 1 + 2 * k)) (s + 1) t,
          last_most ok (s + 1 + 2 * k) (s + 1 + 2 * i) (omega arith) (eq-eqb (key p c (s + 1 + 2 * i)) (key p c (s + 1 + 2 * k)) (omega arith)),
        )))
        (λ q. ap not (ne_eqb (name_at p c s i) (name_at p c s k) q)))

    after_first : fresh (name_at p c s) k (name_at p c s k) ≡ true → ltb (earlier p c (s + 1 + 2 * k)) (s + 1) ≡ true
    after_first t =
        by_test (ltb (earlier p c (s + 1 + 2 * k)) (s + 1)) (λ y. y)
        (λ f.
        let e = earlier p c (s + 1 + 2 * k) in
        let far : s + 1 ≤ e = ltb-false e (s + 1) f in
        let r = last_is ok (s + 1 + 2 * k) (omega arith) in
        let q : key p c e ≡ key p c (s + 1 + 2 * k) = eqb-true (key p c e) (key p c (s + 1 + 2 * k)) r.holds in
        let i = (e - (s + 1)) / 2 in
        let at : s + 1 + 2 * i ≡ e = omega (arith, r.low) in
        let less : i < k = omega (arith, r.low) in
        let w : list_word p c (s + 1 + 2 * i) ≡ list_word p c e = ap (list_word p c) at in
        let same : name_at p c s i ≡ name_at p c s k = omega (arith, m.names_below i (omega arith), m.names_below k h) in
        absurd (fails (sym (all_in (λ j. not (eqb (name_at p c s j) (name_at p c s k))) 0 k t i (omega arith) less) ∙ ap not (eq-eqb (name_at p c s i) (name_at p c s k) same))))

pub names_by : (p : List ℕ) (c : Counts) (s : ℕ) → Named p c s → {n : ℕ} → n ≡ list_len p c s
    → all (λ k. ltb (weight p c Name (s + 1 + stride Name * k)) (s + 1)) 0 n ≡ names_differ p c s
unfolding weight names_differ
names_by p c s m {n} e =
    rw e
    (all_same (λ k. ltb (weight p c Name (s + 1 + stride Name * k)) (s + 1)) (λ k. fresh (name_at p c s) k (name_at p c s k)) (list_len p c s) (λ k h. fresh_by p c s k m h))

-- ---- references

pub rises_by : (p : List ℕ) (c : Counts) (s : ℕ) {n m : ℕ} → n ≡ list_len p c s → m ≡ n - 1 → all (λ k. ltb (weight p c Reference (s + 1 + stride Reference * k)) 1) 0 m ≡ items_rise p c s
unfolding weight items_rise list_item
rises_by p c s {n} {m} e w =
    rw (w, e)
    (all_same (λ k. ltb (weight p c Reference (s + 1 + stride Reference * k)) 1) (λ k. ltb (list_item p c s k) (list_item p c s (k + 1))) (list_len p c s - 1)
    (λ k h.
    let a : s + 1 + 1 * k ≡ s + 1 + k = omega arith in
    let b : s + 1 + k + 1 ≡ s + 1 + (k + 1) = omega arith in
    light (ltb (list_word p c (s + 1 + 1 * k)) (list_word p c (s + 1 + 1 * k + 1)))
    ∙ ap (λ (x : ℕ). ltb (list_word p c x) (list_word p c (x + 1))) a
    ∙ ap (λ (x : ℕ). ltb (list_word p c (s + 1 + k)) (list_word p c x)) b))
