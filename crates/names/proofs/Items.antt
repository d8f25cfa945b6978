-- Seats, keys and names: the next item of a list that is a name, by the first seat of a key.
--     seat_place, seat_high   every second word from one on sits on the next seat
--     key_read                a key is read off the word
--     item_room, item_low, item_found, item_none  the first item
--     pair_is                 the first pair
--     next_is                 where the next item stands
-- Assumes nothing.
use mathlib.Core.Path.{◌≡◌, refl, sym, ap, ◌∙◌}
use mathlib.Core.List.{List}
use mathlib.Core.Bool.{Bool, true, false, not}
use Prim.Native.Nat.{ℕ, ◌+◌, ◌*◌, ◌-◌, ◌/◌, ◌%◌, ◌<◌, ◌≤◌}
use native.Mathlib.Omega.{arith}
use lib.Dec.{eqb, ltb}
use borrow.Author.Tests.{eq-eqb, ne_eqb, eqb-true, lt-ltb, le-ltb, not-true, not-false}
use Rattle.laws.specs.Choice.{pick}
use Rattle.laws.specs.First.{until}
use Rattle.laws.specs.Bounded.{Reads}
use Rattle.laws.proofs.Choice.{yes, no, by_eq, fails}
use Rattle.laws.proofs.First.{Until, until_is}
use Rattle.laws.proofs.Members.{by_le}
use Rattle.pack.specs.Lists.{list_word, list_len, list_item, pair_of}
use Rattle.pack.specs.declared.counts.Counts.{Counts}
use Rattle.names.specs.Index.{no_name, place_of, seat_of, key_at, next_item}
use Rattle.names.proofs.Seeking.{until_only}

-- ---- seats

even_seat : (n x : ℕ) → x % 2 ≡ 0 → seat_of n x ≡ x / 2
unfolding seat_of
even_seat n x e = sym (yes (eqb (x % 2) 0) _ _ (eq-eqb (x % 2) 0 e) refl)

odd_seat : (n x : ℕ) → (x % 2 ≡ 0 → ⊥) → seat_of n x ≡ x / 2 + (n + 1) / 2
unfolding seat_of
odd_seat n x d = sym (no (eqb (x % 2) 0) _ _ (ne_eqb (x % 2) 0 d) refl)

early : (n i : ℕ) → i < (n + 1) / 2 → place_of n i ≡ 2 * i
unfolding place_of
early n i l = sym (yes (ltb i ((n + 1) / 2)) _ _ (lt-ltb i ((n + 1) / 2) l) refl)

late : (n i : ℕ) → (n + 1) / 2 ≤ i → place_of n i ≡ 2 * (i - (n + 1) / 2) + 1
unfolding place_of
late n i l = sym (no (ltb i ((n + 1) / 2)) _ _ (le-ltb i ((n + 1) / 2) l) refl)

-- every second word from x on sits on the next seat
pub seat_place : (n x k : ℕ) → x + 2 * k < n → place_of n (seat_of n x + k) ≡ x + 2 * k
seat_place n x k l =
    by_eq (x % 2) 0
    (λ e. rw (even_seat n x e) (early n (x / 2 + k) (omega arith) ∙ omega arith))
    (λ d. rw (odd_seat n x d) (late n (x / 2 + (n + 1) / 2 + k) (omega arith) ∙ omega arith))

pub seat_high : (n x k : ℕ) → x + 2 * k ≤ n → seat_of n x + k ≤ n
seat_high n x k l =
    by_eq (x % 2) 0
    (λ e. omega (arith, even_seat n x e))
    (λ d. omega (arith, odd_seat n x d))

pub item_room : (s i n : ℕ) {w first : ℕ} → i ≤ n → s + 1 + 2 * n ≤ w → first ≡ seat_of w (s + 1) → first + i ≤ w
item_room s i n {w = w} o h e = omega (arith, e, seat_high w (s + 1) i (omega arith))

-- ---- keys

module _ (p : List ℕ) (c : Counts) where
  abbrev word_on : ℕ → ℕ
  word_on i = list_word p c (place_of c.words i)

  named_key : (i : ℕ) → word_on i < no_name → key_at p c i ≡ word_on i
  unfolding key_at
  named_key i l = sym (yes (ltb (word_on i) no_name) _ _ (lt-ltb (word_on i) no_name l) refl)

  other_key : (i : ℕ) → no_name ≤ word_on i → key_at p c i ≡ no_name
  unfolding key_at
  other_key i l = sym (no (ltb (word_on i) no_name) _ _ (le-ltb (word_on i) no_name l) refl)

  key_small : (i : ℕ) → key_at p c i ≤ no_name
  key_small i = by_le no_name (word_on i) (λ h. omega (arith, other_key i h)) (λ h. omega (arith, named_key i h))

  key_same : (i : ℕ) {place word r : ℕ} → place ≡ place_of c.words i → word ≡ list_len p c place → r ≡ pick (ltb word no_name) word no_name → r ≡ key_at p c i
  unfolding key_at list_len
  key_same i f e q = rw (← f, ← e) q

  pub key_read : (i : ℕ) {place word r : ℕ} → place ≡ place_of c.words i → word ≡ list_len p c place → r ≡ pick (ltb word no_name) word no_name → Reads r (key_at p c i) 16385
  key_read i f e q = let w = key_same i f e q in record { same = w; small = omega (arith, w, key_small i) }

  key_name : {name : ℕ} → name < no_name → (i : ℕ) → key_at p c i ≡ name → word_on i ≡ name
  key_name l i e = by_le no_name (word_on i) (λ h. absurd (omega (arith, other_key i h))) (λ h. omega (arith, named_key i h))

  name_key : {name : ℕ} → name < no_name → (i : ℕ) → word_on i ≡ name → key_at p c i ≡ name
  name_key l i e = omega (arith, named_key i (omega arith))

  -- ---- items

  module _ (s i n name : ℕ) {first j : ℕ} (o : i ≤ n) (l : name < no_name) (h : s + 1 + 2 * n ≤ c.words) (e : first ≡ seat_of c.words (s + 1))
      (q : j ≡ until (λ y. not (eqb (key_at p c y) name)) (first + i) c.words) where
    abbrev ok : ℕ → Bool
    ok k = not (eqb (list_item p c s (2 * k)) name)

    -- the word of item 2k, by its seat
    item : (k : ℕ) → k < n → word_on (first + k) ≡ list_item p c s (2 * k)
    unfolding list_item
    item k a = rw e (ap (list_word p c) (seat_place c.words (s + 1) k (omega arith)))

    u : Until (λ y. not (eqb (key_at p c y) name)) (first + i) c.words j
    u = rw q (until_is (λ y. not (eqb (key_at p c y) name)) (first + i) c.words (item_room s i n o h e))

    pub item_low : first ≤ j
    item_low = omega (arith, u.low)

    -- an item before seat j is another
    another : (k : ℕ) → i ≤ k → k < n → first + k < j → ok k ≡ true
    another k a m b =
        ap not
        (ne_eqb (list_item p c s (2 * k)) name
        (λ w.
        fails
        (sym (eq-eqb (key_at p c (first + k)) name (name_key l (first + k) (item k m ∙ w)))
        ∙ not-true (eqb (key_at p c (first + k)) name) (u.right (first + k) (omega arith) b))))

    -- and the word on it is the name
    here : (k : ℕ) → k < n → first + k ≡ j → ok k ≡ false
    here k m r =
        let b : j < c.words = omega (arith, r, e, seat_high c.words (s + 1) (k + 1) (omega arith)) in
        let w = key_name l j (eqb-true (key_at p c j) name (not-false (eqb (key_at p c j) name) (u.wrong b))) in
        ap not (eq-eqb (list_item p c s (2 * k)) name (sym (item k m) ∙ ap word_on r ∙ w))

    pub item_none : n ≤ j - first → n ≡ next_item p c s i n name
    unfolding next_item
    item_none g =
        until_only ok i n n
        (record { low = o; high = omega arith; right = λ k a b. another k a b (omega (arith, u.low)); wrong = λ b. absurd (omega arith) })

    pub item_found : j - first < n → j - first ≡ next_item p c s i n name
    unfolding next_item
    item_found g =
        until_only ok i n (j - first)
        (record {
          low = omega (arith, u.low);
          high = omega arith;
          right = λ k a b. another k a (omega arith) (omega (arith, u.low));
          wrong = λ b. here (j - first) g (omega (arith, u.low));
        })

  pub pair_is : (s word : ℕ) {n r : ℕ} → n ≡ list_len p c s → r ≡ next_item p c s 0 n word → r ≡ pair_of p c s word
  unfolding next_item pair_of
  pair_is s word e q = rw (← e) q

  pub next_is : (s i n name : ℕ) {r : ℕ} → i ≤ n → r ≡ next_item p c s i n name → Until (λ k. not (eqb (list_item p c s (2 * k)) name)) i n r
  unfolding next_item
  next_is s i n name l q = rw q (until_is (λ k. not (eqb (list_item p c s (2 * k)) name)) i n l)
