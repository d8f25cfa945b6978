-- The search of places that rise, and what it finds in the index.
--     until_only                            the first place that fails is one alone
--     seats_rise, seek_ends                 a search by halves: what it asks, and what it finds
--     rising                                the places of one key rise
--     word_found, word_none                 the first word of the key from a place on
-- Assumes nothing.
use mathlib.Core.Path.{◌≡◌, sym, ap, ◌∙◌}
use mathlib.Core.List.{List}
use mathlib.Core.Bool.{Bool, true, false, not}
use Prim.Native.Nat.{ℕ, ◌+◌, ◌-◌, ◌<◌, ◌≤◌}
use native.Mathlib.Omega.{arith}
use lib.Dec.{eqb, ltb}
use borrow.Author.Tests.{eq-eqb, ne_eqb, ltb-true, ltb-false}
use Rattle.std.proofs.Common.{length, get_or, take, drop}
use Rattle.std.proofs.lemmas.List.{get_or-take, get_or-drop, length-take, length-drop}
use Rattle.std.proofs.lemmas.Grind.{get_or_default_zero}
use Rattle.std.specs.List.Sorted.{IsNonDecreasingBy, IsPartitionPoint}
use Rattle.laws.specs.First.{until}
use Rattle.laws.specs.Bounded.{get}
use Rattle.laws.proofs.Bounded.{get_in}
use Rattle.laws.proofs.First.{Until, until_is, at_first, none_is}
use Rattle.laws.proofs.Members.{by_le}
use Rattle.names.specs.Index.{no_name, capacity, seats_at, seat_at, start_of, rank_of, Sorted, Rising}
use Rattle.names.proofs.Ranks.{start_le, start_few, rank_low, rank_high, rank_rises, rank_nth}

pub until_only : (ok : ℕ → Bool) (i n u : ℕ) → Until ok i n u → u ≡ until ok i n
until_only ok i n u r =
    by_le n u
    (λ h. let e : u ≡ n = omega (arith, r.high) in e ∙ sym (none_is ok (λ k. k) n i n (λ k a b. r.right k a (omega arith))))
    (λ h. sym (at_first ok (λ k. k) n i u n r.low h r.right (r.wrong h)))

-- ---- a search by halves

module _ {table : List ℕ} {low high : ℕ} (r : Rising table low high) (long : length table ≡ capacity) where
  -- the seats low .. high - 1, as they are lent to the search
  abbrev seats : List ℕ
  seats = take (seats_at + high - (seats_at + low)) (drop (seats_at + low) table)

  seats_long : length seats ≡ high - low
  seats_long = omega (arith, length-take (seats_at + high - (seats_at + low)) (drop (seats_at + low) table), length-drop (seats_at + low) table, long, r.room, r.order)

  seat : (k d : ℕ) → low + k < high → get_or seats k d ≡ seat_at table (low + k)
  seat k d h =
      get_or-take _ (drop (seats_at + low) table) k d (omega arith)
      ∙ get_or-drop (seats_at + low) table k d
      ∙ get_or_default_zero table (seats_at + low + k) d (omega (arith, long, r.room))
      ∙ ap (λ (i : ℕ). get_or table i 0) (omega arith)
      ∙ get_in capacity table (seats_at + (low + k)) (omega (arith, r.room))

  pub seats_rise : IsNonDecreasingBy (λ y. y) seats
  seats_rise i j d l h =
      omega (arith, seats_long, seat i d (omega (arith, seats_long)), seat j d (omega (arith, seats_long)), r.rises (low + i) (low + j) (omega arith) (omega arith) (omega (arith, seats_long)))

  pub seek_ends : (x : ℕ) {b : ℕ} → b ≤ length seats → IsPartitionPoint (λ y. ltb y x ≡ true) (λ y. ltb y x ≡ false) seats b → low + b ≡ until (λ m. ltb (seat_at table m) x) low high
  seek_ends x {b = b} few point =
      until_only (λ m. ltb (seat_at table m) x) low high (low + b)
      (record {
        low = omega arith;
        high = omega (arith, few, seats_long, r.order);
        right = λ k f g. ap (λ (y : ℕ). ltb y x) (at k f (omega (arith, few, seats_long))) ∙ point.0 (k - low) 0 (omega arith) (omega arith);
        wrong = λ l. ap (λ (y : ℕ). ltb y x) (at (low + b) (omega arith) l) ∙ point.1 (low + b - low) 0 (omega arith) (omega (arith, seats_long));
      })
    where
      at : (k : ℕ) → low ≤ k → k < high → seat_at table k ≡ get_or seats (k - low) 0
      at k f g = ap (seat_at table) (omega arith) ∙ sym (seat (k - low) 0 (omega arith))

-- ---- the index

module _ {key : ℕ → ℕ} {n : ℕ} {table : List ℕ} (s : Sorted key n table) {k low high : ℕ} (l : k < no_name) (a : low ≡ get capacity table k) (b : high ≡ get capacity table (k + 1)) where
  starts : low ≡ start_of key n k
  starts = a ∙ s.starts k (omega arith)

  ends : high ≡ start_of key n (k + 1)
  ends = b ∙ s.starts (k + 1) (omega arith)

  -- the word at a place of the key
  word : (m : ℕ) → low ≤ m → m < high → (j : ℕ) × (j < n) × (key j ≡ k) × (rank_of key n j ≡ m) × (seat_at table m ≡ j)
  word m f g =
      let r = rank_nth key n k m (omega (arith, starts)) (omega (arith, ends)) in
      (r.0, r.1, r.2, r.3, rw r.3 at (s.seats r.0 r.1))

  pub rising : Rising table low high
  rising =
      record {
        room = omega (arith, ends, start_few key n (k + 1), s.few);
        order = omega (arith, starts, ends, start_le key n k (k + 1) (omega arith));
        rises =
            λ i j f g h.
            let u = word i f (omega arith) in
            let v = word j (omega arith) h in
            by_le u.0 v.0
            (λ w. omega (arith, u.4, v.4))
            (λ w. absurd (omega (arith, rank_rises key n v.0 u.0 w (v.2 ∙ sym u.2), u.3, v.3)));
      }

  -- where a word of the key stands
  ranked : (j : ℕ) → j < n → key j ≡ k → (low ≤ rank_of key n j) × (rank_of key n j < high)
  ranked j h e = (omega (arith, starts, rw e at (rank_low key n j)), omega (arith, ends, rw e at (rank_high key n j h)))

  module _ (x : ℕ) {m : ℕ} (q : m ≡ until (λ i. ltb (seat_at table i) x) low high) where
    found : Until (λ i. ltb (seat_at table i) x) low high m
    found = rw q (until_is (λ i. ltb (seat_at table i) x) low high rising.order)

    -- a word of the key that comes before m stands before x
    before : (j : ℕ) → j < n → key j ≡ k → rank_of key n j < m → j < x
    before j h e w = omega (arith, ltb-true (seat_at table (rank_of key n j)) x (found.right (rank_of key n j) (ranked j h e).0 w), s.seats j h)

    pub word_none : high ≤ m → x ≤ n → n ≡ until (λ j. not (eqb (key j) k)) x n
    word_none h o =
        until_only (λ j. not (eqb (key j) k)) x n n
        (record {
          low = o;
          high = omega arith;
          right = λ j f g. ap not (ne_eqb (key j) k (λ e. absurd (omega (arith, before j g e (omega (arith, (ranked j g e).1))))));
          wrong = λ g. absurd (omega arith);
        })

    pub word_found : m < high → seat_at table m ≡ until (λ j. not (eqb (key j) k)) x n
    word_found h =
        let u = word m found.low h in
        until_only (λ j. not (eqb (key j) k)) x n (seat_at table m)
        (record {
          low = ltb-false (seat_at table m) x (found.wrong h);
          high = omega (arith, u.4, u.1);
          right =
              λ j f g.
              ap not
              (ne_eqb (key j) k
              (λ e. absurd (omega (arith, before j (omega (arith, u.4, u.1)) e (omega (arith, u.3, rank_rises key n j u.0 (omega (arith, u.4)) (e ∙ sym u.2)))))));
          wrong = λ g. ap not (eq-eqb (key (seat_at table m)) k (ap key u.4 ∙ u.2));
        })
