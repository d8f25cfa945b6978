-- The laws of skips.
--     item_word    an item's types are those of its word
--     put_done     a skip that is right may be stored
--     passes_all   a skip that passes the rest of a list
--     passes_on    a skip joined with the next one
--     passed_by    items that were visited before
--     visited-item an item that was visited now, and its skip
-- Assumes nothing.
use Prim.Native.Nat.{ℕ, zero, suc, ◌+◌, ◌*◌, ◌-◌, ◌<◌, ◌≤◌, min}
use mathlib.Core.Path.{◌≡◌, refl, ap, ◌∙◌}
use mathlib.Core.Logic.{inl, inr, ⊎_elim}
use mathlib.Core.Bool.{Bool}
use mathlib.Core.List.{List, [], ◌∷◌, ◌++◌, append-nil}
use native.Mathlib.Nat.{zero-add}
use lib.Dec.{ltb}
use borrow.Author.Tests.{ltb-true, ltb-false}
use native.Mathlib.Omega.{arith}
use lib.ListN.{get_or, set}
use Rattle.laws.specs.Bounded.{get, put}
use Rattle.laws.specs.Lists.{In, gather}
use Rattle.laws.proofs.Choice.{by_eq, by_test}
use Rattle.laws.proofs.Bounded.{by_bound, get_in, get_out, put_in, get_other}
use Rattle.laws.proofs.Lists.{gather_split, in_gather, gather_in}
use Rattle.pack.specs.Lists.{list_item}
use Rattle.pack.specs.declared.counts.Counts.{Counts}
use Rattle.type_cycle.specs.declared.skips.Listed.{Listed}
use Rattle.type_cycle.specs.declared.skips.Listed.TheVariants.{Types, Fields, Variants}
use Rattle.type_cycle.specs.Graph.{item_types}
use Rattle.type_cycle.specs.Skips.{word_of, stride, word_types, skip_place, skip_places, skip_of, put_skip}
use Rattle.type_cycle.specs.Search.{State, st, AllSeen, Skipped, Passes, Visited}
use Rattle.type_cycle.proofs.VisitLaws.{in_right, along}

word_on : (items : Listed) (s k j : ℕ) → word_of items s (k + j) ≡ word_of items s k + stride items * j
word_on Types s k j = omega arith
word_on Fields s k j = omega arith
word_on Variants s k j = omega arith

pub item_word : (p : List ℕ) (c : Counts) (items : Listed) (s k : ℕ) → item_types p c items s k ≡ word_types p c items (word_of items s k)
unfolding list_item
item_word p c Types s k = refl
item_word p c Fields s k = let e : s + 1 + (2 * k + 1) ≡ s + 2 + 2 * k = omega arith in rw e
item_word p c Variants s k = let e : s + 1 + (2 * k + 1) ≡ s + 2 + 2 * k = omega arith in rw e

-- how many lists a list of such items may lead through before a type
abbrev pub tier : Listed → ℕ
tier Types = 0
tier Fields = 0
tier Variants = 2

-- two skips stand at one place only if they are one
apart : (i j : Listed) (v w : ℕ) → skip_place i v ≡ skip_place j w → (i ≡ j) × (v ≡ w)
apart Types Types v w e = (refl, omega arith)
apart Types Fields v w e = absurd (omega arith)
apart Types Variants v w e = absurd (omega arith)
apart Fields Types v w e = absurd (omega arith)
apart Fields Fields v w e = (refl, omega arith)
apart Fields Variants v w e = absurd (omega arith)
apart Variants Types v w e = absurd (omega arith)
apart Variants Fields v w e = absurd (omega arith)
apart Variants Variants v w e = (refl, omega arith)

set_most : (l : List ℕ) (i v : ℕ) → get_or (set l i v) i 0 ≤ v
set_most [] i v = omega arith
set_most (x ∷ xs) zero v = omega arith
set_most (x ∷ xs) (suc i) v = set_most xs i v

put_most : (n : ℕ) (l : List ℕ) (i v : ℕ) → get n (put n l i v) i ≤ v
put_most n l i v =
    by_bound n l i
    (λ h. rw (← put_in n l i v h) (omega (arith, get_in n (set l i v) i h, set_most l i v)))
    (λ h. omega (arith, get_out n (put n l i v) i h))

module _ {p : List ℕ} {c : Counts} {marks : List Bool} {skips : List ℕ} (d : Skipped p c marks skips) where
  -- a skip from item k on
  pub reaches : (items : Listed) (s k i : ℕ) → i < skip_of skips items (word_of items s k) → AllSeen marks (item_types p c items s (k + i))
  reaches items s k i l = rw (item_word p c items s (k + i), word_on items s k i) (d.done items (word_of items s k) i l)

  pub put_done : (items : Listed) (s k n : ℕ) → ((i : ℕ) → i < n → AllSeen marks (item_types p c items s (k + i))) → Skipped p c marks (put_skip skips items (word_of items s k) n)
  put_done items s k n f =
      record {
        done =
            λ others w j l.
            by_eq (skip_place others w) (skip_place items (word_of items s k))
            (λ e.
            let a = apart others items w (word_of items s k) e in
            let b : j < n = omega (arith, ap (λ (x : ℕ). get skip_places (put_skip skips items (word_of items s k) n) x) e, put_most skip_places skips (skip_place items (word_of items s k)) n) in
            rw (a.0, a.1) (rw (item_word p c items s (k + j), word_on items s k j) at (f j b)))
            (λ e. d.done others w j (omega (arith, get_other skip_places skips (skip_place items (word_of items s k)) n (skip_place others w) e)));
      }

-- an item between, by its distance
between : (p : List ℕ) (c : Counts) (marks : List Bool) (items : Listed) (s k j : ℕ) → k ≤ j → AllSeen marks (item_types p c items s (k + (j - k))) → AllSeen marks (item_types p c items s j)
between p c marks items s k j l a = let e : k + (j - k) ≡ j = omega arith in rw e at a

module _ (items : Listed) (s k n skip : ℕ) (skips : List ℕ) (e : skip ≡ skip_of skips items (word_of items s k)) where
  pub passes_all : k < n → n - k ≤ skip → Passes items s k n skips skips n
  passes_all l h =
      record {
        low = l;
        high = omega arith;
        done = λ p c marks d j a b. between p c marks items s k j a (reaches d items s k (j - k) (omega arith));
        kept = λ p c marks d. d;
      }

  pub passes_on : (next more : ℕ) (after : List ℕ) → 0 < skip → skip < n - k → next ≡ skip_of skips items (word_of items s (k + skip)) → more ≡ min next (n - (k + skip))
      → after ≡ put_skip skips items (word_of items s k) (skip + more) → Passes items s k n skips after (k + skip + more)
  passes_on next more after z l u m q =
      record {
        low = omega arith;
        high = omega arith;
        done = λ p c marks d j a b. between p c marks items s k j a (far d (j - k) (omega arith));
        kept = λ p c marks d. rw q (put_done d items s k (skip + more) (far d));
      }
    where
      far : {p : List ℕ} {c : Counts} {marks : List Bool} → Skipped p c marks skips → (i : ℕ) → i < skip + more → AllSeen marks (item_types p c items s (k + i))
      far d i b =
          by_test (ltb i skip)
          (λ t. reaches d items s k i (omega (arith, ltb-true i skip t)))
          (λ t. let w : k + skip + (i - skip) ≡ k + i = omega (arith, ltb-false i skip t) in rw (← w) (reaches d items s (k + skip) (i - skip) (omega (arith, ltb-false i skip t))))

-- ---- visits of the items of a list

module _ {p : List ℕ} {c : Counts} {xs ys : List ℕ} {s t : State} (v : Visited p c xs s t) (skips : List ℕ) where
  -- other skips, which show more places as met
  restock : ((x : ℕ) → In x xs → In x ys) → (Skipped p c t.marks t.skips → AllSeen t.marks xs → Skipped p c t.marks skips × AllSeen t.marks ys)
      → Visited p c ys s (st t.marks skips t.order t.left)
  restock sub f =
      record {
        long = v.long;
        fewer = v.fewer;
        room = v.room;
        grows = v.grows;
        sound = λ y h. ⊎_elim (λ i. inl i) (λ i. inr (i.0, sub i.0 i.1, i.2)) (v.sound y h);
        closes =
            λ o k.
            let a = v.closes o k in
            let b = f a.0.skips a.1 in
            (record { done = a.0.done; skips = b.0 }, b.1);
        orders =
            λ o k w g.
            let a = v.orders o k w (λ z x i j. g z x i (sub x j)) in
            record {
              long = a.long;
              room = a.room;
              open_seen = a.open_seen;
              listed = a.listed;
              left_seen = a.left_seen;
              before = a.before;
              later = a.later;
            };
      }

pub gather_last : (f : ℕ → List ℕ) (k : ℕ) → gather f 0 (k + 1) ≡ gather f 0 k ++ f k
unfolding gather
gather_last f k = gather_split f k 0 1 ∙ rw (zero-add, append-nil)

module _ (p : List ℕ) (c : Counts) (items : Listed) (l k : ℕ) {s t : State} (v : Visited p c (gather (item_types p c items l) 0 k) s t) where
  -- item k now
  pub visits_item : {u : State} (skips : List ℕ) → Visited p c (item_types p c items l k) t u → skips ≡ put_skip u.skips items (word_of items l k) 1
      → Visited p c (gather (item_types p c items l) 0 (k + 1)) s (st u.marks skips u.order u.left)
  visits_item {u} skips w e =
      rw (gather_last (item_types p c items l) k)
      (restock (along v w) skips (λ x i. i)
      (λ d a. (rw e (put_done d items l k 1 (λ i h. let z : k + i ≡ k = omega arith in rw z (λ x m. a x (in_right x (gather (item_types p c items l) 0 k) (item_types p c items l k) m)))), a)))

  -- items before
  pub visits_passed : {n r : ℕ} {skips : List ℕ} → Passes items l k n t.skips skips r → Visited p c (gather (item_types p c items l) 0 r) s (st t.marks skips t.order t.left)
  visits_passed {n} {r} {skips} q =
      restock v skips
      (λ x i. let g = gather_in x (item_types p c items l) k 0 i in in_gather x (item_types p c items l) 0 g.0 r (omega arith) (omega (arith, g.2, q.low)) g.3)
      (λ d a. (
        q.kept p c t.marks d,
        λ x i.
            let g = gather_in x (item_types p c items l) r 0 i in
            by_test (ltb g.0 k)
            (λ h. a x (in_gather x (item_types p c items l) 0 g.0 k (omega arith) (omega (arith, ltb-true g.0 k h)) g.3))
            (λ h. q.done p c t.marks d g.0 (ltb-false g.0 k h) (omega (arith, g.2)) x g.3),
      ))
