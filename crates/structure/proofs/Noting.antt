-- What is kept of the list words: read once, and filled in when a type's row is done.
-- Assumes nothing.
use mathlib.Core.Path.{◌≡◌, refl, sym, ap, ◌∙◌}
use mathlib.Core.List.{List}
use mathlib.Core.Bool.{true, false}
use Prim.Native.Nat.{ℕ, ◌+◌, ◌-◌, ◌<◌, ◌≤◌}
use native.Mathlib.Omega.{arith}
use lib.Dec.{eqb, leb}
use lib.ListN.{length, get_or, set, length-set}
use Rattle.laws.proofs.Bounded.{get_in}
use borrow.Author.Tests.{ne_eqb, leb-true, leb-false}
use Rattle.laws.specs.Choice.{pick}
use Rattle.laws.specs.Bounded.{get}
use Rattle.laws.proofs.Choice.{yes, no, by_test, by_eq}
use Rattle.pack.specs.Lists.{list_word, list_len}
use Rattle.pack.specs.declared.counts.Counts.{Counts}
use Rattle.structure.specs.Structure.{rows}
use Rattle.structure.specs.Lists.{words}
use Rattle.structure.specs.Buckets.{buckets, bucket_of, head_at, Links}
use Rattle.structure.specs.Words.{looks, word_in, Read, Noted}
use Rattle.structure.proofs.Arrays.{set_here, set_there}

pub len_word : (p : List ℕ) (c : Counts) (j : ℕ) → list_len p c j ≡ list_word p c j
unfolding list_len
len_word p c j = refl

pub head_is : (heads : List ℕ) {b h y : ℕ} → h ≡ get_or heads b 0 → b < buckets → b ≡ y → h ≡ head_at heads y
head_is heads {b = b} e l q = e ∙ get_in buckets heads b l ∙ ap (λ (z : ℕ). head_at heads z) q

pub read_more : {p : List ℕ} {c : Counts} {look : List ℕ} {j w : ℕ} → Read p c look j → j < words → w ≡ list_word p c j → Read p c (set look (words + j) w) (j + 1)
read_more {look = look} {j = j} {w = w} r h e = record {
  size = length-set look (words + j) w ∙ r.size;
  word = λ k l.
      by_eq k j
      (λ q. rw q (set_here looks look (words + j) w r.size (omega arith) ∙ e))
      (λ q. set_there looks look (words + j) w (words + k) (λ z. q (omega arith)) ∙ r.word k (omega (arith, l, q)));
}

-- the words from j on that name type i are done
pub record Noting (look now : List ℕ) (i x j : ℕ) : Type 0 where
  pub size : length now ≡ looks
  pub word : (k : ℕ) → word_in now k ≡ word_in look k
  pub done : (k : ℕ) → k < words → j ≤ k → get looks now k ≡ pick (eqb (word_in look k) i) x (get looks look k)
  pub todo : (k : ℕ) → k < j → get looks now k ≡ get looks look k
  pub high : j ≤ words
  pub near : (j ≡ 0 → ⊥) → bucket_of (word_in look (j - 1)) ≡ bucket_of i

bucket_is : (i : ℕ) → i < rows → bucket_of i ≡ i
unfolding bucket_of
bucket_is i h = omega arith

module _ (look : List ℕ) {heads nexts : List ℕ} (i x : ℕ) (links : Links words (word_in look) heads nexts words) where
  -- a word of another bucket names another type
  other : (k : ℕ) → (bucket_of (word_in look k) ≡ bucket_of i → ⊥) → get looks look k ≡ pick (eqb (word_in look k) i) x (get looks look k)
  other k n = no (eqb (word_in look k) i) x (get looks look k) (ne_eqb _ _ (λ e. n (ap bucket_of e))) refl

  start : i < rows → length look ≡ looks → Noting look look i x (head_at heads i)
  start h e = record {
    size = e;
    word = λ k. refl;
    done = λ k l a. other k (λ q. links.head_past i k (omega arith) l a (q ∙ bucket_is i h));
    todo = λ k l. refl;
    high = links.head_low i;
    near = λ n. links.head_same i n ∙ sym (bucket_is i h);
  }

  pub noting_start : i < rows → length look ≡ looks → {j : ℕ} → j ≡ get_or heads i 0 → Noting look look i x j
  noting_start h e q = rw (q ∙ get_in buckets heads i (omega arith)) (start h e)

  -- the link leads to word w
  module _ {now : List ℕ} {j : ℕ} (w : ℕ) (n : Noting look now i x j) (some : j ≡ w + 1) where
    inside : w < words
    inside = omega (arith, n.high)

    near : bucket_of (word_in look w) ≡ bucket_of i
    near = let e : j - 1 ≡ w = omega arith in rw e at (n.near (λ z. omega arith))

    low : get words nexts w ≤ w
    low = links.next_low w inside

    -- the words between two links
    between : (k : ℕ) → get words nexts w ≤ k → k < w → get looks now k ≡ pick (eqb (word_in look k) i) x (get looks look k)
    between k a b = n.todo k (omega arith) ∙ other k (λ q. links.next_past w k inside a b (q ∙ sym near))

    next_is : {m : ℕ} → m ≡ get_or nexts w 0 → m ≡ get words nexts w
    next_is q = q ∙ get_in words nexts w inside

    pub note_less : {m : ℕ} → m ≡ get_or nexts w 0 → m < j
    note_less q = omega (arith, low, next_is q)

    next_near : (get words nexts w ≡ 0 → ⊥) → bucket_of (word_in look (get words nexts w - 1)) ≡ bucket_of i
    next_near m = links.next_same w inside m ∙ near

    named : eqb (word_in now w) i ≡ true → Noting look (set now w x) i x (get words nexts w)
    named t = record {
      size = length-set now w x ∙ n.size;
      word = λ k. set_there looks now w x (words + k) (λ z. omega (arith, inside)) ∙ n.word k;
      done = λ k l a.
          by_eq k w
          (λ q. rw q (set_here looks now w x n.size (omega (arith, inside)) ∙ yes (eqb (word_in look w) i) x (get looks look w) (rw (← n.word w) t) refl))
          (λ q. set_there looks now w x k q ∙ by_test (leb j k) (λ u. n.done k l (leb-true j k u)) (λ u. between k a (omega (arith, leb-false j k u, q))));
      todo = λ k l. set_there looks now w x k (λ q. omega (arith, low)) ∙ n.todo k (omega (arith, low));
      high = omega (arith, low, inside);
      near = next_near;
    }

    unnamed : eqb (word_in now w) i ≡ false → Noting look now i x (get words nexts w)
    unnamed t = record {
      size = n.size;
      word = n.word;
      done = λ k l a.
          by_eq k w
          (λ q. rw q (n.todo w (omega arith) ∙ no (eqb (word_in look w) i) x (get looks look w) (rw (← n.word w) t) refl))
          (λ q. by_test (leb j k) (λ u. n.done k l (leb-true j k u)) (λ u. between k a (omega (arith, leb-false j k u, q))));
      todo = λ k l. n.todo k (omega (arith, low));
      high = omega (arith, low, inside);
      near = next_near;
    }

    pub noting_next : {after : List ℕ} {m : ℕ} → after ≡ pick (eqb (word_in now w) i) (set now w x) now → m ≡ get_or nexts w 0 → Noting look after i x m
    noting_next e u =
        let q = next_is u in
        by_test (eqb (word_in now w) i)
        (λ t. rw (e ∙ sym (yes (eqb (word_in now w) i) (set now w x) now t refl), q) (named t))
        (λ t. rw (e ∙ sym (no (eqb (word_in now w) i) (set now w x) now t refl), q) (unnamed t))

pub noted : {look now : List ℕ} {i x j : ℕ} → Noting look now i x j → j ≡ 0 → Noted look now i x
noted n e = record { size = n.size; word = n.word; type = λ k h. n.done k h (omega arith) }
