-- Rows in chains: a row is put in front of its chain, and a search follows one.
--     links_none, links_more, chained_with   at the start, and with row i
--     Walk, walk_start, walk_next            no row past j passes
--     walk_found                             what the search answers
-- Assumes nothing.
use mathlib.Core.Path.{◌≡◌, refl, sym, ap, ◌∙◌}
use mathlib.Core.List.{List}
use mathlib.Core.Bool.{Bool, true, false}
use Rattle.std.specs.Prelude.{Some}
use Prim.Native.Nat.{ℕ, ◌+◌, ◌-◌, ◌<◌, ◌≤◌}
use native.Mathlib.Omega.{arith}
use lib.ListN.{get_or, set, length-set, replicate, length-replicate}
use lib.Dec.{leb}
use borrow.Author.Tests.{leb-true, leb-false, eqb-true}
use Rattle.laws.specs.Bounded.{get}
use Rattle.laws.proofs.Bounded.{get_in}
use Rattle.laws.proofs.Choice.{by_eq, by_test}
use Rattle.structure.specs.Structure.{rows}
use Rattle.structure.specs.Table.{entry, has_key, Hit}
use Rattle.structure.specs.Buckets.{buckets, bucket_of, head_at, Links, Chained}
use Rattle.structure.specs.declared.buckets.Chains.{Chains}
use Rattle.structure.proofs.Arrays.{zeros_get, set_here, set_there}

pub bucket_small : (x : ℕ) → bucket_of x < buckets
unfolding bucket_of
bucket_small x = omega arith

pub links_none : (n : ℕ) (x : ℕ → ℕ) → Links n x (replicate buckets 0) (replicate n 0) 0
links_none n x = record {
  size_heads = length-replicate {A = ℕ} buckets 0;
  size_nexts = length-replicate {A = ℕ} n 0;
  head_low = λ b. rw (zeros_get buckets b) (omega arith);
  head_same = λ b n. absurd (n (zeros_get buckets b));
  head_past = λ b k s h. absurd (omega arith);
  next_low = λ k h. absurd (omega arith);
  next_same = λ k h. absurd (omega arith);
  next_past = λ k l h. absurd (omega arith);
}

pub chained_none : Chained (record { keys = replicate rows 0; heads = replicate buckets 0; nexts = replicate rows 0 }) 0
chained_none = record { size = length-replicate {A = ℕ} rows 0; links = links_none rows _ }

-- the same of other values that agree below i
pub links_agree : {n : ℕ} {x y : ℕ → ℕ} {heads nexts : List ℕ} {i : ℕ} → Links n x heads nexts i → ((k : ℕ) → k < i → y k ≡ x k) → Links n y heads nexts i
links_agree {n = n} {heads = heads} {nexts = nexts} c e = record {
  size_heads = c.size_heads;
  size_nexts = c.size_nexts;
  head_low = c.head_low;
  head_same = λ b m. let l = c.head_low b in rw (e (head_at heads b - 1) (omega arith)) (c.head_same b m);
  head_past = λ b k s h a q. c.head_past b k s h a (rw (e k h) at q);
  next_low = c.next_low;
  next_same = λ k h m. let l = c.next_low k h in rw (e k h, e (get n nexts k - 1) (omega arith)) (c.next_same k h m);
  next_past = λ k l h a b q. c.next_past k l h a b (rw (e k h, e l (omega arith)) at q);
}

-- row i in front of its chain
module _ {n : ℕ} {x : ℕ → ℕ} {heads nexts : List ℕ} {i : ℕ} (c : Links n x heads nexts i) (room : i < n) where
  there_next : (k : ℕ) → (k ≡ i → ⊥) → get n (set nexts i (head_at heads (bucket_of (x i)))) k ≡ get n nexts k
  there_next k m = set_there n nexts i (head_at heads (bucket_of (x i))) k m

  here_next : get n (set nexts i (head_at heads (bucket_of (x i)))) i ≡ head_at heads (bucket_of (x i))
  here_next = set_here n nexts i (head_at heads (bucket_of (x i))) c.size_nexts room

  here_head : head_at (set heads (bucket_of (x i)) (i + 1)) (bucket_of (x i)) ≡ i + 1
  here_head = set_here buckets heads (bucket_of (x i)) (i + 1) c.size_heads (bucket_small (x i))

  there_head : (b : ℕ) → (b ≡ bucket_of (x i) → ⊥) → head_at (set heads (bucket_of (x i)) (i + 1)) b ≡ head_at heads b
  there_head b m = set_there buckets heads (bucket_of (x i)) (i + 1) b m

  pub links_more : Links n x (set heads (bucket_of (x i)) (i + 1)) (set nexts i (head_at heads (bucket_of (x i)))) (i + 1)
  links_more = record {
    size_heads = length-set heads (bucket_of (x i)) (i + 1) ∙ c.size_heads;
    size_nexts = length-set nexts i (head_at heads (bucket_of (x i))) ∙ c.size_nexts;
    head_low = λ b. by_eq b (bucket_of (x i)) (λ e. rw (e, here_head) (omega arith)) (λ e. rw (there_head b e) (omega (arith, c.head_low b)));
    head_same = λ b m.
        by_eq b (bucket_of (x i))
        (λ e. let z : i + 1 - 1 ≡ i = omega arith in rw (e, here_head, z) refl)
        (λ e. rw (there_head b e) (c.head_same b (λ q. m (there_head b e ∙ q))));
    head_past = λ b k s h a q.
        by_eq b (bucket_of (x i))
        (λ e. let z = rw (e, here_head) at a in omega arith)
        (λ e.
        by_eq k i
        (λ w. e (sym q ∙ ap (λ (y : ℕ). bucket_of (x y)) w))
        (λ w. c.head_past b k s (omega arith) (rw (there_head b e) at a) q));
    next_low = λ k h. by_eq k i (λ w. rw (w, here_next) (c.head_low (bucket_of (x i)))) (λ w. rw (there_next k w) (c.next_low k (omega arith)));
    next_same = λ k h m.
        by_eq k i
        (λ w. rw (w, here_next) (c.head_same (bucket_of (x i)) (λ q. m (rw w (here_next ∙ q)))))
        (λ w. rw (there_next k w) (c.next_same k (omega arith) (λ q. m (there_next k w ∙ q))));
    next_past = λ k l h a b q.
        by_eq k i
        (λ w. c.head_past (bucket_of (x i)) l (bucket_small (x i)) (omega arith) (rw (w, here_next) at a) (rw w at q))
        (λ w. c.next_past k l (omega arith) (rw (there_next k w) at a) b q);
  }

  -- the same from what was asked for
  pub links_with : {b h : ℕ} → b ≡ bucket_of (x i) → h ≡ head_at heads (bucket_of (x i)) → Links n x (set heads b (i + 1)) (set nexts i h) (i + 1)
  links_with d e = rw (d, e) links_more

-- row i of the table with the key x
module _ {q : Chains} {i : ℕ} (c : Chained q i) (room : i < rows) (x : ℕ) where
  here_key : entry (set q.keys i x) i ≡ x
  here_key = set_here rows q.keys i x c.size room

  pub chained_with : {b h : ℕ} → b ≡ bucket_of x → h ≡ head_at q.heads (bucket_of x)
      → Chained (record { keys = set q.keys i x; heads = set q.heads b (i + 1); nexts = set q.nexts i h }) (i + 1)
  chained_with d e = record {
    size = length-set q.keys i x ∙ c.size;
    links = links_with (links_agree c.links (λ k h. set_there rows q.keys i x k (λ w. omega arith))) room (rw here_key d) (rw here_key e);
  }

-- ---- the search

-- where the test passes the value falls into bucket b
pub record Sorted (test : ℕ → Bool) (x : ℕ → ℕ) (b : ℕ) : Type 0 where
  pub small : b < buckets
  pub sorted : (k : ℕ) → test k ≡ true → bucket_of (x k) ≡ b

-- no row from j on passes, and the one before j is in the bucket
pub record Walk (test : ℕ → Bool) (x : ℕ → ℕ) (b i j : ℕ) : Type 0 where
  pub high : j ≤ i
  pub past : (k : ℕ) → k < i → j ≤ k → test k ≡ false
  pub same : (j ≡ 0 → ⊥) → bucket_of (x (j - 1)) ≡ b

module _ {n : ℕ} {test : ℕ → Bool} {x : ℕ → ℕ} {heads nexts : List ℕ} {i b : ℕ} (c : Links n x heads nexts i) (s : Sorted test x b) where
  -- a row of another bucket does not pass
  other : (k : ℕ) → (bucket_of (x k) ≡ b → ⊥) → test k ≡ false
  other k m = by_test (test k) (λ t. absurd (m (s.sorted k t))) (λ t. t)

  pub walk_start : Walk test x b i (head_at heads b)
  walk_start = record { high = c.head_low b; past = λ k h a. other k (c.head_past b k s.small h a); same = c.head_same b }

  -- row k, which the walk has come to, does not pass
  module _ {j : ℕ} (k : ℕ) (w : Walk test x b i j) (p : j ≡ k + 1) where
    walk_next : test k ≡ false → Walk test x b i (get n nexts k)
    walk_next f =
        let m : j ≡ 0 → ⊥ = λ e. omega arith in
        let y : j - 1 ≡ k = omega arith in
        let g : k < i = omega (arith, w.high) in
        let l : get n nexts k ≤ k = c.next_low k g in
        let e : bucket_of (x k) ≡ b = rw y at (w.same m) in
        record {
          high = omega arith;
          past = λ q h a.
              by_test (leb j q)
              (λ t. w.past q h (leb-true j q t))
              (λ t.
              let u : q < j = leb-false j q t in
              by_eq q k (λ z. rw z f) (λ z. other q (λ y. c.next_past k q g a (omega arith) (y ∙ sym e))));
          same = λ z. c.next_same k g z ∙ e;
        }

    walk_falls : get n nexts k < j
    walk_falls = let l = c.next_low k (omega (arith, w.high)) in omega arith

    next_is : {m : ℕ} → i ≤ n → m ≡ get_or nexts k 0 → m ≡ get n nexts k
    next_is room e = e ∙ get_in n nexts k (omega (arith, w.high))

    pub walk_on : {m : ℕ} → i ≤ n → m ≡ get_or nexts k 0 → test k ≡ false → Walk test x b i m
    walk_on room e f = rw (next_is room e) (walk_next f)

    pub walk_less : {m : ℕ} → i ≤ n → m ≡ get_or nexts k 0 → m < j
    walk_less room e = rw (next_is room e) walk_falls

pub walk_found : {test : ℕ → Bool} {x : ℕ → ℕ} {b i j k : ℕ} → Walk test x b i j → j ≡ k + 1 → test k ≡ true → Hit test i (Some k)
walk_found w e t = (omega (arith, w.high, e), t)

pub key_sorted : (keys : List ℕ) (key : ℕ) → Sorted (has_key keys key) (entry keys) (bucket_of key)
key_sorted keys key = record { small = bucket_small key; sorted = λ k t. ap bucket_of (eqb-true _ _ t) }
