-- The states that are met: the empty one, and those after fresh, set and find.
--     sets, makes, makes_none, empties    the rest of each contract, from the answer
--     live_set, live_compressed           n variables in use stay so
--     found_live                          what holds of every cell in use holds of what is found
--     set_done                            a variable in use is set to what is resolved, and never refused
--     done_known                          what a set that was done was given
-- Assumes nothing.
use mathlib.Core.Path.{◌≡◌, refl, sym, ap, ◌∙◌}
use mathlib.Core.List.{List, [], ◌∷◌}
use mathlib.Core.Bool.{Bool, true, false, ◌&&◌, and-false}
use Prim.Native.Nat.{ℕ, zero, suc, ◌+◌, ◌<◌, ◌≤◌}
use native.Mathlib.Nat.{not-suc-le-zero, zero-add}
use native.Mathlib.Omega.{arith}
use lib.ListN.{length, get_or, set, length-set, replicate, length-replicate}
use lib.Seq.{get_or-set_same, get_or-set_other, ext_get_or}
use lib.Dec.{leb}
use borrow.Author.Tests.{leb-false, lt-ltb, le-ltb, lt-leb, eq-eqb, ne_eqb}
use Rattle.laws.specs.Choice.{pick}
use Rattle.laws.proofs.Choice.{no, by_test, by_eq}
use Rattle.laws.proofs.Members.{by_le}
use Rattle.laws.specs.declared.refusal.Refusal.{Refusal}
use Rattle.unionfind.specs.Codes.{number, is_var, any_tag, tag_for, own_code}
use Rattle.unionfind.specs.Cells.{capacity, is_link, trail, found, set_all, compressed, among, Chain, stop, step, LoopFree, Knows, Live}
use Rattle.unionfind.specs.Answers.{Answer, full, unknown, closes, selves, Empties, set_answer, if_done, set_cells, Sets, fresh_answer, Makes}
use Rattle.unionfind.specs.declared.codes.Kind.{Kind}
use Rattle.std.proofs.Common.{Ok, Err}
use Rattle.unionfind.proofs.Chains.{not_both, is_trail, linked, ended}
use Rattle.unionfind.proofs.Stores.{link_is_var, own_no_link, store_end, store_link, compressed_kept, Unset}

-- ---- set

-- a refusal is not done
pub refused_not_done : {r : Refusal} → ◌≡◌ {A = Answer} (Err r) (Ok _) → ⊥
refused_not_done e = let z : ◌≡◌ {A = ℕ} 0 1 = cc in omega arith

-- what a set that was done was given
pub record Done? (n : ℕ) (xs : List ℕ) (v x : ℕ) : Type 0 where
  pub cell : v < n
  pub target : is_var x ≡ true → number x < n
  pub apart : is_link v x ≡ true → among v (trail xs (number x)) ≡ false

pub done_known : (n : ℕ) (xs : List ℕ) (v x : ℕ) → set_answer n xs v x ≡ Ok _ → Done? n xs v x
unfolding set_answer pick
done_known n xs v x e = go (leb n v) refl (is_var x) refl (leb n (number x)) refl (is_link v x) refl (among v (trail xs (number x))) refl e
  where
    go : (a : Bool) → leb n v ≡ a → (b : Bool) → is_var x ≡ b → (c : Bool) → leb n (number x) ≡ c → (d : Bool) → is_link v x ≡ d → (e : Bool) → among v (trail xs (number x)) ≡ e
        → pick a (unknown v) (pick (b && c) (unknown (number x)) (pick (d && e) (closes v) (Ok _))) ≡ Ok _ → Done? n xs v x
    go true p b q c r d t e u w = absurd (refused_not_done w)
    go false p true q true r d t e u w = absurd (refused_not_done w)
    go false p true q false r true t true u w = absurd (refused_not_done w)
    go false p true q false r true t false u w = record { cell = leb-false n v p; target = λ y. leb-false n (number x) r; apart = λ y. u }
    go false p true q false r false t e u w = record { cell = leb-false n v p; target = λ y. leb-false n (number x) r; apart = λ y. absurd (not_both t y) }
    go false p false q c r true t e u w = absurd (not_both q (link_is_var v x t))
    go false p false q c r false t e u w = record { cell = leb-false n v p; target = λ y. absurd (not_both q y); apart = λ y. absurd (not_both t y) }

-- a set that was done closes no loop
pub done_loopfree : {xs : List ℕ} → LoopFree xs → (n v x : ℕ) → n ≤ capacity → set_answer n xs v x ≡ Ok _ → LoopFree (set xs v x)
done_loopfree {xs = xs} s n v x m e =
    let d = done_known n xs v x e in
    by_test (is_link v x)
    (λ l. store_link s v x (omega (arith, d.cell)) (omega (arith, d.target (link_is_var v x l))) l (d.apart l))
    (λ l. store_end s v x (omega (arith, d.cell)) l)

-- what holds of the cells where a set was refused, and where it was done, holds after it
pub by_answer : (P : List ℕ → Type 0) (a : Answer) (new old : List ℕ) → P old → (a ≡ Ok _ → P new) → P (if_done a new old)
by_answer P (Ok x) new old p q = q refl
by_answer P (Err r) new old p q = p

pub set_loopfree : {xs : List ℕ} → LoopFree xs → (n v x : ℕ) → n ≤ capacity → LoopFree (set_cells n xs v x)
set_loopfree {xs = xs} s n v x m = by_answer LoopFree (set_answer n xs v x) (set xs v x) xs s (done_loopfree s n v x m)

pub sets : {xs : List ℕ} → LoopFree xs → (n v x : ℕ) → n ≤ capacity → {r : Answer} → r ≡ set_answer n xs v x → Sets n xs v x r (if_done r (set xs v x) xs)
sets s n v x m e = record { answer = e; cells = rw e; loopfree = rw e (set_loopfree s n v x m) }

pub refuses : {xs : List ℕ} → LoopFree xs → (n v x : ℕ) → n ≤ capacity → {r : Answer} {q : Refusal} → r ≡ Err q → Err q ≡ set_answer n xs v x → Sets n xs v x r xs
refuses s n v x m e a = rw e (sets s n v x m a)

-- ---- what holds of every cell in use

-- a cell after a store holds what was stored, or what it held
pub cell_set : (P : ℕ → Type 0) (xs : List ℕ) (v x u : ℕ) → P x → P (get_or xs u 0) → P (get_or (set xs v x) u 0)
cell_set P [] v x u p q = q
cell_set P (y ∷ ys) zero x zero p q = p
cell_set P (y ∷ ys) zero x (suc u) p q = q
cell_set P (y ∷ ys) (suc v) x zero p q = q
cell_set P (y ∷ ys) (suc v) x (suc u) p q = cell_set P ys v x u p q

cell_all : (P : ℕ → Type 0) (xs t : List ℕ) (r u : ℕ) → P r → P (get_or xs u 0) → P (get_or (set_all xs t r) u 0)
cell_all P xs [] r u p q = q
cell_all P xs (v ∷ t) r u p q = cell_set P (set_all xs t r) v r u p (cell_all P xs t r u p q)

-- a cell that is not among those set stays
cell_apart : (xs t : List ℕ) (r u : ℕ) → among u t ≡ false → get_or (set_all xs t r) u 0 ≡ get_or xs u 0
cell_apart xs [] r u a = refl
cell_apart xs (v ∷ t) r u a =
    by_eq v u
    (λ q. absurd (not_both a (rw (eq-eqb v u q))))
    (λ q. get_or-set_other (set_all xs t r) v u r 0 (λ e. q (sym e)) ∙ cell_apart xs t r u (rw (ne_eqb v u q) at a))

module _ {n : ℕ} {xs : List ℕ} (l : Live n xs) where
  found_in : (P : ℕ → Type 0) → ((u : ℕ) → u < n → P (get_or xs u 0)) → {v : ℕ} {t : List ℕ} → Chain xs v t → v < n → P (found xs v)
  found_in P q (stop {v = v} h e) m = rw (ended l.loopfree.size h e).finds (q v m)
  found_in P q (step {v = v} h e c) m =
      rw (linked l.loopfree.size h e c).finds (found_in P q c ((l.known v m).var (link_is_var v (get_or xs v 0) e)))

  -- a chain from a cell in use passes no other
  in_use : (u : ℕ) → n ≤ u → {v : ℕ} {t : List ℕ} → Chain xs v t → v < n → among u t ≡ false
  in_use u a (stop {v = v} h e) m = rw (ne_eqb v u (λ q. omega arith))
  in_use u a (step {v = v} h e c) m = rw (ne_eqb v u (λ q. omega arith)) (in_use u a c ((l.known v m).var (link_is_var v (get_or xs v 0) e)))

  pub found_live : (P : ℕ → Type 0) → ((u : ℕ) → u < n → P (get_or xs u 0)) → (v : ℕ) → v < n → P (found xs v)
  found_live P q v h = found_in P q (l.loopfree.ends v (omega (arith, l.room))).1 h

  -- and of every cell after compression
  pub cells_live : (P : ℕ → Type 0) → ((u : ℕ) → u < n → P (get_or xs u 0)) → (v : ℕ) → v < n → (u : ℕ) → u < n → P (get_or (compressed xs v) u 0)
  unfolding compressed
  cells_live P q v h u m = cell_all P xs (trail xs v) (found xs v) u (found_live P q v h) (q u m)

  cells_unused : (v : ℕ) → v < n → (u : ℕ) → n ≤ u → get_or (compressed xs v) u 0 ≡ get_or xs u 0
  unfolding compressed
  cells_unused v h u a =
      let c = (l.loopfree.ends v (omega (arith, l.room))).1 in
      cell_apart xs (trail xs v) (found xs v) u (rw (is_trail l.loopfree.size c) (in_use u a c h))

  pub live_compressed : (v : ℕ) → v < n → Live n (compressed xs v)
  live_compressed v h = record {
    room = l.room;
    loopfree = (compressed_kept l.loopfree v (omega (arith, l.room))).loopfree;
    known = cells_live (Knows n) l.known v h;
    unused = λ u a b. cells_unused v h u a ∙ l.unused u a b;
  }

  pub live_store : (v x : ℕ) → v < n → Knows n x → LoopFree (set xs v x) → Live n (set xs v x)
  live_store v x h k s = record {
    room = l.room;
    loopfree = s;
    known = λ u m. cell_set (Knows n) xs v x u k (l.known u m);
    unused = λ u a b. get_or-set_other xs v u x 0 (λ e. omega arith) ∙ l.unused u a b;
  }

  pub live_set : (v x : ℕ) → Knows n x → Live n (set_cells n xs v x)
  live_set v x k =
      by_answer (Live n) (set_answer n xs v x) (set xs v x) xs l
      (λ e. live_store v x (done_known n xs v x e).cell k (done_loopfree l.loopfree n v x l.room e))

-- ---- fresh

-- what is known stays known
pub knows_more : {n x : ℕ} → Knows n x → Knows (n + 1) x
knows_more k = record { var = λ e. omega (arith, k.var e) }

-- a code that is no variable's is known to all
pub knows_other : (n x : ℕ) → is_var x ≡ false → Knows n x
knows_other n x f = record { var = λ e. absurd (not_both f e) }

own_number : (t n : ℕ) → n < capacity → number (own_code t n) ≡ n
own_number t n h = omega arith

knows_own : (t n : ℕ) → n < capacity → Knows (n + 1) (own_code t n)
knows_own t n h = record { var = λ e. omega arith }

pub live_fresh : {n : ℕ} {xs : List ℕ} → Live n xs → (t : ℕ) → n < capacity → Live (n + 1) (set xs n (own_code t n))
live_fresh {n = n} {xs = xs} l t h = record {
  room = omega arith;
  loopfree = store_end l.loopfree n (own_code t n) h (own_no_link n (own_code t n) (own_number t n h));
  known = λ u m. by_eq u n
      (λ e. rw (e, get_or-set_same xs n (own_code t n) 0 (omega (arith, l.loopfree.size))) (knows_own t n h))
      (λ e. let k : Knows n (get_or xs u 0) = l.known u (omega arith) in
      rw (get_or-set_other xs n u (own_code t n) 0 e) (record { var = λ p. omega (arith, k.var p) }));
  unused = λ u a b. get_or-set_other xs n u (own_code t n) 0 (λ e. omega arith) ∙ l.unused u (omega arith) b;
}

pub makes : {n : ℕ} {xs : List ℕ} → Live n xs → (kind : Kind) → n < capacity → Makes n xs kind (Ok (own_code (tag_for kind) n)) (set xs n (own_code (tag_for kind) n))
unfolding fresh_answer pick
makes {n = n} l kind h =
    record { answer = rw (lt-ltb n capacity h); cells = rw (lt-ltb n capacity h); live = (live_fresh l (tag_for kind) h, knows_own (tag_for kind) n h) }

pub makes_none : {n : ℕ} {xs : List ℕ} → Live n xs → (kind : Kind) → capacity ≤ n → Makes n xs kind full xs
unfolding fresh_answer pick
makes_none {n = n} l kind h = record { answer = rw (le-ltb n capacity h); cells = rw (le-ltb n capacity h); live = l }

-- ---- the empty one

selves_length : (i n : ℕ) → length (selves i n) ≡ n
unfolding selves
selves_length i zero = refl
selves_length i (suc n) = ap suc (selves_length (suc i) n)

selves_at : (i n k : ℕ) → k < n → get_or (selves i n) k 0 ≡ own_code any_tag (i + k)
unfolding selves
selves_at i zero k h = absurd (not-suc-le-zero h)
selves_at i (suc n) zero h = omega arith
selves_at i (suc n) (suc k) h = selves_at (suc i) n k (omega arith) ∙ omega arith

-- the cells below i map to themselves
pub record Filled (xs : List ℕ) (i : ℕ) : Type 0 where
  pub size : length xs ≡ capacity
  pub own : (k : ℕ) → k < i → get_or xs k 0 ≡ own_code any_tag k

pub filled_none : Filled (replicate capacity 0) 0
filled_none = record { size = length-replicate {A = ℕ} capacity 0; own = λ k h. absurd (not-suc-le-zero h) }

pub filled_more : {xs : List ℕ} {i x : ℕ} → Filled xs i → i < capacity → x ≡ own_code any_tag i → Filled (set xs i x) (i + 1)
filled_more {xs = xs} {i = i} {x = x} f h e = record {
  size = length-set xs i x ∙ f.size;
  own = λ k l. by_eq k i (λ q. rw (q, get_or-set_same xs i x 0 (omega (arith, f.size))) e) (λ q. get_or-set_other xs i k x 0 q ∙ f.own k (omega arith));
}

pub empties : {xs : List ℕ} → Filled xs capacity → Empties 0 xs
empties {xs = xs} f = record {
  none = refl;
  cells = ext_get_or 0 xs (selves 0 capacity) (f.size ∙ sym (selves_length 0 capacity)) (λ k h. f.own k (omega (arith, f.size)) ∙ sym (rw zero-add at (selves_at 0 capacity k (omega (arith, f.size)))));
  live = record {
    room = omega arith;
    loopfree = record {
      size = f.size;
      ends = λ v h. ((v ∷ []), stop h (rw (f.own v h) (own_no_link v (own_code any_tag v) (own_number any_tag v h))));
    };
    known = λ v h. absurd (not-suc-le-zero h);
    unused = λ v a b. f.own v b;
  };
}

pub selves_empty : Empties 0 (selves 0 capacity)
selves_empty = empties (record { size = selves_length 0 capacity; own = λ k h. rw zero-add at (selves_at 0 capacity k h) })

-- the cells below i map to themselves, and those from n on
pub record Unsetting (n : ℕ) (xs : List ℕ) (i : ℕ) : Type 0 where
  pub room : n ≤ capacity
  pub done : Filled xs i
  pub rest : (k : ℕ) → n ≤ k → k < capacity → get_or xs k 0 ≡ own_code any_tag k

pub unset_none : {n : ℕ} {xs : List ℕ} → Live n xs → Unsetting n xs 0
unset_none l = record { room = l.room; done = record { size = l.loopfree.size; own = λ k h. absurd (not-suc-le-zero h) }; rest = l.unused }

pub unset_more : {n : ℕ} {xs : List ℕ} {i x : ℕ} → Unsetting n xs i → i < n → x ≡ own_code any_tag i → Unsetting n (set xs i x) (i + 1)
unset_more {xs = xs} {i = i} {x = x} u h e = record {
  room = u.room;
  done = filled_more u.done (omega (arith, h, u.room)) e;
  rest = λ k l m. get_or-set_other xs i k x 0 (λ q. omega (arith, h, l, q)) ∙ u.rest k l m;
}

pub unset_all : {n : ℕ} {xs : List ℕ} {i : ℕ} → Unsetting n xs i → n ≤ i → xs ≡ selves 0 capacity
unset_all {n = n} {xs = xs} u h =
    (empties (record { size = u.done.size; own = λ k l. by_le (suc k) n (λ m. u.done.own k (omega (arith, h, m))) (λ m. u.rest k (omega (arith, m)) l) })).cells

-- ---- a set that is never refused

-- a variable in use is set to what is resolved
pub set_done : {n : ℕ} {xs : List ℕ} (v x : ℕ) → v < n → Knows n x → (is_var x ≡ true → Unset xs x) → set_answer n xs v x ≡ Ok _
unfolding set_answer
set_done {n = n} {xs = xs} v x h k u =
    sym (no (leb n v) _ _ (lt-leb n v h) (no (is_var x && leb n (number x)) _ _ known (no (is_link v x && among v (trail xs (number x))) _ _ apart refl)))
  where
    known : (is_var x && leb n (number x)) ≡ false
    known = by_test (is_var x) (λ e. rw (lt-leb n (number x) (k.var e)) (and-false (is_var x))) (λ e. rw e)

    apart : (is_link v x && among v (trail xs (number x))) ≡ false
    apart =
        by_test (is_link v x)
        (λ e. rw ((u (link_is_var v x e)).alone, ne_eqb (number x) v (λ q. not_both (own_no_link v x q) e)) (and-false (is_link v x)))
        (λ e. rw e)
