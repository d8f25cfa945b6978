-- The search for a context value.
--     is_context, entered          what one value answers; `Marking` is what is known where its references are asked
--     Searching                    the loop over a list: all of it so far was asked and answered no
--     asks_constant, asks_other    what a constant answers, and any other value
-- Assumes nothing.
use Prim.Native.Nat.{ℕ, suc, ◌≤◌, ◌<◌}
use mathlib.Core.Path.{◌≡◌, refl, sym, ap, subst, ◌∙◌}
use mathlib.Core.Logic.{◌⊎◌, inl, inr, ⊎_elim}
use mathlib.Core.Bool.{Bool, true, false}
use mathlib.Core.List.{List, [], ◌∷◌}
use native.Mathlib.Omega.{arith}
use lib.ListN.{get_or, set, length-set}
use lib.Seq.{get_or-set_same, get_or-set_other}
use borrow.Author.Tests.{eq-eqb, ne_eqb, eqb-true}
use Rattle.std.specs.Prelude.{cond, not}
use Rattle.std.proofs.lemmas.List.Sums.{sum_by-set}
use Rattle.laws.specs.Lists.{In}
use Rattle.laws.proofs.Choice.{by_eq, by_test, fails}
use Rattle.laws.proofs.Lists.{in_one, gather_in}
use Rattle.laws.proofs.Members.{in_self}
use Rattle.pack.specs.Lists.{list_len, list_item}
use Rattle.pack.specs.Named.{items_of, refs_of}
use Rattle.pack.specs.declared.counts.Counts.{Counts}
use Rattle.components.specs.Answers.{any, context}
use Rattle.components.specs.DepthFirst.{reached}
use Rattle.components.specs.Walks.{Walk, one, more, Reach}
use Rattle.components.proofs.Reached.{reached_walk, walk_reached}
use Rattle.components.proofs.Tests.{some_any, any_some}
use Rattle.components.proofs.Walks.{edge_reach, reach_walk}
use Rattle.tarjan.specs.Values.{capacity, kind_of, list_of, InRange}
use Rattle.tarjan.proofs.Items.{item_in}
use Rattle.value_cycle.specs.Context.{Sized, Visited, unvisited, Passed, Clear, Grew, SeeksIn, Seeks, Asks}
use Rattle.value_cycle.proofs.Constants.{constant_and}

module _ {p : List ℕ} {c : Counts} where
  -- v is a context value
  pub is_context : {l : List Bool} {v : ℕ} → Sized l → kind_of p c v ≡ 2 → Seeks p c l v true l
  is_context {l} {v} z k = record { sized = z; fewer = omega arith; meets = λ e. (v, in_self v [], (v, inl refl, k)); grew = λ e. absurd (fails e) }

-- v was not visited, and is no context value; the list that was read at word s is that of its references
pub record Marking (p : List ℕ) (c : Counts) (l : List Bool) (v s : ℕ) : Type 0 where
  pub sized : Sized l
  pub small : v < capacity
  pub unvisited : get_or l v false ≡ false
  pub other : kind_of p c v ≡ 2 → ⊥
  pub list_is : s ≡ list_of p c v

pub marking : {p : List ℕ} {c : Counts} (l : List Bool) {v s k : ℕ} → InRange p c → Sized l → v < c.values
    → get_or l v false ≡ false → k ≡ kind_of p c v → (k ≡ 2 → ⊥) → s ≡ list_of p c v → Marking p c l v s
marking l t z b u e d i = record { sized = z; small = omega (arith, t.few); unvisited = u; other = λ q. d (e ∙ q); list_is = i }

-- v is marked as visited, and what it references is asked
module _ {p : List ℕ} {c : Counts} {l : List Bool} {v s : ℕ} (m : Marking p c l v s) where
  mark_here : Visited (set l v true) v
  mark_here = get_or-set_same l v true false (omega (arith, m.sized, m.small))

  mark_keeps : (y : ℕ) → Visited l y → Visited (set l v true) y
  mark_keeps y h = by_eq y v (λ e. rw e mark_here) (λ e. get_or-set_other l v y true false e ∙ h)

  new_here : {l' : List Bool} → Grew p c (set l v true) (items_of p c s) l' → (y : ℕ) → Visited (set l v true) y → Visited l y ⊎ Passed p c l' y
  new_here {l'} q y i =
      by_eq y v
      (λ e. inr (subst (Passed p c l') (sym e) (m.other, λ w h. q.has w (subst (λ (j : ℕ). In w (items_of p c j)) (sym m.list_is) h))))
      (λ e. inl (sym (get_or-set_other l v y true false e) ∙ i))

  grows : {l' : List Bool} → Grew p c (set l v true) (items_of p c s) l' → Grew p c l (v ∷ []) l'
  grows q = record {
    stays = λ y h. q.stays y (mark_keeps y h);
    has = λ w i. rw (in_one w v i) (q.stays v mark_here);
    new = λ y h. ⊎_elim (λ i. new_here q y i) (λ i. inr i) (q.new y h);
  }

  -- one value more is visited
  pub less : suc (unvisited (set l v true)) ≡ unvisited l
  less =
      let one : Bool → ℕ = λ b. cond (not b) 1 0 in
      omega (arith, sum_by-set one l v true false (omega (arith, m.sized, m.small)), ap one m.unvisited)

  pub marked_sized : Sized (set l v true)
  marked_sized = length-set l v true ∙ m.sized

  pub entered : {r : Bool} {l' : List Bool} → SeeksIn p c (set l v true) (items_of p c s) r l' → Seeks p c l v r l'
  entered g = record {
    sized = g.sized;
    fewer = omega (arith, g.fewer, less);
    meets = λ t. let k = g.meets t in (v, in_self v [], (k.2.0, edge_reach (refs_of p c) (subst (λ (j : ℕ). In k.0 (items_of p c j)) m.list_is k.1) k.2.1, k.2.2));
    grew = λ f. grows (g.grew f);
  }

-- the first k of the n items at word s were asked, and none reaches a context value
pub record Searching (p : List ℕ) (c : Counts) (s : ℕ) (l₀ : List Bool) (n : ℕ) (l : List Bool) (k : ℕ) : Type 0 where
  pub long : n ≡ list_len p c s
  pub sized : Sized l
  pub fewer : unvisited l ≤ unvisited l₀
  pub stays : (y : ℕ) → Visited l₀ y → Visited l y
  pub has : (j : ℕ) → j < k → Visited l (list_item p c s j)
  pub new : (y : ℕ) → Visited l y → Visited l₀ y ⊎ Passed p c l y

module _ {p : List ℕ} {c : Counts} {s : ℕ} {l₀ : List Bool} {n : ℕ} {l : List Bool} {k : ℕ} (v : Searching p c s l₀ n l k) where
  -- what is asked next is a value
  pub search_value : {w : ℕ} → k < n → w ≡ list_item p c s k → ((i : ℕ) → In i (items_of p c s) → i < c.values) → w < c.values
  search_value h e u = omega (arith, e, u (list_item p c s k) (item_in p c s k (omega (arith, v.long))))

  -- its answer is yes
  pub search_found : {w : ℕ} {r : Bool} {l' : List Bool} → k < n → w ≡ list_item p c s k → Seeks p c l w r l' → r ≡ true → SeeksIn p c l₀ (items_of p c s) true l'
  search_found {w} {r} h e g t =
      let m = g.meets t in
      let a : m.0 ≡ list_item p c s k = in_one m.0 w m.1 ∙ e in
      record {
        sized = g.sized;
        fewer = omega (arith, g.fewer, v.fewer);
        meets = λ q. (m.0, subst (λ (i : ℕ). In i (items_of p c s)) (sym a) (item_in p c s k (omega (arith, v.long))), m.2);
        grew = λ q. absurd (fails q);
      }

  pub search_end : n ≤ k → SeeksIn p c l₀ (items_of p c s) false l
  unfolding items_of
  search_end h = record {
    sized = v.sized;
    fewer = v.fewer;
    meets = λ q. absurd (fails (sym q));
    grew = λ q. record {
      stays = v.stays;
      has = λ w i.
          let t = gather_in w (λ j. list_item p c s j ∷ []) (list_len p c s) 0 i in
          subst (Visited l) (sym (in_one w (list_item p c s t.0) t.3)) (v.has t.0 (omega (arith, t.2, v.long)));
      new = v.new;
    };
  }

-- ---- what a constant answers

-- where each visited value is passed, a walk from one of them leads to visited values
clear_walk : (p : List ℕ) (c : Counts) (l : List Bool) → Clear p c l → {y x : ℕ} → Visited l y → Walk (refs_of p c) y x → Visited l x
clear_walk p c l q {y} {x} h (one e) = (q y h).1 x e
clear_walk p c l q {y} {x} h (more {b = b} e w) = clear_walk p c l q ((q y h).1 b e) w

module _ {p : List ℕ} {c : Counts} where
  clear_grew : {l l' : List Bool} {v : ℕ} → Clear p c l → Grew p c l (v ∷ []) l' → Clear p c l'
  clear_grew {l} {l'} q g y h = ⊎_elim (λ i. ((q y i).0, λ w e. g.stays w ((q y i).1 w e))) (λ i. i) (g.new y h)

  module _ {l l' : List Bool} {v : ℕ} {r : Bool} (t : InRange p c) (b : v < c.values) (z : kind_of p c v ≡ 0) (g : Seeks p c l v r l') where
    reaches : r ≡ true → any (context (kind_of p c) (refs_of p c) c.values) (reached (refs_of p c) c.values v) ≡ true
    reaches q =
        let m = g.meets q in
        let a : m.0 ≡ v = in_one m.0 v m.1 in
        let w : Walk (refs_of p c) v m.2.0 = reach_walk (refs_of p c) (λ e. absurd (omega (arith, z, m.2.2, ap (kind_of p c) e))) (subst (λ (i : ℕ). Reach (refs_of p c) i m.2.0) a m.2.1) in
        some_any (context (kind_of p c) (refs_of p c) c.values) (reached (refs_of p c) c.values v) m.2.0 (walk_reached (refs_of p c) c.values t.fits v m.2.0 b w) (eq-eqb (kind_of p c m.2.0) 2 m.2.2)

    reaches_none : Clear p c l → r ≡ false → any (context (kind_of p c) (refs_of p c) c.values) (reached (refs_of p c) c.values v) ≡ false
    reaches_none q f =
        by_test (any (context (kind_of p c) (refs_of p c) c.values) (reached (refs_of p c) c.values v))
        (λ y.
        let m = any_some (context (kind_of p c) (refs_of p c) c.values) (reached (refs_of p c) c.values v) y in
        let d = clear_grew q (g.grew f) in
        absurd ((d m.0 (clear_walk p c l' d ((g.grew f).has v (in_self v [])) (reached_walk (refs_of p c) c.values t.fits v m.0 b m.1))).0 (eqb-true (kind_of p c m.0) 2 m.2)))
        (λ n. n)

    asks : Asks p c l v r l'
    asks = record {
      sized = g.sized;
      is = λ q. constant_and refl z (by_test r (λ y. y ∙ sym (reaches y)) (λ n. n ∙ sym (reaches_none q n)));
      clear = λ q f. clear_grew q (g.grew f);
    }

  -- the kind k that was read of v is that of a constant, and v was asked
  pub asks_constant : {l l' : List Bool} {v k : ℕ} {r : Bool} → InRange p c → v < c.values → k ≡ kind_of p c v → k ≡ 0 → Seeks p c l v r l' → Asks p c l v r l'
  asks_constant t b e h g = asks t b (sym e ∙ h) g

  pub asks_other : {l : List Bool} {v k : ℕ} → Sized l → k ≡ kind_of p c v → (k ≡ 0 → ⊥) → Asks p c l v false l
  asks_other {l} {v} z e h = record {
    sized = z;
    is = λ q. rw (ne_eqb (kind_of p c v) 0 (λ d. h (e ∙ d)));
    clear = λ q f. q;
  }
