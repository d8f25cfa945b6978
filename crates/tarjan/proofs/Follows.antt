-- The loops of the search: over a value's references, and over all values.
--     Following, Running     their invariants: what is left leads where all of it leads
-- Assumes nothing.
use Prim.Native.Nat.{ℕ, ◌+◌, ◌-◌, ◌≤◌, ◌<◌}
use mathlib.Core.Path.{◌≡◌, refl, sym, ap, subst, ◌∙◌}
use mathlib.Core.List.{List, [], ◌∷◌}
use native.Mathlib.Omega.{arith}
use lib.ListN.{take, drop_of_length-le}
use Rattle.laws.specs.Lists.{In}
use Rattle.pack.specs.Lists.{list_len, list_item}
use Rattle.pack.specs.Named.{items_of, refs_of}
use Rattle.pack.specs.declared.counts.Counts.{Counts}
use Rattle.components.specs.Answers.{found}
use Rattle.components.specs.Found.{index as number, below}
use Rattle.components.specs.Tarjan.{State, start, follow, follow_all, tarjan}
use Rattle.components.proofs.Below.{below_at, below_end}
use Rattle.components.proofs.Classes.{length_listing}
use Rattle.components.proofs.Search as search
use Rattle.components.proofs.Steps.{good_start}
use Rattle.tarjan.specs.Search.{Holds, Gives, visit, Blank, Sorted}
use Rattle.tarjan.specs.Values.{InRange}
use Rattle.tarjan.specs.declared.search.Search.{Search}
use Rattle.tarjan.proofs.Arrays.{listed_length}
use Rattle.tarjan.proofs.Items.{items_from, items_start, items_at, items_end, item_in}

follow_first : (go : ℕ → State → ℕ × State) (w : ℕ) (ws : List ℕ) (s : State) (m : ℕ)
    → follow_all go (w ∷ ws) s m ≡ follow_all go ws (follow go w s m (number w s.found)).1 (follow go w s m (number w s.found)).0
unfolding follow_all
follow_first go w ws s m = refl

follow_none : (go : ℕ → State → ℕ × State) (s : State) (m : ℕ) → follow_all go [] s m ≡ (m, s)
unfolding follow_all
follow_none go s m = refl

-- from a₀ with low₀ the first k of the n items of the list at word s were followed
pub record Following (p : List ℕ) (c : Counts) (s : ℕ) (a₀ : Search) (low₀ n : ℕ) (a : Search) (low k : ℕ) : Type 0 where
  pub long : n ≡ list_len p c s
  pub grows : a₀.discovered ≤ a.discovered
  pub so_far : (t : State) → Holds p c a₀ t → (u : State) × Holds p c a u × (follow_all (visit p c) (items_from p c s k) u low ≡ follow_all (visit p c) (items_of p c s) t low₀)

pub follow_start : (p : List ℕ) (c : Counts) (s : ℕ) (a : Search) (low : ℕ) {n : ℕ} → n ≡ list_len p c s → Following p c s a low n a low 0
follow_start p c s a low e = record { long = e; grows = omega arith; so_far = λ t h. (t, h, ap (λ (ws : List ℕ). follow_all (visit p c) ws t low) (sym (items_start p c s))) }

module _ {p : List ℕ} {c : Counts} {s : ℕ} {a₀ : Search} {low₀ n : ℕ} {a : Search} {low k : ℕ} (v : Following p c s a₀ low₀ n a low k) where
  -- what is followed next is a value
  pub follow_value : {w : ℕ} → k < n → w ≡ list_item p c s k → ((i : ℕ) → In i (items_of p c s) → i < c.values) → w < c.values
  follow_value l e u = omega (arith, e, u (list_item p c s k) (item_in p c s k (omega (arith, v.long))))

  pub follow_turn : {b : Search} {got w : ℕ} → k < n → w ≡ list_item p c s k → a.discovered ≤ b.discovered → ((u : State) → Holds p c a u → Gives p c b got (follow (visit p c) w u low (number w u.found))) → Following p c s a₀ low₀ n b got (k + 1)
  follow_turn {b} {got} {w} l e grow g = record { long = v.long; grows = omega (arith, v.grows); so_far = λ t h. let o = v.so_far t h in go o.0 o.1 o.2 }
    where
      go : {end : ℕ × State} (u : State) → Holds p c a u → follow_all (visit p c) (items_from p c s k) u low ≡ end → (u' : State) × Holds p c b u' × (follow_all (visit p c) (items_from p c s (k + 1)) u' got ≡ end)
      go u h o =
          let t = subst (λ (i : ℕ). Gives p c b got (follow (visit p c) i u low (number i u.found))) e (g u h) in
          let f : ℕ × State = follow (visit p c) (list_item p c s k) u low (number (list_item p c s k) u.found) in (
            f.1,
            t.holds,
            ap (follow_all (visit p c) (items_from p c s (k + 1)) f.1) t.low_is
                ∙ sym (ap (λ (ws : List ℕ). follow_all (visit p c) ws u low) (items_at p c s k (omega (arith, v.long))) ∙ follow_first (visit p c) (list_item p c s k) (items_from p c s (k + 1)) u low)
                ∙ o,
          )

  pub follow_end : n ≤ k → (t : State) → Holds p c a₀ t → Gives p c a low (follow_all (visit p c) (items_of p c s) t low₀)
  follow_end l t h =
      let o = v.so_far t h in
      subst (λ (u : ℕ × State). Gives p c a low u) (sym (ap (λ (ws : List ℕ). follow_all (visit p c) ws o.0 low) (items_end p c s k (omega (arith, v.long))) ∙ follow_none (visit p c) o.0 low) ∙ o.2) (record { holds = o.1; low_is = refl })

-- ---- the loop over all values

-- the values below i were visited
pub record Running (p : List ℕ) (c : Counts) (a : Search) (low i : ℕ) : Type 0 where
  pub now_at : State
  pub holds : Holds p c a now_at
  pub so_far : follow_all (visit p c) (below (c.values - i) i) now_at low ≡ follow_all (visit p c) (below c.values 0) start 0

pub run_start : {p : List ℕ} {c : Counts} {a : Search} → InRange p c → Blank a → Running p c a 0 0
run_start {p} {c} {a} t b = record {
  now_at = start;
  holds = record {
    in_range = t;
    good = good_start (refs_of p c) c.values;
    len_index = b.len_index;
    len_stack = b.len_stack;
    len_listed = b.len_listed;
    len_sizes = b.len_sizes;
    discovered_is = b.discovered_is;
    top_le = omega (arith, b.top_is);
    length_le = omega (arith, b.length_is);
    stack_is = drop_of_length-le a.stack.values {i = a.stack.top} (omega (arith, b.len_stack, b.top_is));
    listed_is = ap (λ k. take k a.listing.values) b.length_is;
    index_is = λ y l. b.no_index y;
    size_is = λ y l. b.no_size y;
  };
  so_far = let e : c.values - 0 ≡ c.values = omega arith in ap (λ k. follow_all (visit p c) (below k 0) start 0) e;
}

module _ {p : List ℕ} {c : Counts} {a : Search} {low i : ℕ} (v : Running p c a low i) where
  pub run_turn : {b : Search} {got : ℕ} → i < c.values → ((u : State) → Holds p c a u → Gives p c b got (follow (visit p c) i u low (number i u.found))) → Running p c b got (i + 1)
  run_turn l g =
      let b = g v.now_at v.holds in
      let f : ℕ × State = follow (visit p c) i v.now_at low (number i v.now_at.found) in
      record {
        now_at = f.1;
        holds = b.holds;
        so_far = ap (follow_all (visit p c) (below (c.values - (i + 1)) (i + 1)) f.1) b.low_is
            ∙ sym (ap (λ (ws : List ℕ). follow_all (visit p c) ws v.now_at low) (below_at c.values i l) ∙ follow_first (visit p c) i (below (c.values - (i + 1)) (i + 1)) v.now_at low)
            ∙ v.so_far;
      }

  at_end : c.values ≤ i → Holds p c a (tarjan (refs_of p c) c.values)
  unfolding tarjan
  at_end l =
      let e : ◌≡◌ {A = ℕ × State} (low, v.now_at) (follow_all (visit p c) (below c.values 0) start 0) =
      sym (ap (λ (ws : List ℕ). follow_all (visit p c) ws v.now_at low) (below_end c.values i l) ∙ follow_none (visit p c) v.now_at low) ∙ v.so_far in
      subst (λ (u : ℕ × State). Holds p c a u.1) e v.holds

  -- all values are listed
  pub run_end : c.values ≤ i → Sorted p c a.listing
  unfolding found
  run_end l =
      let h = at_end l in
      let d : c.values ≡ a.listing.length = sym (search.listed_length (refs_of p c) c.values h.in_range.fits) ∙ length_listing (tarjan (refs_of p c) c.values).components ∙ listed_length h in
      record {
        len_listed = h.len_listed;
        len_sizes = h.len_sizes;
        listed_is = ap (λ k. take k a.listing.values) d ∙ h.listed_is;
        size_is = h.size_is;
      }
