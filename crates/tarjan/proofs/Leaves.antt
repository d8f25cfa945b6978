-- The end of a visit, on the arrays: the value stays on the stack (`stays`), or a component leaves it (`leaves`).
-- Assumes nothing.
use Prim.Native.Nat.{ℕ, suc, ◌+◌, ◌-◌, ◌≤◌, ◌<◌}
use mathlib.Core.Path.{◌≡◌, sym, ap, subst, ◌∙◌}
use mathlib.Core.List.{List, [], ◌∷◌, ◌++◌}
use native.Mathlib.Omega.{arith}
use lib.ListN.{length, take, drop, get_or, length-append, length-drop}
use lib.Seq.{drop-drop, drop-append_seam, length-take-le}
use borrow.Author.Tests.{eq-eqb, ne_eqb}
use Rattle.std.proofs.lemmas.List.{take-append-drop}
use Rattle.laws.specs.Lists.{count, In}
use Rattle.laws.proofs.Lists.{count_append}
use Rattle.laws.proofs.Members.{in_at}
use Rattle.pack.specs.Named.{items_of, refs_of}
use Rattle.pack.specs.declared.counts.Counts.{Counts}
use Rattle.components.specs.Answers.{over, size_in}
use Rattle.components.specs.Tarjan.{State, push, pop, listing, follow_all, leave}
use Rattle.components.specs.Invariant.{Good}
use Rattle.components.proofs.Steps.{Step}
use Rattle.components.proofs.Unfold.{finished, unfolds}
use Rattle.components.proofs.Visits.{pushed, follows, visits, stack_x}
use Rattle.tarjan.specs.Search.{Holds, Gives, visit, above, Pops, Popped}
use Rattle.tarjan.specs.Values.{capacity, list_of, InRange}
use Rattle.tarjan.specs.declared.search.Search.{Search}
use Rattle.tarjan.specs.declared.stack.Stack.{Stack}
use Rattle.tarjan.proofs.Arrays.{stack_length, enough}

count_take : (y k : ℕ) (l : List ℕ) → count y (take k l) ≤ count y l
count_take y k l = omega (arith, count_append y (take k l) (drop k l), ap (count y) (take-append-drop k l))

leave_own : (s : State) (r : ℕ × State) → r.0 ≡ suc (length s.found) → finished s r ≡ (r.0, pop s r.1)
unfolding leave
leave_own s r e = ap (leave s r) (eq-eqb r.0 (suc (length s.found)) e)

leave_other : (s : State) (r : ℕ × State) → (r.0 ≡ suc (length s.found) → ⊥) → finished s r ≡ r
unfolding leave
leave_other s r d = ap (leave s r) (ne_eqb r.0 (suc (length s.found)) d)

-- the references of x, in the list that was read, are values
pub refs_values : {p : List ℕ} {c : Counts} {x sl : ℕ} → InRange p c → x < c.values → sl ≡ list_of p c x → (w : ℕ) → In w (items_of p c sl) → w < c.values
refs_values {p} {c} {x} t l e w i = t.fits x l w (subst (λ (j : ℕ). In w (items_of p c j)) e i)

-- x was put on the stack at a, and its references were followed to b
module _ {p : List ℕ} {c : Counts} {x : ℕ} {a : Search} {s : State} (h : Holds p c a s) (l : x < c.values) (z : count x s.found ≡ 0) where
  abbrev through : ℕ × State
  through = follow_all (visit p c) (refs_of p c x) (push x s) (suc (length s.found))

  went : Step (refs_of p c) c.values (refs_of p c x) (suc (length s.found)) (push x s) through.0 through.1
  went = follows (refs_of p c) c.values h.in_range.fits c.values (visit p c) (visits (refs_of p c) c.values h.in_range.fits c.values) (refs_of p c x) (push x s) (suc (length s.found)) (h.in_range.fits x l) (pushed (refs_of p c) c.values x s h.good l z) (omega arith) (omega arith)

  visit_is : visit p c x s ≡ finished s through
  visit_is = unfolds (refs_of p c) c.values h.in_range.fits x s h.good l z

  module _ {sl : ℕ} {b : Search} {low : ℕ} (es : sl ≡ list_of p c x) (g : Gives p c b low (follow_all (visit p c) (items_of p c sl) (push x s) (a.discovered + 1))) where
    follow_is : follow_all (visit p c) (items_of p c sl) (push x s) (a.discovered + 1) ≡ through
    follow_is =
        let k : a.discovered + 1 ≡ suc (length s.found) = omega (arith, h.discovered_is) in
        ap (λ j. follow_all (visit p c) (items_of p c j) (push x s) (a.discovered + 1)) es ∙ ap (follow_all (visit p c) (refs_of p c x) (push x s)) k

    low_is : low ≡ through.0
    low_is = g.low_is ∙ ap (λ (t : ℕ × State). t.0) follow_is

    holds : Holds p c b through.1
    holds = subst (λ (t : ℕ × State). Holds p c b t.1) follow_is g.holds

    pub stays : (low ≡ a.discovered + 1 → ⊥) → Gives p c b low (visit p c x s)
    stays d = subst (λ (t : ℕ × State). Gives p c b low t) (follow_is ∙ sym (leave_other s through (λ e. d (low_is ∙ e ∙ omega (arith, h.discovered_is)))) ∙ sym visit_is) g

    -- ---- the component

    abbrev component : List ℕ
    component = take (length through.1.stack - length s.stack) through.1.stack

    over_x : through.1.stack ≡ (went.seg ++ (x ∷ [])) ++ s.stack
    over_x = stack_x (refs_of p c) c.values h.good z went

    pub below_top : b.stack.top < a.stack.top
    below_top = omega (arith, stack_length holds, stack_length h, ap length over_x, length-append (went.seg ++ (x ∷ [])) s.stack, length-append went.seg (x ∷ []), h.top_le, holds.top_le)

    -- they stand on the stack of b above that of a
    abbrev members : List ℕ
    members = above b.stack a.stack.top

    members_are : members ≡ component
    members_are =
        let k : a.stack.top - b.stack.top ≡ length through.1.stack - length s.stack = omega (arith, below_top, stack_length holds, stack_length h, h.top_le) in
        ap (λ j. take j (drop b.stack.top b.stack.values)) k ∙ ap (take (length through.1.stack - length s.stack)) holds.stack_is

    many : length members ≡ a.stack.top - b.stack.top
    many = length-take-le (a.stack.top - b.stack.top) (drop b.stack.top b.stack.values) (omega (arith, length-drop b.stack.top b.stack.values, holds.len_stack, h.top_le))

    is_value : (y : ℕ) → In y members → y < c.values
    is_value y m =
        let k : count y component ≤ count y through.1.stack = count_take y (length through.1.stack - length s.stack) through.1.stack in
        let e : count y members ≡ count y component = ap (count y) members_are in
        holds.good.under y (omega (arith, holds.good.split y))

    pub pops : Pops b a.stack.top
    pops = record {
      len_stack = holds.len_stack;
      lo = omega (arith, below_top);
      hi = h.top_le;
      takes = record {
        len_listed = holds.len_listed;
        len_sizes = holds.len_sizes;
        space = omega (arith, below_top, many, enough holds, h.top_le);
        under = λ i l. omega (arith, h.in_range.few, is_value (get_or members i 0) (in_at members i l));
      };
    }

    rest_is : drop a.stack.top b.stack.values ≡ s.stack
    rest_is =
        let k : a.stack.top ≡ b.stack.top + length (went.seg ++ (x ∷ [])) = omega (arith, below_top, ap length over_x, length-append (went.seg ++ (x ∷ [])) s.stack, stack_length holds, stack_length h, h.top_le) in
        ap (λ j. drop j b.stack.values) k ∙ sym (drop-drop (length (went.seg ++ (x ∷ []))) b.stack.top b.stack.values) ∙ ap (drop (length (went.seg ++ (x ∷ [])))) (holds.stack_is ∙ over_x) ∙ drop-append_seam (went.seg ++ (x ∷ [])) s.stack

    module _ {e : Search} (own : low ≡ a.discovered + 1) (m : Popped b a.stack.top e) where
      after_is : visit p c x s ≡ (through.0, pop s through.1)
      after_is = visit_is ∙ leave_own s through (omega (arith, low_is, own, h.discovered_is))

      sizes : (y : ℕ) → y < capacity → get_or e.listing.sizes y 0 ≡ size_in (component ∷ through.1.components) y
      sizes y l =
          m.taken.size_is y l
          ∙ ap (λ (k : List ℕ). over (count y k) (length k) (get_or b.listing.sizes y 0)) members_are
          ∙ ap (over (count y component) (length component)) (holds.size_is y l)

      holds_popped : Holds p c e (pop s through.1)
      holds_popped = record {
        in_range = h.in_range;
        good = subst (λ (u : ℕ × State). Good (refs_of p c) c.values u.1) after_is (visits (refs_of p c) c.values h.in_range.fits c.values x s h.good l z (omega arith)).good;
        len_index = ap length m.index_is ∙ holds.len_index;
        len_stack = ap (λ (u : Stack). length u.values) m.stack_is ∙ holds.len_stack;
        len_listed = m.taken.len_listed;
        len_sizes = m.taken.len_sizes;
        discovered_is = m.discovered_is ∙ holds.discovered_is;
        top_le = omega (arith, ap (λ (u : Stack). u.top) m.stack_is, h.top_le);
        length_le = omega (arith, m.taken.length_is, many, below_top, enough holds, h.top_le);
        stack_is = ap (λ (u : Stack). drop u.top u.values) m.stack_is ∙ rest_is;
        listed_is = m.taken.listed_is ∙ ap (λ (u : List ℕ). u ++ members) holds.listed_is ∙ ap (λ (u : List ℕ). listing through.1.components ++ u) members_are;
        index_is = λ y l. ap (λ (u : List ℕ). get_or u y 0) m.index_is ∙ holds.index_is y l;
        size_is = sizes;
      }

      pub leaves : Gives p c e low (visit p c x s)
      leaves = subst (λ (u : ℕ × State). Gives p c e low u) (sym after_is) (record { holds = holds_popped; low_is = low_is })
