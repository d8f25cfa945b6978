-- The arrays of the search and the state that they stand for.
--     unseen      a value whose index is 0 is not discovered
--     put         a value is put on the stack
-- Assumes nothing.
use Prim.Native.Nat.{ℕ, zero, suc, ◌+◌, ◌-◌, ◌≤◌, ◌<◌, min}
use mathlib.Core.Path.{◌≡◌, refl, sym, ap, subst, ◌∙◌}
use mathlib.Core.Bool.{true, false}
use mathlib.Core.List.{List, ◌∷◌, ◌++◌}
use native.Mathlib.Omega.{arith}
use lib.ListN.{length, drop, get_or, set, length-set, length-append, length-drop}
use lib.Seq.{length-take-le, drop-cons, drop-set-lt, get_or-set_same, get_or-set_other}
use Rattle.laws.specs.Lists.{count, In}
use Rattle.laws.proofs.Choice.{by_eq, fails}
use Rattle.laws.proofs.Lists.{count_append}
use Rattle.pack.specs.Named.{refs_of}
use Rattle.pack.specs.declared.counts.Counts.{Counts}
use Rattle.components.specs.Answers.{has}
use Rattle.components.specs.Found.{index as number}
use Rattle.components.specs.Tarjan.{State, push, flat, lower, follow}
use Rattle.components.proofs.Classes.{length_listing}
use Rattle.components.proofs.Indexes.{index_zero, index_same, index_other}
use Rattle.components.proofs.Rooms.{room, at_most}
use Rattle.components.proofs.Tests.{in_has, has_in}
use Rattle.components.proofs.Visits.{pushed, space}
use Rattle.tarjan.specs.Search.{Holds, Gives, visit, pushed as on_top}
use Rattle.tarjan.specs.Values.{capacity}
use Rattle.tarjan.specs.declared.search.Search.{Search}
use Rattle.tarjan.specs.declared.stack.Stack.{Stack}

module _ {p : List ℕ} {c : Counts} {a : Search} {s : State} (h : Holds p c a s) where
  pub stack_length : length s.stack ≡ capacity - a.stack.top
  stack_length = ap length (sym h.stack_is) ∙ length-drop a.stack.top a.stack.values ∙ ap (λ k. k - a.stack.top) h.len_stack

  pub listed_length : length (flat s.components) ≡ a.listing.length
  listed_length = sym (length_listing s.components) ∙ ap length (sym h.listed_is) ∙ length-take-le a.listing.length a.listing.values (omega (arith, h.length_le, h.len_listed))

  -- what is discovered: the stack and the listing
  both_count : (y : ℕ) → count y (s.stack ++ flat s.components) ≡ count y s.found
  both_count y = omega (arith, count_append y s.stack (flat s.components), h.good.split y)

  -- the listing never reaches the stack
  pub enough : a.listing.length ≤ a.stack.top
  enough =
      omega (
        arith,
        stack_length,
        listed_length,
        h.top_le,
        h.in_range.few,
        length-append s.stack (flat s.components),
        at_most c.values (s.stack ++ flat s.components) (λ y. omega (arith, h.good.once y, both_count y)) (λ y k. h.good.under y (omega (arith, both_count y))),
      )

  -- where a value is not yet discovered, there is room for it
  pub stack_room : (x : ℕ) → x < c.values → count x s.found ≡ 0 → a.listing.length < a.stack.top
  stack_room x l z =
      omega (
        arith,
        stack_length,
        listed_length,
        h.top_le,
        h.in_range.few,
        length-append s.stack (flat s.components),
        room c.values (s.stack ++ flat s.components) x l (omega (arith, both_count x)) (λ y. omega (arith, h.good.once y, both_count y)) (λ y k. h.good.under y (omega (arith, both_count y))),
      )

  pub next_room : (x : ℕ) → x < c.values → count x s.found ≡ 0 → a.discovered < capacity
  next_room x l z = omega (arith, h.discovered_is, h.in_range.few, space (refs_of p c) c.values x s h.good l z)

  pub unseen : (w : ℕ) → w < c.values → get_or a.index w 0 ≡ 0 → count w s.found ≡ 0
  unseen w l e = index_zero w s.found (sym (h.index_is w (omega (arith, h.in_range.few))) ∙ e)

  -- x is put on the stack
  put_on : (x : ℕ) → x < c.values → count x s.found ≡ 0
      → Holds p c (record { index = set a.index x (a.discovered + 1); discovered = a.discovered + 1; stack = on_top x a.stack; listing = a.listing }) (push x s)
  put_on x l z =
      let room = stack_room x l z in
      let t : suc (a.stack.top - 1) ≡ a.stack.top = omega arith in
      record {
        in_range = h.in_range;
        good = pushed (refs_of p c) c.values x s h.good l z;
        len_index = length-set a.index x (a.discovered + 1) ∙ h.len_index;
        len_stack = length-set a.stack.values (a.stack.top - 1) x ∙ h.len_stack;
        len_listed = h.len_listed;
        len_sizes = h.len_sizes;
        discovered_is = omega (arith, h.discovered_is);
        top_le = omega (arith, h.top_le);
        length_le = h.length_le;
        stack_is = drop-cons (set a.stack.values (a.stack.top - 1) x) (a.stack.top - 1) 0 (omega (arith, length-set a.stack.values (a.stack.top - 1) x, h.len_stack, h.top_le))
            ∙ ap (λ (k : ℕ). k ∷ drop (suc (a.stack.top - 1)) (set a.stack.values (a.stack.top - 1) x)) (get_or-set_same a.stack.values (a.stack.top - 1) x 0 (omega (arith, h.len_stack, h.top_le)))
            ∙ ap (λ (k : List ℕ). x ∷ k) (drop-set-lt (suc (a.stack.top - 1)) a.stack.values (a.stack.top - 1) x (omega arith) ∙ ap (λ k. drop k a.stack.values) t ∙ h.stack_is);
        listed_is = h.listed_is;
        index_is = λ y b. by_eq y x (λ e. here y e) (λ e. there y b e);
        size_is = h.size_is;
      }
    where
      here : (y : ℕ) → y ≡ x → get_or (set a.index x (a.discovered + 1)) y 0 ≡ number y (x ∷ s.found)
      here y e =
          let k : a.discovered + 1 ≡ suc (length s.found) = omega (arith, h.discovered_is) in
          ap (λ v. get_or (set a.index x (a.discovered + 1)) v 0) e ∙ get_or-set_same a.index x (a.discovered + 1) 0 (omega (arith, h.len_index, h.in_range.few)) ∙ k ∙ sym (index_same y x s.found e)

      there : (y : ℕ) → y < capacity → (y ≡ x → ⊥) → get_or (set a.index x (a.discovered + 1)) y 0 ≡ number y (x ∷ s.found)
      there y b e = get_or-set_other a.index x y (a.discovered + 1) 0 e ∙ h.index_is y b ∙ sym (index_other y x s.found e)

  pub put : {stack : Stack} (x : ℕ) → x < c.values → count x s.found ≡ 0 → stack ≡ on_top x a.stack → Holds p c (record { index = set a.index x (a.discovered + 1); discovered = a.discovered + 1; stack = stack; listing = a.listing }) (push x s)
  put x l z e = subst (λ (u : Stack). Holds p c (record { index = set a.index x (a.discovered + 1); discovered = a.discovered + 1; stack = u; listing = a.listing }) (push x s)) (sym e) (put_on x l z)

  -- ---- one reference

  follow_new : (w low : ℕ) → count w s.found ≡ 0 → number w s.found ≡ 0 → follow (visit p c) w s low (number w s.found) ≡ (min low (visit p c w s).0, (visit p c w s).1)
  unfolding follow
  follow_new w low z e = ap (follow (visit p c) w s low) e

  follow_old : (w low i : ℕ) → (i ≡ 0 → ⊥) → follow (visit p c) w s low i ≡ (lower low i (count w s.stack), s)
  unfolding follow
  follow_old w low zero d = absurd (d refl)
  follow_old w low (suc i) d = refl

  on_lower : (low i k : ℕ) → 1 ≤ k → lower low i k ≡ min low i
  on_lower low i zero l = absurd (omega arith)
  on_lower low i (suc k) l = refl

  off_lower : (low i k : ℕ) → (1 ≤ k → ⊥) → lower low i k ≡ low
  off_lower low i zero d = refl
  off_lower low i (suc k) d = absurd (d (omega arith))

  module _ (w : ℕ) (l : w < c.values) where
    number_is : get_or a.index w 0 ≡ number w s.found
    number_is = h.index_is w (omega (arith, h.in_range.few))

    -- w was visited: the lower of both lowest indexes counts
    pub entered : {b : Search} (low : ℕ) {got t : ℕ} → get_or a.index w 0 ≡ 0 → Gives p c b got (visit p c w s) → t ≡ min low got → Gives p c b t (follow (visit p c) w s low (number w s.found))
    entered {b} low {got} {t} e g k =
        subst (λ (u : ℕ × State). Gives p c b t u) (sym (follow_new w low (unseen w l e) (sym number_is ∙ e)))
        (record { holds = g.holds; low_is = k ∙ ap (min low) g.low_is })

    -- w is on the stack: its index counts
    pub looked_on : (low : ℕ) {i t : ℕ} → i ≡ get_or a.index w 0 → (i ≡ 0 → ⊥) → true ≡ has w (drop a.stack.top a.stack.values) → t ≡ min low i → Gives p c a t (follow (visit p c) w s low (number w s.found))
    looked_on low {i} {t} e d o k =
        let on : In w s.stack = has_in w s.stack (ap (has w) (sym h.stack_is) ∙ sym o) in
        let n : number w s.found ≡ i = sym (e ∙ number_is) in
        let m : lower low (number w s.found) (count w s.stack) ≡ min low i = on_lower low (number w s.found) (count w s.stack) on ∙ ap (min low) n in
        subst (λ (u : ℕ × State). Gives p c a t u) (sym (follow_old w low (number w s.found) (λ z. d (sym n ∙ z)) ∙ ap (λ (j : ℕ). (j, s)) m))
        (record { holds = h; low_is = k })

    -- w is listed: nothing changes
    pub looked_off : (low : ℕ) {i : ℕ} → i ≡ get_or a.index w 0 → (i ≡ 0 → ⊥) → false ≡ has w (drop a.stack.top a.stack.values) → Gives p c a low (follow (visit p c) w s low (number w s.found))
    looked_off low {i} e d o =
        let m : lower low (number w s.found) (count w s.stack) ≡ low = off_lower low (number w s.found) (count w s.stack) (λ on. fails (sym (ap (has w) h.stack_is ∙ in_has w s.stack on) ∙ sym o)) in
        subst (λ (u : ℕ × State). Gives p c a low u) (sym (follow_old w low (number w s.found) (λ z. d (e ∙ number_is ∙ z)) ∙ ap (λ (j : ℕ). (j, s)) m)) (record { holds = h; low_is = refl })
