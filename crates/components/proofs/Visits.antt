-- A visit keeps the invariant of the search.
--     pushed       a value is put on the stack
--     Visited      a value whose references were followed finishes: it stays on the stack (`kept`) or makes a component (`closed`)
--     visits       each visit of a value not yet discovered is a step; so is each followed list (`follows`)
-- Assumes nothing.
use mathlib.Core.Path.{◌≡◌, refl, sym, ap, subst, ◌∙◌}
use mathlib.Core.Logic.{◌⊎◌, inl, inr, ⊎_elim}
use mathlib.Core.Bool.{Bool, true, false}
use mathlib.Core.List.Memᴰ
use mathlib.Core.List.{List, [], ◌∷◌, ◌++◌, append_assoc, Memᴰ}
use Prim.Native.Nat.{ℕ, zero, suc, ◌+◌, ◌-◌, ◌≤◌, ◌<◌}
use native.Mathlib.Omega.{arith}
use lib.Dec.{eqb}
use lib.ListN.{length, length-append, take}
use lib.Seq.{take-append_seam}
use borrow.Author.Tests.{eqb-true, eqb-false}
use Rattle.laws.specs.Lists.{count, In}
use Rattle.laws.proofs.Choice.{by_eq}
use Rattle.laws.proofs.Lists.{count_append, count_same, count_other, either, in_append, in_one}
use Rattle.laws.proofs.Members.{in_self, in_subst}
use Rattle.components.specs.Found.{index, Part, skip, keep}
use Rattle.components.specs.Walks.{Edge, Reach, Fits}
use Rattle.components.specs.Tarjan.{State, push, flat, follow, follow_all, leave, strong_connect}
use Rattle.components.proofs.Indexes.{index_le, index_zero, index_same, index_other, index_top}
use Rattle.components.proofs.Parts.{part_front, part_rest}
use Rattle.components.proofs.Rooms.{room}
use Rattle.components.specs.Invariant.{also, Good}
use Rattle.components.proofs.Steps.{Hit, Down, Step, stack_count, found_count, longer, which, both, stays, known, weaken}
use Rattle.components.proofs.Walks.{reach_trans, edge_reach}

module _ (refs : ℕ → List ℕ) (n : ℕ) where
  pub pushed : (x : ℕ) (s : State) → Good refs n s → x < n → count x s.found ≡ 0 → Good refs n (push x s)
  pushed x s g l z = record {
    once = λ y. by_eq y x (λ e. omega (arith, count_same y x s.found e, ap (λ (v : ℕ). count v s.found) e)) (λ e. omega (arith, count_other y x s.found e, g.once y));
    split = λ y. omega (arith, g.split y);
    under = λ y h. by_eq y x (λ e. omega arith) (λ e. g.under y (omega (arith, count_other y x s.found e)));
    emitted = g.emitted;
    falls = keep x g.falls;
    each_falls = λ c k. skip x (g.each_falls c k);
    each_some = g.each_some;
  }

  -- x, not yet discovered, was put on the stack at the state s, and its references were followed
  module _ {x m : ℕ} {s s₁ : State} (g : Good refs n s) (z : count x s.found ≡ 0) (p : Step refs n (refs x) (suc (length s.found)) (push x s) m s₁) where
    -- what stands on the stack under x
    apart : (w : ℕ) → In w s.stack → In w (x ∷ s.stack) × (index w (x ∷ s.found) ≡ index w s.found)
    apart w h = (omega arith, index_other w x s.found (λ e. absurd (omega (arith, g.split w, ap (λ (v : ℕ). count v s.found) e))))

    under_top : (w : ℕ) → In w (x ∷ s.stack) → (w ≡ x) ⊎ (In w s.stack × (index w (x ∷ s.found) ≡ index w s.found))
    under_top w h = by_eq w x (λ e. inl e) (λ e. inr (omega (arith, count_other w x s.stack e), index_other w x s.found e))

    above_at : (y : ℕ) → In y (p.seg ++ (x ∷ [])) → In y p.seg ⊎ (y ≡ x)
    above_at y h = ⊎_elim (λ i. inl i) (λ i. inr (in_one y x i)) (in_append y p.seg (x ∷ []) h)

    edge_x : (y w : ℕ) → y ≡ x → Edge refs y w → Edge refs x w
    edge_x y w e h = subst (λ v. Edge refs v w) e h

    -- what x and those above it on the stack reference is discovered
    leads : (y w : ℕ) → In y p.seg ⊎ (y ≡ x) → Edge refs y w → In w s₁.found
    leads y w (inl h) e = p.seen y w h e
    leads y w (inr h) e = p.rseen w (edge_x y w h e)

    not_lower : (y w : ℕ) → In y p.seg ⊎ (y ≡ x) → Edge refs y w → In w (x ∷ s.stack) → m ≤ index w (x ∷ s.found)
    not_lower y w (inl h) e k = p.cross y w h e k
    not_lower y w (inr h) e k = p.rlow w (edge_x y w h e) k

    found_x : s₁.found ≡ (p.new ++ (x ∷ [])) ++ s.found
    found_x = p.fnd ∙ sym (append_assoc p.new (x ∷ []) s.found)

    pub stack_x : s₁.stack ≡ (p.seg ++ (x ∷ [])) ++ s.stack
    stack_x = p.stk ∙ sym (append_assoc p.seg (x ∷ []) s.stack)

    -- a lower index was met: x stays on the stack
    module _ (l : m < suc (length s.found)) where
      own : (m ≡ suc (length s.found)) ⊎ Hit refs n (refs x) (push x s) m → Hit refs n (x ∷ []) s m
      own (inl e) = absurd (omega arith)
      own (inr t) =
          ⊎_elim
          (λ e. absurd (omega (arith, index_same t.1 x s.found e, t.5)))
          (λ k. (x, t.1, in_self x [], edge_reach refs t.2 t.3, k.0, sym k.1 ∙ t.5))
          (under_top t.1 t.4)

      own_down : (y : ℕ) → Reach refs y x → Down refs n y s m
      own_down y r = let t = own p.att in (t.1, reach_trans refs r (reach_trans refs (inl (sym (in_one t.0 x t.2))) t.3), t.4, omega (arith, t.5))

      kept_down : (y : ℕ) → In y p.seg ⊎ (y ≡ x) → Down refs n y s m
      kept_down y (inl h) =
          let d = p.low y h in
          ⊎_elim (λ e. own_down y (reach_trans refs d.1 (inl e))) (λ k. (d.0, d.1, k.0, omega (arith, d.3, k.1))) (under_top d.0 d.2)
      kept_down y (inr e) = own_down y (inl e)

      kept_fresh : (y : ℕ) → In y p.seg ⊎ (y ≡ x) → count y s.found ≡ 0
      kept_fresh y (inl h) = omega (arith, p.fresh y h)
      kept_fresh y (inr e) = ap (λ (v : ℕ). count v s.found) e ∙ z

      kept_from : (y : ℕ) → In y p.seg ⊎ (y ≡ x) → (a : ℕ) × In a (x ∷ []) × Reach refs a y
      kept_from y (inl h) = let t = p.from y h in (x, in_self x [], edge_reach refs t.1 t.2)
      kept_from y (inr e) = (x, in_self x [], inl (sym e))

      kept : Step refs n (x ∷ []) (suc (length s.found)) s m s₁
      kept = record {
        was = g;
        good = p.good;
        seg = p.seg ++ (x ∷ []);
        stk = stack_x;
        new = p.new ++ (x ∷ []);
        fnd = found_x;
        fresh = λ y h. kept_fresh y (above_at y h);
        le = p.le;
        att = inr (own p.att);
        low = λ y h. kept_down y (above_at y h);
        cross = λ y w h e k. let a = apart w k in omega (arith, not_lower y w (above_at y h) e a.0, a.1);
        rlow = λ w h k. absurd (omega (arith, g.split w, z, ap (λ (v : ℕ). count v s.found) (in_one w x h)));
        seen = λ y w h. leads y w (above_at y h);
        rseen = λ w h. in_subst s₁.found (sym (in_one w x h)) (omega (arith, found_count refs n p x, in_self x s.found));
        from = λ y h. kept_from y (above_at y h);
      }

    -- no lower index was met: x and what stands above it is a component
    module _ (l : m ≡ suc (length s.found)) (c : List ℕ) (cut : c ≡ p.seg ++ (x ∷ [])) where
      abbrev done : State
      done = record { found = s₁.found; stack = s.stack; components = c ∷ s₁.components }

      c_count : (y : ℕ) → count y c ≡ count y p.seg + count y (x ∷ [])
      c_count y = ap (count y) cut ∙ count_append y p.seg (x ∷ [])

      c_at : (y : ℕ) → In y c → In y p.seg ⊎ (y ≡ x)
      c_at y h = above_at y (subst (λ (t : List ℕ). In y t) cut h)

      -- only x has an index that is not lower
      top : (w : ℕ) → m ≤ index w (x ∷ s.found) → w ≡ x
      top w h = ⊎_elim (λ e. e) (λ e. absurd (omega (arith, e, index_le w s.found))) (index_top w x s.found)

      to_x : (a : ℕ) → In a p.seg ⊎ (a ≡ x) → Reach refs a x
      to_x a (inl h) = let d = p.low a h in reach_trans refs d.1 (inl (top d.0 d.3))
      to_x a (inr e) = inl e

      from_x : (b : ℕ) → In b p.seg ⊎ (b ≡ x) → Reach refs x b
      from_x b (inl h) = let t = p.from b h in edge_reach refs t.1 t.2
      from_x b (inr e) = inl (sym e)

      in_c_seg : (b : ℕ) → In b p.seg → In b c
      in_c_seg b h = omega (arith, c_count b)

      in_c_x : (b : ℕ) → b ≡ x → In b c
      in_c_x b e = in_subst c (sym e) (omega (arith, c_count x, in_self x []))

      inside : (a b : ℕ) → In a c → Edge refs a b → In b c ⊎ In b (flat s₁.components)
      inside a b h e =
          ⊎_elim
          (λ i. inl (⊎_elim (λ j. in_c_seg b j) (λ j. in_c_x b (top b (not_lower a b (c_at a h) e j))) (which refs n p b i)))
          (λ i. inr i)
          (either (count b s₁.stack) (count b (flat s₁.components)) (omega (arith, leads a b (c_at a h) e, p.good.split b)))

      each_c : (d : List ℕ) → (d ≡ c) ⊎ Memᴰ d s₁.components → Part d s₁.found
      each_c d (inl e) = part_front p.good.falls d s.stack (stack_x ∙ ap (λ (t : List ℕ). t ++ s.stack) (sym (e ∙ cut)))
      each_c d (inr k) = p.good.each_falls d k

      some_c : (d : List ℕ) → (d ≡ c) ⊎ Memᴰ d s₁.components → (y : ℕ) × In y d
      some_c d (inl e) = (x, subst (λ (t : List ℕ). In x t) (sym e) (in_c_x x refl))
      some_c d (inr k) = p.good.each_some d k

      good_done : Good refs n done
      good_done = record {
        once = p.good.once;
        split = λ y. omega (arith, p.good.split y, count_append y c (flat s₁.components), c_count y, stack_count refs n p y);
        under = p.good.under;
        emitted = also (λ a b h k. reach_trans refs (to_x a (c_at a h)) (from_x b (c_at b k))) inside p.good.emitted;
        falls = part_rest p.good.falls (p.seg ++ (x ∷ [])) s.stack stack_x;
        each_falls = λ d k. each_c d (Memᴰ.cases_cons k);
        each_some = λ d k. some_c d (Memᴰ.cases_cons k);
      }

      closed : Step refs n (x ∷ []) (suc (length s.found)) s m done
      closed = record {
        was = g;
        good = good_done;
        seg = [];
        stk = refl;
        new = p.new ++ (x ∷ []);
        fnd = found_x;
        fresh = λ y h. absurd (omega arith);
        le = p.le;
        att = inl l;
        low = λ y h. absurd (omega arith);
        cross = λ y w h. absurd (omega arith);
        rlow = λ w h k. absurd (omega (arith, g.split w, z, ap (λ (v : ℕ). count v s.found) (in_one w x h)));
        seen = λ y w h. absurd (omega arith);
        rseen = λ w h. in_subst s₁.found (sym (in_one w x h)) (omega (arith, found_count refs n p x, in_self x s.found));
        from = λ y h. absurd (omega arith);
      }

  -- where a value is not yet discovered, there is room for it
  pub space : (x : ℕ) (s : State) → Good refs n s → x < n → count x s.found ≡ 0 → length s.found < n
  space x s g l z = room n s.found x l z g.once g.under

  -- the part of a stack above another
  pub cut_off : (c st l : List ℕ) → l ≡ c ++ st → take (length l - length st) l ≡ c
  cut_off c st l e =
      let k : length l - length st ≡ length c = omega (arith, ap length e, length-append c st) in
      ap (λ j. take j l) k ∙ ap (take (length c)) e ∙ take-append_seam c st

  pub leaves : {x : ℕ} {s : State} (r : ℕ × State) → Good refs n s → count x s.found ≡ 0 → Step refs n (refs x) (suc (length s.found)) (push x s) r.0 r.1
      → (b : Bool) → eqb r.0 (suc (length s.found)) ≡ b
      → Step refs n (x ∷ []) (suc (length s.found)) s (leave s r b).0 (leave s r b).1
  unfolding leave
  leaves {x} {s} r g z p true e = closed g z p (eqb-true r.0 (suc (length s.found)) e) (take (length r.1.stack - length s.stack) r.1.stack) (cut_off (p.seg ++ (x ∷ [])) s.stack r.1.stack (stack_x g z p))
  leaves {x} {s} r g z p false e = kept g z p (omega (arith, p.le, eqb-false r.0 (suc (length s.found)) e))

  -- every reference of a value below n is one
  module _ (fits : Fits refs n) where
    -- what a visit of a value not yet discovered does, where f more may be discovered
    abbrev pub Visits : ℕ → (ℕ → State → ℕ × State) → Type 0
    Visits f visit = (x : ℕ) (s : State) → Good refs n s → x < n → count x s.found ≡ 0 → n ≤ f + length s.found → Step refs n (x ∷ []) (suc (length s.found)) s (visit x s).0 (visit x s).1

    pub follows_one : (f : ℕ) (visit : ℕ → State → ℕ × State) → Visits f visit → (w : ℕ) (s : State) (m i : ℕ) → index w s.found ≡ i → Good refs n s → w < n → n ≤ f + length s.found → m ≤ length s.found
        → Step refs n (w ∷ []) m s (follow visit w s m i).0 (follow visit w s m i).1
    unfolding follow
    follows_one f visit ok w s m zero e g l b h = weaken refs n (omega arith) (ok w s g l (index_zero w s.found e) b)
    follows_one f visit ok w s m (suc i) e g l b h = known refs n w s m (suc i) (count w s.stack) g (omega arith) e refl

    pub follows : (f : ℕ) (visit : ℕ → State → ℕ × State) → Visits f visit → (ws : List ℕ) (s : State) (m : ℕ) → ((w : ℕ) → In w ws → w < n) → Good refs n s → n ≤ f + length s.found → m ≤ length s.found
        → Step refs n ws m s (follow_all visit ws s m).0 (follow_all visit ws s m).1
    unfolding follow_all
    follows f visit ok [] s m u g b h = stays refs n s m g
    follows f visit ok (w ∷ ws) s m u g b h =
        let p = follows_one f visit ok w s m (index w s.found) refl g (u w (in_self w ws)) b h in
        both refs n p
        (follows f visit ok ws (follow visit w s m (index w s.found)).1 (follow visit w s m (index w s.found)).0 (λ v i. u v (omega arith)) p.good (omega (arith, longer refs n p)) (omega (arith, p.le, longer refs n p)))

    pub visits : (f : ℕ) → Visits f (strong_connect refs f)
    unfolding strong_connect
    visits zero x s g l z b = absurd (omega (arith, space x s g l z))
    visits (suc f) x s g l z b =
        let r = follow_all (strong_connect refs f) (refs x) (push x s) (suc (length s.found)) in
        leaves r g z (follows f (strong_connect refs f) (visits f) (refs x) (push x s) (suc (length s.found)) (fits x l) (pushed x s g l z) (omega arith) (omega arith)) (eqb r.0 (suc (length s.found))) refl
