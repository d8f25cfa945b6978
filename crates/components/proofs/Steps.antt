-- What following references does to a state of Tarjan's search.
--     Step       what following a list of references leads to
--     both       following one list and then another
--     known      following a reference that was discovered before
-- Assumes nothing.
use mathlib.Core.Path.{◌≡◌, refl, sym, ap, ◌∙◌}
use mathlib.Core.Logic.{◌⊎◌, inl, inr, ⊎_elim}
use mathlib.Core.List.Memᴰ
use mathlib.Core.List.{List, [], ◌∷◌, ◌++◌, append_assoc}
use Prim.Native.Nat.{ℕ, zero, suc, ◌+◌, ◌≤◌, ◌<◌, min}
use native.Mathlib.Omega.{arith}
use lib.ListN.{length, length-append}
use Rattle.laws.specs.Lists.{count, In}
use Rattle.laws.proofs.Lists.{count_append, either, in_append, in_one}
use Rattle.laws.proofs.Members.{in_self, in_subst, by_le}
use Rattle.components.specs.Invariant.{nothing, Good}
use Rattle.components.specs.Found.{index, none}
use Rattle.components.specs.Walks.{Edge, Reach}
use Rattle.components.specs.Tarjan.{State, start, lower}
use Rattle.components.proofs.Indexes.{index_le, index_found, index_old, index_new}
use Rattle.components.proofs.Walks.{reach_trans}

pub least : (a b : ℕ) → (min a b ≡ a) ⊎ (min a b ≡ b)
least a b = by_le a b (λ h. inl (omega arith)) (λ h. inr (omega arith))

module _ (refs : ℕ → List ℕ) where
  module _ (n : ℕ) where
    pub good_start : Good refs n start
    good_start = record {
      once = λ y. omega arith;
      split = λ y. omega arith;
      under = λ y h. absurd (omega arith);
      emitted = nothing;
      falls = none;
      each_falls = λ c k. absurd (Memᴰ.not-nil k);
      each_some = λ c k. absurd (Memᴰ.not-nil k);
    }

    -- one of xs reaches a value of the stack, of index i
    abbrev pub Hit : List ℕ → State → ℕ → Type 0
    Hit xs s i = (a : ℕ) × (w : ℕ) × In a xs × Reach refs a w × In w s.stack × (index w s.found ≡ i)

    -- y reaches a value of the stack, of index i or above
    abbrev pub Down : ℕ → State → ℕ → Type 0
    Down y s i = (w : ℕ) × Reach refs y w × In w s.stack × (i ≤ index w s.found)

    -- From s, with the lowest index m so far, the references xs were followed; that led to s' and to the lowest index m'.
    pub record Step (xs : List ℕ) (m : ℕ) (s : State) (m' : ℕ) (s' : State) : Type 0 where
      pub was : Good refs n s
      pub good : Good refs n s'
      -- the values that were put on the stack and are still there, and those that were discovered
      pub seg : List ℕ
      pub stk : s'.stack ≡ seg ++ s.stack
      pub new : List ℕ
      pub fnd : s'.found ≡ new ++ s.found
      pub fresh : (y : ℕ) → In y seg → count y s.found ≡ 0
      pub le : m' ≤ m
      -- the lowest index is that of a value that was on the stack before, and that one of xs reaches
      pub att : (m' ≡ m) ⊎ Hit xs s m'
      -- each value left on the stack reaches one that was there before
      pub low : (y : ℕ) → In y seg → Down y s m'
      -- and references none of those whose index is lower than the lowest
      pub cross : (y w : ℕ) → In y seg → Edge refs y w → In w s.stack → m' ≤ index w s.found
      pub rlow : (w : ℕ) → In w xs → In w s.stack → m' ≤ index w s.found
      -- what they reference, and xs, is discovered
      pub seen : (y w : ℕ) → In y seg → Edge refs y w → In w s'.found
      pub rseen : (w : ℕ) → In w xs → In w s'.found
      pub from : (y : ℕ) → In y seg → (a : ℕ) × In a xs × Reach refs a y

    module _ {xs : List ℕ} {m m' : ℕ} {s s' : State} (p : Step xs m s m' s') where
      pub stack_count : (y : ℕ) → count y s'.stack ≡ count y p.seg + count y s.stack
      stack_count y = ap (count y) p.stk ∙ count_append y p.seg s.stack

      pub found_count : (y : ℕ) → count y s'.found ≡ count y p.new + count y s.found
      found_count y = ap (count y) p.fnd ∙ count_append y p.new s.found

      pub longer : length s.found ≤ length s'.found
      longer = omega (arith, ap length p.fnd, length-append p.new s.found)

      -- what was on the stack keeps its index
      pub kept_index : (w : ℕ) → In w s.stack → index w s'.found ≡ index w s.found
      kept_index w h = ap (index w) p.fnd ∙ index_old w p.new s.found (omega (arith, found_count w, p.good.once w, p.was.split w))

      -- what was put there has one above all before
      pub new_index : (w : ℕ) → In w p.seg → length s.found < index w s'.found
      new_index w h = omega (arith, ap (index w) p.fnd, index_new w p.new s.found (omega (arith, found_count w, p.fresh w h, p.good.split w, stack_count w)))

      pub which : (w : ℕ) → In w s'.stack → In w p.seg ⊎ In w s.stack
      which w h = either (count w p.seg) (count w s.stack) (omega (arith, stack_count w))

    module _ {xs ys : List ℕ} {m m₁ m₂ : ℕ} {s s₁ s₂ : State} (p : Step xs m s m₁ s₁) (q : Step ys m₁ s₁ m₂ s₂) where
      both_hit₁ : m₂ ≡ m₁ → (m₁ ≡ m) ⊎ Hit xs s m₁ → (m₂ ≡ m) ⊎ Hit (xs ++ ys) s m₂
      both_hit₁ e (inl k) = inl (e ∙ k)
      both_hit₁ e (inr t) = inr (t.0, t.1, omega (arith, count_append t.0 xs ys, t.2), t.3, t.4, t.5 ∙ sym e)

      both_hit₂ : (t : Hit ys s₁ m₂) → In t.1 p.seg ⊎ In t.1 s.stack → (m₂ ≡ m) ⊎ Hit (xs ++ ys) s m₂
      both_hit₂ t (inl h) = let d = p.low t.1 h in absurd (omega (arith, d.3, index_le d.0 s.found, new_index p t.1 h, t.5, q.le))
      both_hit₂ t (inr h) = inr (t.0, t.1, omega (arith, count_append t.0 xs ys, t.2), t.3, h, sym (kept_index p t.1 h) ∙ t.5)

      both_hit : (m₂ ≡ m₁) ⊎ Hit ys s₁ m₂ → (m₂ ≡ m) ⊎ Hit (xs ++ ys) s m₂
      both_hit (inl e) = both_hit₁ e p.att
      both_hit (inr t) = both_hit₂ t (which p t.1 t.4)

      both_down₁ : (y : ℕ) → In y p.seg → Down y s m₂
      both_down₁ y h = let d = p.low y h in (d.0, d.1, d.2, omega (arith, d.3, q.le))

      both_down₂ : (y : ℕ) (d : Down y s₁ m₂) → In d.0 p.seg ⊎ In d.0 s.stack → Down y s m₂
      both_down₂ y d (inl h) = let k = both_down₁ d.0 h in (k.0, reach_trans refs d.1 k.1, k.2, k.3)
      both_down₂ y d (inr h) = (d.0, d.1, h, omega (arith, d.3, kept_index p d.0 h))

      both_down : (y : ℕ) → In y q.seg ⊎ In y p.seg → Down y s m₂
      both_down y (inl h) = let d = q.low y h in both_down₂ y d (which p d.0 d.2)
      both_down y (inr h) = both_down₁ y h

      both_cross : (y w : ℕ) → In y q.seg ⊎ In y p.seg → Edge refs y w → In w s.stack → m₂ ≤ index w s.found
      both_cross y w (inl h) e k = omega (arith, q.cross y w h e (omega (arith, stack_count p w)), kept_index p w k)
      both_cross y w (inr h) e k = omega (arith, p.cross y w h e k, q.le)

      both_from : (y : ℕ) → In y q.seg ⊎ In y p.seg → (a : ℕ) × In a (xs ++ ys) × Reach refs a y
      both_from y (inl h) = let t = q.from y h in (t.0, omega (arith, count_append t.0 xs ys, t.1), t.2)
      both_from y (inr h) = let t = p.from y h in (t.0, omega (arith, count_append t.0 xs ys, t.1), t.2)

      pub both : Step (xs ++ ys) m s m₂ s₂
      both = record {
        was = p.was;
        good = q.good;
        seg = q.seg ++ p.seg;
        stk = q.stk ∙ ap (λ l. q.seg ++ l) p.stk ∙ sym (append_assoc q.seg p.seg s.stack);
        new = q.new ++ p.new;
        fnd = q.fnd ∙ ap (λ l. q.new ++ l) p.fnd ∙ sym (append_assoc q.new p.new s.found);
        fresh = λ y k. ⊎_elim (λ i. omega (arith, q.fresh y i, found_count p y)) (λ i. p.fresh y i) (in_append y q.seg p.seg k);
        le = omega (arith, p.le, q.le);
        att = both_hit q.att;
        low = λ y h. both_down y (in_append y q.seg p.seg h);
        cross = λ y w h. both_cross y w (in_append y q.seg p.seg h);
        rlow = λ w k h. ⊎_elim (λ i. omega (arith, p.rlow w i h, q.le)) (λ i. omega (arith, q.rlow w i (omega (arith, stack_count p w)), kept_index p w h)) (in_append w xs ys k);
        seen = λ y w k e. ⊎_elim (λ i. q.seen y w i e) (λ i. omega (arith, p.seen y w i e, found_count q w)) (in_append y q.seg p.seg k);
        rseen = λ w k. ⊎_elim (λ i. omega (arith, p.rseen w i, found_count q w)) (λ i. q.rseen w i) (in_append w xs ys k);
        from = λ y h. both_from y (in_append y q.seg p.seg h);
      }

    -- nothing was followed
    pub stays : (s : State) (m : ℕ) → Good refs n s → Step [] m s m s
    stays s m g = record {
      was = g;
      good = g;
      seg = [];
      stk = refl;
      new = [];
      fnd = refl;
      fresh = λ y i. absurd (omega arith);
      le = omega arith;
      att = inl refl;
      low = λ y i. absurd (omega arith);
      cross = λ y v i. absurd (omega arith);
      rlow = λ v i. absurd (omega arith);
      seen = λ y v i. absurd (omega arith);
      rseen = λ v i. absurd (omega arith);
      from = λ y i. absurd (omega arith);
    }

    -- a reference that was discovered before, with index i, and stands k times on the stack
    pub known : (w : ℕ) (s : State) (m i k : ℕ) → Good refs n s → 1 ≤ i → index w s.found ≡ i → count w s.stack ≡ k → Step (w ∷ []) m s (lower m i k) s
    known w s m i k g l e o = record {
      was = g;
      good = g;
      seg = [];
      stk = refl;
      new = [];
      fnd = refl;
      fresh = λ y j. absurd (omega arith);
      le = lower_le k;
      att = known_hit k o;
      low = λ y j. absurd (omega arith);
      cross = λ y v j. absurd (omega arith);
      rlow = λ v j h. known_low k o v (in_one v w j) h;
      seen = λ y v j. absurd (omega arith);
      rseen = λ v j. in_subst s.found (sym (in_one v w j)) (index_found w s.found (omega arith));
      from = λ y j. absurd (omega arith);
    }
      where
        lower_le : (k : ℕ) → lower m i k ≤ m
        lower_le zero = omega arith
        lower_le (suc k) = omega arith

        known_hit : (k : ℕ) → count w s.stack ≡ k → (lower m i k ≡ m) ⊎ Hit (w ∷ []) s (lower m i k)
        known_hit zero o = inl refl
        known_hit (suc k) o = ⊎_elim (λ j. inl j) (λ j. inr (w, w, in_self w [], inl refl, omega arith, e ∙ sym j)) (least m i)

        known_low : (k : ℕ) → count w s.stack ≡ k → (v : ℕ) → v ≡ w → In v s.stack → lower m i k ≤ index v s.found
        known_low zero o v j h = absurd (omega (arith, in_subst s.stack j h))
        known_low (suc k) o v j h = omega (arith, ap (λ x. index x s.found) j)

    -- a visit's lowest index, taken together with the lowest index so far
    pub weaken : {xs : List ℕ} {h m m' : ℕ} {s s' : State} → m < h → Step xs h s m' s' → Step xs m s (min m m') s'
    weaken {xs} {h} {m} {m'} {s} {s'} l p = record {
      was = p.was;
      good = p.good;
      seg = p.seg;
      stk = p.stk;
      new = p.new;
      fnd = p.fnd;
      fresh = p.fresh;
      le = omega arith;
      att = hit p.att;
      low = λ y i. let d = p.low y i in (d.0, d.1, d.2, omega (arith, d.3));
      cross = λ y w i e k. omega (arith, p.cross y w i e k);
      rlow = λ w i k. omega (arith, p.rlow w i k);
      seen = p.seen;
      rseen = p.rseen;
      from = p.from;
    }
      where
        hit : (m' ≡ h) ⊎ Hit xs s m' → (min m m' ≡ m) ⊎ Hit xs s (min m m')
        hit (inl e) = inl (omega arith)
        hit (inr t) = ⊎_elim (λ i. inl i) (λ i. inr (t.0, t.1, t.2, t.3, t.4, t.5 ∙ sym i)) (least m m')
