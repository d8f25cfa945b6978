-- The plain depth-first walk finds what a walk leads to, and nothing else.
-- Assumes nothing.
use mathlib.Core.Path.{◌≡◌, refl, sym, ap, subst}
use mathlib.Core.Logic.{◌⊎◌, inl, inr, ⊎_elim}
use mathlib.Core.List.{List, [], ◌∷◌}
use Prim.Native.Nat.{ℕ, zero, suc, ◌+◌, ◌≤◌, ◌<◌}
use native.Mathlib.Omega.{arith}
use lib.ListN.{length}
use Rattle.laws.specs.Lists.{count, In}
use Rattle.laws.proofs.Choice.{by_eq}
use Rattle.laws.proofs.Lists.{count_same, count_other, in_cons, in_one}
use Rattle.laws.proofs.Members.{in_self, in_subst}
use Rattle.components.specs.Found.{index, below}
use Rattle.components.specs.Walks.{Edge, Walk, one, more, Reach, Fits}
use Rattle.components.specs.DepthFirst.{Seen, nothing, meet, meet_all, enter, depth_first, reached}
use Rattle.components.proofs.Below.{below_lt}
use Rattle.components.proofs.Indexes.{index_found, index_zero}
use Rattle.components.proofs.Rooms.{room}
use Rattle.components.proofs.Walks.{edge_reach, walk_reach}

module _ (refs : ℕ → List ℕ) (n : ℕ) where
  pub record Fair (s : Seen) : Type 0 where
    pub once : (y : ℕ) → count y s.found ≤ 1
    pub under : (y : ℕ) → In y s.found → y < n

  -- xs were met at s, which led to s'
  pub record Met (xs : List ℕ) (s s' : Seen) : Type 0 where
    pub fair : Fair s'
    pub longer : length s.found ≤ length s'.found
    pub stays : (y : ℕ) → In y s.found → In y s'.found
    pub has : (w : ℕ) → In w xs → In w s'.found
    -- what finished meanwhile was found meanwhile
    pub ends : (y : ℕ) → count y s'.finished + count y s.found ≤ count y s'.found + count y s.finished
    -- a value that is found now was found before, or is reached from one of xs and all that it references is found
    pub why : (y : ℕ) → In y s'.found → In y s.found ⊎ (((w : ℕ) → Edge refs y w → In w s'.found) × ((a : ℕ) × In a xs × Reach refs a y))

  module _ (fits : Fits refs n) where
    abbrev Enters : ℕ → (ℕ → Seen → Seen) → Type 0
    Enters f go = (x : ℕ) (s : Seen) → Fair s → x < n → count x s.found ≡ 0 → n ≤ f + length s.found → Met (x ∷ []) s (go x s)

    meets_one : (f : ℕ) (go : ℕ → Seen → Seen) → Enters f go → (w : ℕ) (s : Seen) (i : ℕ) → index w s.found ≡ i → Fair s → w < n → n ≤ f + length s.found → Met (w ∷ []) s (meet go w s i)
    unfolding meet
    meets_one f go ok w s zero e g l b = ok w s g l (index_zero w s.found e) b
    meets_one f go ok w s (suc i) e g l b = record {
      fair = g;
      longer = omega arith;
      stays = λ y h. h;
      has = λ v h. in_subst s.found (sym (in_one v w h)) (index_found w s.found (omega arith));
      ends = λ y. omega arith;
      why = λ y h. inl h;
    }

    meets : (f : ℕ) (go : ℕ → Seen → Seen) → Enters f go → (ws : List ℕ) (s : Seen) → ((w : ℕ) → In w ws → w < n) → Fair s → n ≤ f + length s.found → Met ws s (meet_all go ws s)
    unfolding meet_all
    meets f go ok [] s u g b = record { fair = g; longer = omega arith; stays = λ y h. h; has = λ v h. absurd (omega arith); ends = λ y. omega arith; why = λ y h. inl h }
    meets f go ok (w ∷ ws) s u g b =
        let p = meets_one f go ok w s (index w s.found) refl g (u w (in_self w ws)) b in
        let q = meets f go ok ws (meet go w s (index w s.found)) (λ v i. u v (omega arith)) p.fair (omega (arith, p.longer)) in
        record {
          fair = q.fair;
          longer = omega (arith, p.longer, q.longer);
          stays = λ y h. q.stays y (p.stays y h);
          has = λ v h. ⊎_elim (λ e. q.stays v (p.has v (in_subst (w ∷ []) (sym e) (in_self w [])))) (λ i. q.has v i) (in_cons v w ws h);
          ends = λ y. omega (arith, p.ends y, q.ends y);
          why = λ y h.
              ⊎_elim
              (λ i.
              ⊎_elim (λ j. inl j)
              (λ j. inr (λ v e. q.stays v (j.0 v e), (w, in_self w ws, subst (λ a. Reach refs a y) (in_one j.1.0 w j.1.1) j.1.2)))
              (p.why y i))
              (λ j. inr (j.0, (j.1.0, omega (arith, j.1.1), j.1.2)))
              (q.why y h);
        }

    pub enters : (f : ℕ) → Enters f (enter refs f)
    unfolding enter
    enters zero x s g l z b = absurd (omega (arith, room n s.found x l z g.once g.under))
    enters (suc f) x s g l z b =
        let t : Seen = record { found = x ∷ s.found; finished = s.finished } in
        let gt : Fair t = record { once = λ y. by_eq y x (λ e. omega (arith, count_same y x s.found e, ap (λ (v : ℕ). count v s.found) e)) (λ e. omega (arith, count_other y x s.found e, g.once y)); under = λ y h. by_eq y x (λ e. omega arith) (λ e. g.under y (omega (arith, count_other y x s.found e))) } in
        let p = meets f (enter refs f) (enters f) (refs x) t (fits x l) gt (omega arith) in
        record {
          fair = record { once = p.fair.once; under = p.fair.under };
          longer = omega (arith, p.longer);
          stays = λ y h. p.stays y (omega arith);
          has = λ w h. in_subst (meet_all (enter refs f) (refs x) t).found (sym (in_one w x h)) (p.stays x (in_self x s.found));
          ends = λ y. omega (arith, p.ends y);
          why = λ y h.
              ⊎_elim
              (λ i.
              ⊎_elim
              (λ e. inr (λ v k. p.has v (subst (λ (u : ℕ). Edge refs u v) e k), (x, in_self x [], inl (sym e))))
              (λ j. inl j)
              (in_cons y x s.found i))
              (λ j. inr (j.0, (x, in_self x [], edge_reach refs j.1.1 j.1.2)))
              (p.why y h);
        }

    empty : Fair nothing
    empty = record { once = λ y. omega arith; under = λ y h. absurd (omega arith) }

    from : (v : ℕ) → v < n → Met (refs v) nothing (meet_all (enter refs n) (refs v) nothing)
    from v l = meets n (enter refs n) (enters n) (refs v) nothing (fits v l) empty (omega arith)

    -- each value is found once, and finishes once
    whole : Met (below n 0) nothing (depth_first refs n)
    unfolding depth_first
    whole = meets n (enter refs n) (enters n) (below n 0) nothing (λ w h. omega (arith, below_lt n 0 w h)) empty (omega arith)

    pub found_once : (y : ℕ) → count y (depth_first refs n).found ≤ 1
    found_once = whole.fair.once

    pub finished_once : (y : ℕ) → count y (depth_first refs n).finished ≤ 1
    finished_once y = omega (arith, whole.ends y, found_once y)

    -- v has a walk to x exactly if x is reached from v
    pub reached_walk : (v x : ℕ) → v < n → In x (reached refs n v) → Walk refs v x
    unfolding reached
    reached_walk v x l h = ⊎_elim (λ i. absurd (omega arith)) (λ t. walk_reach refs (one t.1.1) t.1.2) ((from v l).why x h)

    along : (v : ℕ) (l : v < n) {y x : ℕ} → In y (reached refs n v) → Walk refs y x → In x (reached refs n v)
    unfolding reached
    along v l {y} {x} h (one e) = ⊎_elim (λ i. absurd (omega arith)) (λ t. t.0 x e) ((from v l).why y h)
    along v l {y} {x} h (more {b = b} e w) = along v l (⊎_elim (λ i. absurd (omega arith)) (λ t. t.0 b e) ((from v l).why y h)) w

    pub walk_reached : (v x : ℕ) → v < n → Walk refs v x → In x (reached refs n v)
    unfolding reached
    walk_reached v x l (one e) = (from v l).has x e
    walk_reached v x l (more {b = b} e w) = along v l ((from v l).has b e) w
