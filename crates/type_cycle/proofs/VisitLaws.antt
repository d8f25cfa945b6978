-- The laws of visits.
--     nothing     of no place
--     along       one after the other
--     already     a place that has a mark
--     enters      a place that has none, whose next places are visited then: a type or the variable
--     leaves      the same for a definition, which is listed then
-- Assumes nothing.
use Prim.Native.Nat.{ℕ, suc, ◌+◌, ◌<◌, ◌≤◌}
use mathlib.Core.Path.{◌≡◌, refl, sym, ap, ◌∙◌}
use mathlib.Core.Logic.{◌⊎◌, inl, inr, ⊎_elim}
use mathlib.Core.Bool.{Bool, true, false, not}
use mathlib.Core.List.{List, [], ◌∷◌, ◌++◌}
use native.Mathlib.Omega.{arith}
use lib.ListN.{length, get_or, set, length-set}
use lib.Seq.{get_or-set_same, get_or-set_other}
use Rattle.std.specs.Prelude.{cond}
use Rattle.std.proofs.lemmas.List.Sums.{sum_by-set}
use Rattle.laws.specs.Lists.{In}
use Rattle.laws.proofs.Choice.{by_eq, by_test, fails}
use Rattle.laws.proofs.Bounded.{put_in}
use Rattle.laws.proofs.Members.{in_subst}
use Rattle.laws.proofs.Lists.{count_append, count_same, in_cons, in_one, in_append}
use Rattle.pack.specs.declared.counts.Counts.{Counts}
use Rattle.type_cycle.specs.Graph.{at_name, places, ahead, Path, here, on, Reach, Round}
use Rattle.type_cycle.specs.Search.{State, st, unmarked, Seen, AllSeen, Skipped, Pushes, Closed, left_at, Ordered, Visited}

-- ---- lists

pub in_first : (x : ℕ) (xs : List ℕ) → In x (x ∷ xs)
in_first x xs = omega (arith, count_same x x xs refl)

pub in_rest : (y x : ℕ) (xs : List ℕ) → In y xs → In y (x ∷ xs)
in_rest y x xs h = omega arith

pub in_left : (y : ℕ) (xs ys : List ℕ) → In y xs → In y (xs ++ ys)
in_left y xs ys h = omega (arith, count_append y xs ys)

pub in_right : (y : ℕ) (xs ys : List ℕ) → In y ys → In y (xs ++ ys)
in_right y xs ys h = omega (arith, count_append y xs ys)

-- ---- marks

-- a new mark leaves one place less without
pub one_less : (l : List Bool) (x : ℕ) → x < length l → get_or l x false ≡ false → unmarked l ≡ suc (unmarked (set l x true))
one_less l x h e =
    let one : Bool → ℕ = λ b. cond (not b) 1 0 in
    omega (arith, sum_by-set one l x true false h, ap one e)

module _ (l : List Bool) (x : ℕ) (h : x < length l) where
  pub mark_here : Seen (set l x true) x
  mark_here = get_or-set_same l x true false h

  pub mark_keeps : (y : ℕ) → Seen l y → Seen (set l x true) y
  mark_keeps y s = by_eq y x (λ e. rw e mark_here) (λ n. get_or-set_other l x y true false n ∙ s)

  pub mark_only : (y : ℕ) → Seen (set l x true) y → (y ≡ x) ⊎ Seen l y
  mark_only y s = by_eq y x (λ e. inl e) (λ n. inr (sym (get_or-set_other l x y true false n) ∙ s))

-- a place that has no mark and one
pub unmet : {b : Bool} {A : Type 0} → b ≡ false → b ≡ true → A
unmet f t = absurd (fails (sym t ∙ f))

unseen : (l m : List Bool) → ((x : ℕ) → Seen l x → Seen m x) → (x : ℕ) → get_or m x false ≡ false → get_or l x false ≡ false
unseen l m grow x e = by_test (get_or l x false) (λ t. unmet e (grow x t)) (λ z. z)

-- ---- paths

module _ {p : List ℕ} {c : Counts} where
  -- fewer marks, more paths
  pub weaker : {l m : List Bool} {x y : ℕ} → ((z : ℕ) → get_or m z false ≡ false → get_or l z false ≡ false) → Path p c m x y → Path p c l x y
  weaker f here = here
  weaker f (on {x} e i r) = on (f x e) i (weaker f r)

  pub joined : {m : List Bool} {x y z : ℕ} → Path p c m x y → Path p c m y z → Path p c m x z
  joined here r = r
  joined (on e i q) r = on e i (joined q r)

  pub step : {x y : ℕ} → In y (ahead p c x) → Reach p c x y
  step i = on refl i here

  pub onward : {x y z : ℕ} → Round p c x y → Reach p c y z → Round p c x z
  onward r q = record { next = r.next; step = r.step; rest = joined r.rest q }

-- ---- skips

pub skips_grow : {p : List ℕ} {c : Counts} {l m : List Bool} {k : List ℕ} → ((x : ℕ) → Seen l x → Seen m x) → Skipped p c l k → Skipped p c m k
skips_grow grow s = record { done = λ items w j h x i. grow x (s.done items w j h x i) }

-- ---- visits

module _ {p : List ℕ} {c : Counts} where
  pub nothing : (s : State) → Visited p c [] s s
  nothing s =
      record {
        long = refl;
        fewer = omega arith;
        room = omega arith;
        grows = λ x h. h;
        sound = λ y h. inl h;
        closes = λ o k. (k, λ x i. absurd (omega arith));
        orders = λ o k r f. r;
      }

  pub already : (s : State) (x : ℕ) → (get_or s.marks x false ≡ true) → Visited p c (x ∷ []) s s
  already s x n =
      record {
        long = refl;
        fewer = omega arith;
        room = omega arith;
        grows = λ y h. h;
        sound = λ y h. inl h;
        closes = λ o k. (k, λ y i. rw (in_one y x i) n);
        orders = λ o k r f. r;
      }

  pub along : {xs ys : List ℕ} {s t u : State} → Visited p c xs s t → Visited p c ys t u → Visited p c (xs ++ ys) s u
  along {xs} {ys} {s} {t} {u} v w =
      record {
        long = w.long ∙ v.long;
        fewer = omega (arith, v.fewer, w.fewer);
        room = omega (arith, v.room, w.room);
        grows = λ x h. w.grows x (v.grows x h);
        sound = λ y h. ⊎_elim
            (λ k. ⊎_elim (λ k. inl k) (λ k. inr (k.0, in_left k.0 xs ys k.1, k.2)) (v.sound y k))
            (λ k. inr (k.0, in_right k.0 xs ys k.1, weaker (unseen s.marks t.marks v.grows) k.2))
            (w.sound y h);
        closes =
            λ o k.
            let a = v.closes o k in
            let b = w.closes o a.0 in
            (b.0, λ x i. ⊎_elim (λ j. w.grows x (a.1 x j)) (λ j. b.1 x j) (in_append x xs ys i));
        orders =
            λ o k r f.
            w.orders o (v.closes o k).0 (v.orders o k r (λ g x i j. f g x i (in_left x xs ys j))) (λ g x i j. f g x i (in_right x xs ys j));
      }

-- ---- a place without a mark gets one, and what it leads to is visited

-- the state in which the next places are visited
abbrev pub marked : State → ℕ → State
marked s x = st (set s.marks x true) s.skips s.order s.left

module _ {p : List ℕ} {c : Counts} (s : State) (x : ℕ) (e : get_or s.marks x false ≡ false) (h : x < length s.marks) where
  closed_in : (o : List ℕ) → Closed p c o s → Closed p c (x ∷ o) (marked s x)
  closed_in o k =
      record {
        done =
            λ y i.
            ⊎_elim
            (λ q. inl (in_subst (x ∷ o) (sym q) (in_first x o)))
            (λ z. ⊎_elim (λ m. inl (in_rest y x o m)) (λ a. inr (λ z m. mark_keeps s.marks x h z (a z m))) (k.done y z))
            (mark_only s.marks x h y i);
        skips = skips_grow (mark_keeps s.marks x h) k.skips;
      }

  ordered_in : (o : List ℕ) → Ordered p c o s → Ordered p c (x ∷ o) (marked s x)
  ordered_in o r =
      record {
        long = r.long;
        room = omega (arith, r.room, one_less s.marks x h e);
        open_seen = λ y i. ⊎_elim (λ q. rw q (mark_here s.marks x h)) (λ m. mark_keeps s.marks x h y (r.open_seen y m)) (in_cons y x o i);
        listed =
            λ d l i.
            ⊎_elim
            (λ q. inl (in_subst (x ∷ o) (sym q) (in_first x o)))
            (λ m. ⊎_elim (λ k. inl (in_rest (at_name d) x o k)) (λ k. inr k) (r.listed d l m))
            (mark_only s.marks x h (at_name d) i);
        left_seen =
            λ i l.
            let a = r.left_seen i l in
            (a.0, mark_keeps s.marks x h (at_name (left_at s i)) a.1, λ m. ⊎_elim (λ q. unmet e (sym (ap (λ (z : ℕ). get_or s.marks z false) q) ∙ a.1)) a.2 (in_cons (at_name (left_at s i)) x o m));
        before = r.before;
        later = r.later;
      }

  reach_in : (o : List ℕ) → ((g y : ℕ) → In g o → In y (x ∷ []) → Reach p c g y) → (g y : ℕ) → In g (x ∷ o) → In y (ahead p c x) → Reach p c g y
  reach_in o f g y i m = ⊎_elim (λ q. rw q (step m)) (λ j. joined (f g x j (in_first x [])) (step m)) (in_cons g x o i)

  module _ {t : State} (v : Visited p c (ahead p c x) (marked s x) t) where
    opened_out : (o : List ℕ) → Closed p c o s → Closed p c (x ∷ o) t × AllSeen t.marks (ahead p c x)
    opened_out o k = v.closes (x ∷ o) (closed_in o k)

    ordered_out : (o : List ℕ) → Closed p c o s → Ordered p c o s → ((g y : ℕ) → In g o → In y (x ∷ []) → Reach p c g y) → Ordered p c (x ∷ o) t
    ordered_out o k r f = v.orders (x ∷ o) (closed_in o k) (ordered_in o r) (reach_in o f)

    sound_out : (y : ℕ) → Seen t.marks y → Seen s.marks y ⊎ ((z : ℕ) × In z (x ∷ []) × Path p c s.marks z y)
    sound_out y i =
        ⊎_elim
        (λ m. ⊎_elim (λ q. inr (x, in_first x [], rw q here)) (λ k. inl k) (mark_only s.marks x h y m))
        (λ m. inr (x, in_first x [], on e m.1 (weaker (unseen s.marks (set s.marks x true) (mark_keeps s.marks x h)) m.2)))
        (v.sound y i)

    closes_out : (o : List ℕ) → Closed p c o s → Closed p c o t × AllSeen t.marks (x ∷ [])
    closes_out o k =
        let a = opened_out o k in (
          record {
            done =
                λ y i.
                ⊎_elim
                (λ m. ⊎_elim (λ q. inr (rw q a.1)) (λ j. inl j) (in_cons y x o m))
                (λ m. inr m)
                (a.0.done y i);
            skips = a.0.skips;
          },
          λ y i. rw (in_one y x i) (v.grows x (mark_here s.marks x h)),
        )

    -- a type, or the variable
    pub enters : ((d : ℕ) → d < 512 → at_name d ≡ x → ⊥) → Visited p c (x ∷ []) s t
    enters n =
        record {
          long = v.long ∙ length-set s.marks x true;
          fewer = omega (arith, v.fewer, one_less s.marks x h e);
          room = omega (arith, v.room, one_less s.marks x h e);
          grows = λ y i. v.grows y (mark_keeps s.marks x h y i);
          sound = sound_out;
          closes = closes_out;
          orders =
              λ o k r f.
              let a = ordered_out o k r f in
              record {
                long = a.long;
                room = a.room;
                open_seen = λ y i. a.open_seen y (in_rest y x o i);
                listed = λ d l i. ⊎_elim (λ m. ⊎_elim (λ q. absurd (n d l q)) (λ j. inl j) (in_cons (at_name d) x o m)) (λ m. inr m) (a.listed d l i);
                left_seen = λ i l. let b = a.left_seen i l in (b.0, b.1, λ m. b.2 (in_rest (at_name (left_at t i)) x o m));
                before = a.before;
                later = a.later;
              };
        }

-- ---- what a definition leads to that is listed later leads back

module _ {p : List ℕ} {c : Counts} {o : List ℕ} {t : State} (k : Closed p c o t) where
  -- from a place with a mark: the end of a path has one too, or an open place lies on the way
  follow : {x y : ℕ} → Seen t.marks x → Reach p c x y → Seen t.marks y ⊎ ((g : ℕ) × In g o × Reach p c x g)
  follow i here = inl i
  follow {x} {y} i (on {z = z} e m r) =
      ⊎_elim
      (λ j. inr (x, j, here))
      (λ all. ⊎_elim (λ j. inl j) (λ j. inr (j.0, j.1, on refl m j.2)) (follow (all z m) r))
      (k.done x i)

  pub follows : {x y : ℕ} → AllSeen t.marks (ahead p c x) → Round p c x y → Seen t.marks y ⊎ ((g : ℕ) × In g o × Round p c x g)
  follows {x} {y} all r =
      ⊎_elim
      (λ j. inl j)
      (λ j. inr (j.0, j.1, record { next = r.next; step = r.step; rest = j.2 }))
      (follow (all r.next r.step) r.rest)

-- ---- a definition, listed when it is left

module _ {p : List ℕ} {c : Counts} (s : State) (d : ℕ) (few : d < 512) (e : get_or s.marks (at_name d) false ≡ false) (h : at_name d < length s.marks) {t : State} (v : Visited p c (ahead p c (at_name d)) (marked s (at_name d)) t) {order : List ℕ} {r : ℕ} (q : Pushes t.left d t.order order r) where
  module _ (o : List ℕ) (k : Closed p c o s) (w : Ordered p c o s) (f : (g y : ℕ) → In g o → In y (at_name d ∷ []) → Reach p c g y) where
    a : Ordered p c (at_name d ∷ o) t
    a = ordered_out s (at_name d) e h v o k w f

    room : t.left + 1 + unmarked t.marks ≤ places
    room = omega (arith, v.room, w.room, one_less s.marks (at_name d) h e)

    stored : order ≡ set t.order t.left d
    stored = q.stored ∙ sym (put_in places t.order t.left d (omega (arith, room)))

    counted : r ≡ t.left + 1
    counted = q.more (omega (arith, room))

    old : (i : ℕ) → i < t.left → get_or order i 0 ≡ left_at t i
    old i l = ap (λ (m : List ℕ). get_or m i 0) stored ∙ get_or-set_other t.order t.left i d 0 (λ z. omega arith)

    new : (i : ℕ) → i ≡ t.left → get_or order i 0 ≡ d
    new i z = ap (λ (m : List ℕ). get_or m i 0) stored ∙ rw z (get_or-set_same t.order t.left d 0 (omega (arith, room, a.long)))

    unlisted : (i : ℕ) → i < t.left → left_at t i ≡ d → ⊥
    unlisted i l z = (a.left_seen i l).2 (in_subst (at_name d ∷ o) (ap at_name (sym z)) (in_first (at_name d) o))

    back : (g : ℕ) → In g (at_name d ∷ o) → Round p c (at_name d) g → Round p c (at_name d) (at_name d)
    back g i m = ⊎_elim (λ z. rw z at m) (λ j. onward m (f g (at_name d) j (in_first (at_name d) []))) (in_cons g (at_name d) o i)

    last_later : (b : ℕ) → b < 512 → ((j : ℕ) → j < r → get_or order j 0 ≡ b → ⊥) → Round p c (at_name d) (at_name b) → Round p c (at_name d) (at_name d)
    last_later b l n m =
        let all = opened_out s (at_name d) e h v o k in
        ⊎_elim
        (λ i. ⊎_elim (λ j. back (at_name b) j m) (λ j. absurd (n j.0 (omega (arith, counted, j.1)) (old j.0 j.1 ∙ j.2))) (a.listed b l i))
        (λ j. back j.0 j.1 j.2)
        (follows all.0 all.1 m)

    ordered : Ordered p c o (st t.marks t.skips order r)
    ordered =
        record {
          long = ap length stored ∙ length-set t.order t.left d ∙ a.long;
          room = omega (arith, room, counted);
          open_seen = λ y i. a.open_seen y (in_rest y (at_name d) o i);
          listed =
              λ b l i.
              ⊎_elim
              (λ m. ⊎_elim (λ z. inr (t.left, omega (arith, counted), omega (arith, new t.left refl))) (λ j. inl j) (in_cons (at_name b) (at_name d) o m))
              (λ m. inr (m.0, omega (arith, counted, m.1), old m.0 m.1 ∙ m.2))
              (a.listed b l i);
          left_seen =
              λ i l.
              by_eq i t.left
              (λ z. rw (new i z) (few, v.grows (at_name d) (mark_here s.marks (at_name d) h), λ j. unmet e (w.open_seen (at_name d) j)))
              (λ z.
              let b = a.left_seen i (omega (arith, counted)) in
              rw (old i (omega (arith, counted))) (b.0, b.1, λ j. b.2 (in_rest (at_name (left_at t i)) (at_name d) o j)));
          before =
              λ i j l m n.
              let b = old i (omega (arith, counted)) in
              by_eq j t.left
              (λ z. rw b (a.later i d (omega arith) few unlisted (rw (b, new j z) at n)))
              (λ z. rw b (a.before i j l (omega (arith, counted)) (rw (b, old j (omega (arith, counted))) at n)));
          later =
              λ i b l m n g.
              by_eq i t.left
              (λ z. rw (new i z) (last_later b m n (rw (new i z) at g)))
              (λ z.
              let u = old i (omega (arith, counted)) in
              rw u (a.later i b (omega (arith, counted)) m (λ j jl je. n j (omega (arith, counted)) (old j jl ∙ je)) (rw u at g)));
        }

  pub leaves : Visited p c (at_name d ∷ []) s (st t.marks t.skips order r)
  leaves =
      record {
        long = v.long ∙ length-set s.marks (at_name d) true;
        fewer = omega (arith, v.fewer, one_less s.marks (at_name d) h e);
        room = omega (arith, v.room, q.most, one_less s.marks (at_name d) h e);
        grows = λ y i. v.grows y (mark_keeps s.marks (at_name d) h y i);
        sound = sound_out s (at_name d) e h v;
        closes = λ o k. let a = closes_out s (at_name d) e h v o k in (record { done = a.0.done; skips = a.0.skips }, a.1);
        orders = ordered;
      }
