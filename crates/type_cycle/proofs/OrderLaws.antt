-- The passes for 41: all definitions are listed as a search leaves them; each is asked whether it leads to itself; the smallest is sought by halves.
--     list_starts, list_goes, list_ends                 the loop that lists them
--     seek_starts, seek_passes, seek_goes, seek_stops, seek_ends   the loop that asks them
--     Halves                                             the loop that finds the smallest
--     refused_at, none_refused                           what 41 says then
-- Assumes nothing.
use Prim.Native.Nat.{ℕ, ◌+◌, ◌<◌, ◌≤◌}
use mathlib.Core.Path.{◌≡◌, refl, sym, ap, subst, ◌∙◌}
use mathlib.Core.Logic.{◌⊎◌, inl, inr, ⊎_elim}
use mathlib.Core.Bool.{Bool, true, false, not}
use mathlib.Core.List.{List, [], ◌∷◌}
use native.Mathlib.Omega.{arith}
use lib.ListN.{length, get_or, replicate, length-replicate}
use Rattle.std.proofs.Common.{Some, None}
use Rattle.std.proofs.lemmas.List.Sums.{count_by-le-length}
use Rattle.laws.specs.declared.fault.Fault.TheVariants as fault
use Rattle.std.proofs.Common.{Ok}
use Rattle.laws.specs.Lists.{In}
use Rattle.laws.proofs.Choice.{by_eq, by_test}
use Rattle.laws.proofs.Members.{by_le}
use Rattle.laws.proofs.First.{at_first, none_is}
use Rattle.pack.specs.Named.{field_types_of}
use Rattle.pack.specs.Answer.{refuse}
use Rattle.pack.specs.declared.counts.Counts.{Counts}
use Rattle.type_cycle.specs.Cycles.{on_cycle, cycle_of}
use Rattle.type_cycle.specs.Graph.{at_name, Round}
use Rattle.type_cycle.specs.Search.{State, st, unmarked, Fresh, Seen, AllSeen, Can, Closed, Ordered, Visited}
use Rattle.type_cycle.specs.Order.{Good, Order, Sought, Smallest}
use Rattle.type_cycle.proofs.VisitLaws.{unmet, weaker, follows, in_first}
use Rattle.type_cycle.proofs.StepLaws.{fields_ahead}
use Rattle.type_cycle.proofs.WalkLaws.{cyclic, round}
use Rattle.type_cycle.proofs.UnresolvedLaws.{unmarked_at, no_skips}

-- ---- a state in which nothing was met

none_seen : {marks : List Bool} → marks ≡ replicate 2561 false → (x : ℕ) → get_or marks x false ≡ false
none_seen e x = ap (λ (l : List Bool). get_or l x false) e ∙ unmarked_at 2561 x

pub new_can : {p : List ℕ} {c : Counts} {marks : List Bool} → Good p c → marks ≡ replicate 2561 false → Can p c marks
new_can g e = record { ready = g.ready; long = ap length e ∙ length-replicate {A = Bool} 2561 false }

new_closed : (p : List ℕ) (c : Counts) (s : State) → Fresh s → Closed p c [] s
new_closed p c s f = record { done = λ x i. unmet (none_seen f.marks_are x) i; skips = no_skips p c s.marks f.skips_are }

count_most : (l : List Bool) → unmarked l ≤ length l
count_most l = count_by-le-length not l

-- ---- all definitions are listed

pub record Leaving (p : List ℕ) (c : Counts) (d : ℕ) (s : State) : Type 0 where
  pub can : Can p c s.marks
  pub closed : Closed p c [] s
  pub ordered : Ordered p c [] s
  pub names : (e : ℕ) → e < d → Seen s.marks (at_name e)

pub list_starts : {p : List ℕ} {c : Counts} (s : State) → Good p c → Fresh s → Leaving p c 0 s
list_starts {p} {c} s g f =
    record {
      can = new_can g f.marks_are;
      closed = new_closed p c s f;
      ordered =
          record {
            long = ap length f.order_is ∙ length-replicate {A = ℕ} 2561 0;
            room = omega (arith, f.left_is, count_most s.marks, (new_can g f.marks_are).long);
            open_seen = λ x i. absurd (omega arith);
            listed = λ d l i. unmet (none_seen f.marks_are (at_name d)) i;
            left_seen = λ i l. absurd (omega (arith, f.left_is));
            before = λ i j l m r. absurd (omega (arith, f.left_is));
            later = λ i e l m n r. absurd (omega (arith, f.left_is));
          };
      names = λ e l. absurd (omega arith);
    }

pub list_goes : {p : List ℕ} {c : Counts} {d : ℕ} {s t : State} → Leaving p c d s → Visited p c (at_name d ∷ []) s t → Leaving p c (d + 1) t
list_goes {d = d} n v =
    let k = v.closes [] n.closed in
    record {
      can = record { ready = n.can.ready; long = v.long ∙ n.can.long };
      closed = k.0;
      ordered = v.orders [] n.closed n.ordered (λ g x i j. absurd (omega arith));
      names = λ e l. by_eq e d (λ q. rw q (k.1 (at_name d) (in_first (at_name d) []))) (λ q. v.grows (at_name e) (n.names e (omega arith)));
    }

pub list_ends : {p : List ℕ} {c : Counts} {d : ℕ} {s : State} → Leaving p c d s → c.definitions ≤ d → Order p c s.order s.left
list_ends {s = s} n l =
    record {
      few = omega (arith, n.ordered.room);
      listed =
          λ e h.
          ⊎_elim (λ (i : In (at_name e) []). absurd (omega arith)) (λ i. i) (n.ordered.listed e (omega (arith, n.can.ready.few_definitions)) (n.names e (omega arith)));
      before = n.ordered.before;
    }

-- ---- each is asked

-- the first i were asked, those from low on and below m: none of them leads to itself, and all that was met is what they lead to
pub record Seeking (p : List ℕ) (c : Counts) (order : List ℕ) (low m i : ℕ) (marks : List Bool) (skips : List ℕ) : Type 0 where
  pub can : Can p c marks
  pub closed : Closed p c [] (st marks skips [] 0)
  pub from : (y : ℕ) → Seen marks y → (j : ℕ) × (j < i) × ((low ≤ get_or order j 0) × (get_or order j 0 < m)) × Round p c (at_name (get_or order j 0)) y
  pub none : (j : ℕ) → j < i → (low ≤ get_or order j 0) × (get_or order j 0 < m) → Round p c (at_name (get_or order j 0)) (at_name (get_or order j 0)) → ⊥

pub seek_starts : {p : List ℕ} {c : Counts} (order : List ℕ) (low m : ℕ) {s : State} → Good p c → Fresh s → Seeking p c order low m 0 s.marks s.skips
seek_starts {p} {c} order low m {s} g f =
    record {
      can = new_can g f.marks_are;
      closed = record { done = (new_closed p c s f).done; skips = (new_closed p c s f).skips };
      from = λ y h. unmet (none_seen f.marks_are y) h;
      none = λ j l. absurd (omega arith);
    }

module _ {p : List ℕ} {c : Counts} (g : Good p c) {order : List ℕ} {n low m i : ℕ} (o : Order p c order n) (few : m ≤ c.definitions) {marks : List Bool} {skips : List ℕ} (s : Seeking p c order low m i marks skips) where
  -- one that is not asked
  pub seek_passes : ((low ≤ get_or order i 0) × (get_or order i 0 < m) → ⊥) → Seeking p c order low m (i + 1) marks skips
  seek_passes l =
      record {
        can = s.can;
        closed = s.closed;
        from = λ y h. let r = s.from y h in (r.0, omega (arith, r.1), r.2, r.3);
        none = λ j h k. by_eq j i (λ q. absurd (l (subst (λ (z : ℕ). (low ≤ get_or order z 0) × (get_or order z 0 < m)) q k))) (λ q. s.none j (omega arith) k);
      }

  module _ (d : ℕ) (q : d ≡ get_or order i 0) (from_low : low ≤ d) (l : d < m) (inside : i < n) {names : List ℕ} {left : ℕ} {t : State} (v : Visited p c (field_types_of p c d) (st marks skips names left) t) where
    closes : Closed p c [] t × AllSeen t.marks (field_types_of p c d)
    closes = v.closes [] (record { done = s.closed.done; skips = s.closed.skips })

    few_name : d < 512
    few_name = omega (arith, g.ready.few_definitions)

    -- what was met now
    new : (y : ℕ) → Seen t.marks y → Seen marks y ⊎ Round p c (at_name d) y
    new y h =
        ⊎_elim
        (λ k. inl k)
        (λ k. inr (record { next = k.0; step = rw (← fields_ahead p c d few_name) k.1; rest = weaker (λ z e. refl) k.2 }))
        (v.sound y h)

    pub seek_goes : get_or t.marks (at_name d) false ≡ false → Seeking p c order low m (i + 1) t.marks t.skips
    seek_goes e =
        record {
          can = record { ready = g.ready; long = v.long ∙ s.can.long };
          closed = record { done = closes.0.done; skips = closes.0.skips };
          from =
              λ y h.
              ⊎_elim
              (λ k. let r = s.from y k in (r.0, omega (arith, r.1), r.2, r.3))
              (λ k. (i, omega arith, (omega (arith, q), omega (arith, q)), rw (← q) k))
              (new y h);
          none =
              λ j h k r.
              by_eq j i
              (λ z.
              ⊎_elim
              (λ b. unmet e b)
              (λ b. absurd (omega (arith, b.1)))
              (follows closes.0 (rw (← fields_ahead p c d few_name) closes.1) (rw (z, ← q) at r)))
              (λ z. s.none j (omega arith) k r);
        }

    pub seek_stops : (get_or t.marks (at_name d) false ≡ true) → Sought p c m (Some d)
    seek_stops e = (
      l,
      cyclic g d (omega arith) (⊎_elim
          (λ k.
          let r = s.from (at_name d) k in
          absurd (s.none r.0 r.1 r.2 (o.before r.0 i r.1 inside (subst (λ (z : ℕ). Round p c (at_name (get_or order r.0 0)) (at_name z)) q r.3))))
          (λ k. k)
          (new (at_name d) e)),
    )

  pub seek_ends : ((d : ℕ) → d < low → on_cycle p c d ≡ false) → n ≤ i → Sought p c m None
  seek_ends known l = λ d k.
      by_le low d
      (λ high.
      by_test (on_cycle p c d)
      (λ t.
      let r = o.listed d (omega arith) in
      absurd (s.none r.0 (omega (arith, r.1)) (omega (arith, r.2, high), omega (arith, r.2)) (rw r.2 (round g d (omega arith) t))))
      (λ t. t))
      (known d)

-- ---- the smallest

pub record Halves (p : List ℕ) (c : Counts) (low high : ℕ) : Type 0 where
  pub inside : high < c.definitions
  pub cycled : on_cycle p c high ≡ true
  pub none : (d : ℕ) → d < low → on_cycle p c d ≡ false

-- ---- what 41 says

pub refused_at : {p : List ℕ} {c : Counts} (d : ℕ) → Smallest p c d → refuse fault.TypeCycle d 0 ≡ cycle_of p c
unfolding cycle_of
refused_at {p} {c} d s =
    sym
    (at_first (λ d. not (on_cycle p c d)) (λ d. refuse fault.TypeCycle d 0) (Ok c) 0 d c.definitions (omega arith) s.inside (λ k l h. rw (s.first k h)) (rw s.cyclic))

pub none_refused : (p : List ℕ) (c : Counts) → Sought p c c.definitions None → Ok c ≡ cycle_of p c
unfolding cycle_of
none_refused p c s =
    sym (none_is (λ d. not (on_cycle p c d)) (λ d. refuse fault.TypeCycle d 0) (Ok c) 0 c.definitions (λ k a b. rw (s k b)))
