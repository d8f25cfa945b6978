-- The pass for 40: definitions have marks from the start, so a search from a definition's fields meets the types that the fields lead to, and the
-- variable where one of them is one.
--     wall_starts, wall_goes    the loop that gives definitions their marks
--     starts                    the marks before the first definition
--     clear                     no variable met: the definition is resolved, and the marks stay right
--     met                       the variable met: it is not
-- Assumes nothing.
use Prim.Native.Nat.{ℕ, zero, suc, ◌+◌, ◌-◌, ◌<◌, ◌≤◌}
use mathlib.Core.Path.{◌≡◌, refl, sym, ap, ◌∙◌}
use mathlib.Core.Logic.{inl, ⊎_elim}
use mathlib.Core.Bool.{Bool, true, false}
use mathlib.Core.List.{List, [], ◌∷◌}
use native.Mathlib.Omega.{arith}
use lib.ListN.{length, get_or, set, replicate, length-set, length-replicate}
use Rattle.laws.specs.Lists.{In, gather}
use Rattle.laws.specs.Bounded.{get}
use Rattle.laws.proofs.Choice.{by_eq, by_test}
use Rattle.laws.proofs.Bounded.{by_bound, get_in, get_out}
use Rattle.laws.proofs.Lists.{in_one, gather_in, in_gather}
use Rattle.pack.specs.Named.{field_types_of}
use Rattle.pack.specs.declared.counts.Counts.{Counts}
use Rattle.type_cycle.specs.Leads.{over, is_variable, inside, types_in}
use Rattle.type_cycle.specs.Cycles.{resolved}
use Rattle.type_cycle.specs.Walks.{Held, itself, part}
use Rattle.type_cycle.specs.Graph.{at_name, unresolved, ahead}
use Rattle.type_cycle.specs.Skips.{skip_place, skip_places}
use Rattle.type_cycle.specs.Search.{State, st, Seen, AllSeen, Can, Skipped, Closed, Visited}
use Rattle.type_cycle.specs.Order.{Good, Walled}
use Rattle.type_cycle.proofs.VisitLaws.{unmet, in_first, mark_here, mark_keeps, mark_only}
use Rattle.type_cycle.proofs.LeadLaws.{over_in, in_over, none_true, none_false, variable_ahead, inside_held, held_inside, held_few, part_ahead, path_variable}

-- ---- no skips, and no marks

pub clean : (n i : ℕ) → get_or (replicate {A = ℕ} n 0) i 0 ≡ 0
clean zero i = refl
clean (suc n) zero = refl
clean (suc n) (suc i) = clean n i

pub unmarked_at : (n i : ℕ) → get_or (replicate {A = Bool} n false) i false ≡ false
unmarked_at zero i = refl
unmarked_at (suc n) zero = refl
unmarked_at (suc n) (suc i) = unmarked_at n i

pub no_skips : (p : List ℕ) (c : Counts) (marks : List Bool) {skips : List ℕ} → skips ≡ replicate 24576 0 → Skipped p c marks skips
no_skips p c marks {skips} e = record { done = λ items w j l. absurd (omega (arith, none (skip_place items w))) }
  where
    none : (i : ℕ) → get skip_places skips i ≡ 0
    none i = by_bound skip_places skips i (λ h. sym (get_in skip_places skips i h) ∙ ap (λ (l : List ℕ). get_or l i 0) e ∙ clean 24576 i) (λ h. sym (get_out skip_places skips i h))

-- ---- definitions get their marks

pub wall_starts : {marks : List Bool} (at : ℕ) → at ≡ 2048 → marks ≡ replicate 2561 false → Walled (at - 2048) marks
wall_starts {marks} at z e =
    record {
      long = ap length e ∙ length-replicate {A = Bool} 2561 false;
      names = λ d l. absurd (omega arith);
      only = λ x s. unmet (ap (λ (l : List Bool). get_or l x false) e ∙ unmarked_at 2561 x) s;
    }

pub wall_goes : {marks : List Bool} (at : ℕ) → 2048 ≤ at → at < 2560 → Walled (at - 2048) marks → Walled (at + 1 - 2048) (set marks at true)
wall_goes {marks} at l h w =
    record {
      long = length-set marks at true ∙ w.long;
      names =
          λ d k.
          by_eq (at_name d) at
          (λ e. rw e (mark_here marks at (omega (arith, w.long))))
          (λ e. mark_keeps marks at (omega (arith, w.long)) (at_name d) (w.names d (omega arith)));
      only =
          λ x s.
          ⊎_elim
          (λ e. (at - 2048, omega arith, omega arith))
          (λ k. let r = w.only x k in (r.0, omega (arith, r.1), r.2))
          (mark_only marks at (omega (arith, w.long)) x s);
    }

-- ---- the pass

abbrev names : List ℕ
names = gather (λ d. at_name d ∷ []) 0 512

is_name : (x : ℕ) → In x names → (d : ℕ) × (d < 512) × (x ≡ at_name d)
is_name x i = let r = gather_in x (λ d. at_name d ∷ []) 512 0 i in (r.0, omega (arith, r.2), in_one x (at_name r.0) r.3)

pub record Walls (p : List ℕ) (c : Counts) (marks : List Bool) (skips : List ℕ) : Type 0 where
  pub can : Can p c marks
  pub closed : Closed p c names (st marks skips [] 0)
  pub walls : (d : ℕ) → d < 512 → Seen marks (at_name d)
  pub free : get_or marks unresolved false ≡ false

pub starts : {p : List ℕ} {c : Counts} {marks : List Bool} {skips : List ℕ} → Good p c → Walled 512 marks → skips ≡ replicate 24576 0 → Walls p c marks skips
starts {p} {c} {marks} {skips} g w e =
    record {
      can = record { ready = g.ready; long = w.long };
      closed =
          record {
            done = λ x s. inl (let r = w.only x s in rw r.2 (in_gather (at_name r.0) (λ d. at_name d ∷ []) 0 r.0 512 (omega arith) (omega (arith, r.1)) (in_first (at_name r.0) [])));
            skips = no_skips p c marks e;
          };
      walls = w.names;
      free = by_test (get_or marks unresolved false) (λ t. let r = w.only unresolved t in absurd (omega (arith, r.1, r.2))) (λ z. z);
    }

module _ {p : List ℕ} {c : Counts} {marks : List Bool} {skips order : List ℕ} {left : ℕ} {t : State} (g : Good p c) (w : Walls p c marks skips) (d : ℕ) (l : d < c.definitions) (v : Visited p c (field_types_of p c d) (st marks skips order left) t) where
  after : Closed p c names t × AllSeen t.marks (field_types_of p c d)
  after = v.closes names (record { done = w.closed.done; skips = w.closed.skips })

  -- a type that was met leads only to what was met
  closes : (x : ℕ) → x < c.types → Seen t.marks x → AllSeen t.marks (ahead p c x)
  closes x l s = ⊎_elim (λ i. let r = is_name x i in absurd (omega (arith, g.ready.few_types, r.2))) (λ a. a) (after.0.done x s)

  -- what a type that was met holds was met
  seen_held : {x u : ℕ} → Held p c x u → x < c.types → Seen t.marks x → Seen t.marks u
  seen_held itself l s = s
  seen_held {x} (part {v = v} e i h) l s =
      seen_held h (omega (arith, g.smaller x v l i)) (closes x l s v (rw (part_ahead p c x (omega (arith, g.ready.few_types)) e) at i))

  pub clear : get_or t.marks unresolved false ≡ false → (resolved p c d ≡ true) × Walls p c t.marks t.skips
  unfolding resolved types_in
  clear e = (
    none_true (is_variable p) (over (inside p c c.types) (field_types_of p c d))
        (λ u i.
        let r = over_in u (inside p c c.types) (field_types_of p c d) i in
        let x = r.0 in
        let k = (g.ready.fields d l).below x r.1 in
        let h = inside_held p c c.types x u r.2 in
        let f = held_few g h k in
        by_test (is_variable p u)
        (λ y. unmet e (closes u f (seen_held h k (after.1 x r.1)) unresolved (variable_ahead p c u (omega (arith, f, g.ready.few_types)) y)))
        (λ y. y)),
    record {
      can = record { ready = g.ready; long = v.long ∙ w.can.long };
      closed = record { done = after.0.done; skips = after.0.skips };
      walls = λ k m. v.grows (at_name k) (w.walls k m);
      free = e;
    },
  )

  pub met : (get_or t.marks unresolved false ≡ true) → resolved p c d ≡ false
  unfolding resolved types_in
  met n =
      ⊎_elim
      (λ s. unmet w.free s)
      (λ r.
      let x = r.0 in
      let k = (g.ready.fields d l).below x r.1 in
      let u = path_variable g w.walls r.2 refl k in
      none_false (is_variable p) (over (inside p c c.types) (field_types_of p c d)) u.row (in_over u.row x (inside p c c.types) (field_types_of p c d) r.1 (held_inside g u.held k c.types k)) u.kind)
      (v.sound unresolved n)
