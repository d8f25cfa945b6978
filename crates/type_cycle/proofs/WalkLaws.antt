-- A walk of names, in three words that agree: `leads` of the definition, `Walk` step by step, and a path of the search from a definition to one.
--     names_step, step_names    one step
--     leads_walk, walk_leads    the first two
--     walk_round, round_walk    the last two
--     cyclic, round             a definition on a cycle, and a path from it back to it
-- Assumes nothing.
use Prim.Native.Nat.{ℕ, zero, suc, ◌<◌}
use mathlib.Core.Path.{◌≡◌, refl, sym, subst, ◌∙◌}
use mathlib.Core.Logic.{◌⊎◌, inl, inr, ⊎_elim}
use mathlib.Core.Bool.{Bool, true, false, ◌&&◌}
use mathlib.Core.List.{List, [], ◌∷◌}
use native.Mathlib.Omega.{arith}
use borrow.Author.Tests.{eq-eqb, eqb-true, leb-true, le-leb}
use Rattle.laws.specs.Choice.{pick}
use Rattle.laws.specs.Lists.{count, In}
use Rattle.laws.proofs.Choice.{yes, no, by_eq, by_test, and_both}
use Rattle.laws.proofs.Lists.{in_one}
use Rattle.pack.specs.Rows.{type_row}
use Rattle.pack.specs.Named.{parts_of, field_types_of}
use Rattle.pack.specs.declared.counts.Counts.{Counts}
use Rattle.type_cycle.specs.Leads.{over, is_named, inside, types_in, names_in}
use Rattle.type_cycle.specs.Cycles.{leads, on_cycle}
use Rattle.type_cycle.specs.Walks.{Held, itself, part, Step, Walk, one, more}
use Rattle.type_cycle.specs.Graph.{at_name, unresolved, ahead, here, on, Reach, Round}
use Rattle.type_cycle.specs.Order.{Good}
use Rattle.type_cycle.proofs.VisitLaws.{in_first, joined, step, onward}
use Rattle.type_cycle.proofs.StepLaws.{fields_ahead, nothing_ahead}
use Rattle.type_cycle.proofs.LeadLaws.{over_in, in_over, inside_held, held_inside, held_few, held_path, row_ahead_lem, named_ahead, parts_seconds, Leading, to_name, to_part, to_variable}

-- ---- one step of names

pick_in : (b : Bool) (y x : ℕ) → In y (pick b (x ∷ []) []) → (b ≡ true) × (y ≡ x)
unfolding pick
pick_in true y x i = (refl, in_one y x i)
pick_in false y x i = absurd (omega arith)

pub names_step : (p : List ℕ) (c : Counts) (d e : ℕ) → In e (names_in p c d) → Step p c d e
unfolding names_in types_in
names_step p c d e i =
    let r = over_in e (λ t. pick (is_named p t) ((type_row p t).a ∷ []) []) (over (inside p c c.types) (field_types_of p c d)) i in
    let q = over_in r.0 (inside p c c.types) (field_types_of p c d) r.1 in
    let b = pick_in (is_named p r.0) e (type_row p r.0).a r.2 in
    record {
      field_type = q.0;
      in_fields = q.1;
      row = r.0;
      held = inside_held p c c.types q.0 r.0 q.2;
      kind = eqb-true (type_row p r.0).kind 4 b.0;
      is = sym b.1;
    }

in_names : (p : List ℕ) (c : Counts) (d t u : ℕ) → In t (field_types_of p c d) → In u (inside p c c.types t) → (type_row p u).kind ≡ 4 → In (type_row p u).a (names_in p c d)
unfolding names_in types_in
in_names p c d t u i j e =
    in_over (type_row p u).a u (λ t. pick (is_named p t) ((type_row p t).a ∷ []) []) (over (inside p c c.types) (field_types_of p c d))
    (in_over u t (inside p c c.types) (field_types_of p c d) i j)
    (rw (sym (yes (is_named p u) ((type_row p u).a ∷ []) [] (eq-eqb (type_row p u).kind 4 e) refl)) (in_first (type_row p u).a []))

-- ---- leads

module _ (p : List ℕ) (c : Counts) where
  -- the two ways of one name more
  leads_split : (k d e : ℕ) → leads p c (suc k) d e ≡ true → (leads p c k d e ≡ true) ⊎ ((leads p c k d k ≡ true) × (leads p c k k e ≡ true))
  unfolding leads
  leads_split k d e t =
      by_test (leads p c k d e)
      (λ y. inl y)
      (λ n. inr (and_both (leads p c k d k) (leads p c k k e) (no (leads p c k d e) true (leads p c k d k && leads p c k k e) n refl ∙ t)))

  leads_more : (k d e : ℕ) → leads p c k d e ≡ true → leads p c (suc k) d e ≡ true
  unfolding leads
  leads_more k d e t = sym (yes (leads p c k d e) true (leads p c k d k && leads p c k k e) t refl)

  leads_through : (k d e : ℕ) → leads p c k d k ≡ true → leads p c k k e ≡ true → leads p c (suc k) d e ≡ true
  unfolding leads
  leads_through k d e a b =
      by_test (leads p c k d e)
      (λ y. leads_more k d e y)
      (λ n. sym (no (leads p c k d e) true (leads p c k d k && leads p c k k e) n (rw (a, b) refl)))

  pub leads_walk : (k d e : ℕ) → leads p c k d e ≡ true → Walk p c d e
  unfolding leads
  leads_walk zero d e t = one (names_step p c d e (leb-true 1 (count e (names_in p c d)) t))
  leads_walk (suc k) d e t = ⊎_elim (λ y. leads_walk k d e y) (λ y. walks (leads_walk k d k y.0) (leads_walk k k e y.1)) (leads_split k d e t)
    where
      walks : {d m e : ℕ} → Walk p c d m → Walk p c m e → Walk p c d e
      walks (one i) w = more i w
      walks (more i v) w = more i (walks v w)

  -- through a name below k
  leads_join : (k d m e : ℕ) → m < k → leads p c k d m ≡ true → leads p c k m e ≡ true → leads p c k d e ≡ true
  leads_join zero d m e l a b = absurd (omega arith)
  leads_join (suc k) d m e l a b =
      by_eq m k
      (λ q.
      leads_through k d e
      (⊎_elim (λ y. rw q at y) (λ y. y.0) (leads_split k d m a))
      (⊎_elim (λ y. rw q at y) (λ y. y.1) (leads_split k m e b)))
      (λ q.
      let h : m < k = omega arith in
      ⊎_elim
      (λ x.
      ⊎_elim
      (λ y. leads_more k d e (leads_join k d m e h x y))
      (λ y. leads_through k d e (leads_join k d m k h x y.0) y.1)
      (leads_split k m e b))
      (λ x.
      ⊎_elim
      (λ y. leads_through k d e x.0 (leads_join k k m e h x.1 y))
      (λ y. leads_through k d e x.0 y.1)
      (leads_split k m e b))
      (leads_split k d m a))

  leads_step : (k d e : ℕ) → In e (names_in p c d) → leads p c k d e ≡ true
  unfolding leads
  leads_step zero d e i = le-leb 1 (count e (names_in p c d)) i
  leads_step (suc k) d e i = leads_more k d e (leads_step k d e i)

module _ {p : List ℕ} {c : Counts} (g : Good p c) where
  few : (d : ℕ) → d < c.definitions → d < 512
  few d l = omega (arith, g.ready.few_definitions)

  field_few : {d e : ℕ} → d < c.definitions → (s : Step p c d e) → s.field_type < c.types
  field_few {d} l s = (g.ready.fields d l).below s.field_type s.in_fields

  row_few : {d e : ℕ} → d < c.definitions → (s : Step p c d e) → s.row < c.types
  row_few l s = held_few g s.held (field_few l s)

  pub step_names : {d e : ℕ} → d < c.definitions → Step p c d e → In e (names_in p c d)
  step_names {d} {e} l s =
      subst (λ (x : ℕ). In x (names_in p c d)) s.is
      (in_names p c d s.field_type s.row s.in_fields (held_inside g s.held (field_few l s) c.types (field_few l s)) s.kind)

  pub step_few : {d e : ℕ} → d < c.definitions → Step p c d e → e < c.definitions
  step_few l s = omega (arith, s.is, (g.ready.rows s.row (row_few l s)).named s.kind)

  pub walk_leads : {d e : ℕ} → Walk p c d e → d < c.definitions → leads p c c.definitions d e ≡ true
  walk_leads {d} {e} (one s) l = leads_step p c c.definitions d e (step_names l s)
  walk_leads {d} {e} (more {m = m} s w) l =
      let h = step_few l s in
      leads_join p c c.definitions d m e h (leads_step p c c.definitions d m (step_names l s)) (walk_leads w h)

  -- ---- a step of names as a path of the search

  step_round : {d e : ℕ} → d < c.definitions → Step p c d e → Round p c (at_name d) (at_name e)
  step_round {d} l s =
      record {
        next = s.field_type;
        step = rw (← fields_ahead p c d (few d l)) s.in_fields;
        rest =
            joined (held_path g s.held (field_few l s))
            (subst (λ (y : ℕ). Reach p c s.row (at_name y)) s.is (step (named_ahead p c s.row (omega (arith, row_few l s, g.ready.few_types)) s.kind)));
      }

  pub walk_round : {d e : ℕ} → Walk p c d e → d < c.definitions → Round p c (at_name d) (at_name e)
  walk_round (one s) l = step_round l s
  walk_round (more s w) l =
      let r = walk_round w (step_few l s) in
      onward (step_round l s) (on refl r.step r.rest)

  -- ---- and the other way round

  -- from a type: a named type that it holds, and what follows that name
  record Onto (e x : ℕ) : Type 0 where
    row : ℕ
    held : Held p c x row
    kind : (type_row p row).kind ≡ 4
    rest : ((type_row p row).a ≡ e) ⊎ Walk p c (type_row p row).a e

  -- from a type or a definition
  record From (e x : ℕ) : Type 0 where
    of_type : x < c.types → Onto e x
    of_name : (d : ℕ) → x ≡ at_name d → d < c.definitions → (d ≡ e) ⊎ Walk p c d e

  from_row : {e x z : ℕ} → x < c.types → Leading p c (type_row p x) z → From e z → (z ≡ unresolved → ⊥) → Onto e x
  from_row {e} {x} l (to_name k q) f v =
      record { row = x; held = itself; kind = k; rest = f.of_name (type_row p x).a q ((g.ready.rows x l).named k) }
  from_row {e} {x} {z} l (to_part k i) f v =
      let m : In z (parts_of p c x) = rw (parts_seconds p c x k) i in
      let o = f.of_type (omega (arith, g.smaller x z l m)) in
      record { row = o.row; held = part k m o.held; kind = o.kind; rest = o.rest }
  from_row l (to_variable a b q) f v = absurd (v q)

  -- the variable leads nowhere
  dead : {x y : ℕ} → Reach p c x y → x ≡ unresolved → y ≡ unresolved
  dead here q = q
  dead (on {z = z} e i r) q =
      let a : In z [] = subst (λ (l : List ℕ). In z l) (sym (nothing_ahead p c)) (rw q at i) in
      absurd (omega arith)

  -- a definition's first step
  first_step : {d e z : ℕ} → d < c.definitions → In z (ahead p c (at_name d)) → From e z → Walk p c d e
  first_step {d} {e} {z} l i f =
      let j : In z (field_types_of p c d) = rw (fields_ahead p c d (few d l)) i in
      let o = f.of_type ((g.ready.fields d l).below z j) in
      let s : Step p c d (type_row p o.row).a = record { field_type = z; in_fields = j; row = o.row; held = o.held; kind = o.kind; is = refl } in
      ⊎_elim (λ y. one (rw y at s)) (λ y. more s y) o.rest

  from : {x y : ℕ} (e : ℕ) → Reach p c x y → y ≡ at_name e → e < 512 → From e x
  from e here q h = record { of_type = λ l. absurd (omega (arith, g.ready.few_types)); of_name = λ d k l. inl (omega arith) }
  from {x} e (on {z = z} b i r) q h =
      let f = from e r q h in
      record {
        of_type = λ l. from_row l (row_ahead_lem p c x (omega (arith, g.ready.few_types)) i) f (λ v. omega (arith, dead r v));
        of_name = λ d k l. inr (first_step l (rw k at i) f);
      }

  pub round_walk : {d e : ℕ} → d < c.definitions → e < 512 → Round p c (at_name d) (at_name e) → Walk p c d e
  round_walk {d} {e} l h r = first_step l r.step (from e r.rest refl h)

  -- ---- a definition on a cycle

  pub cyclic : (d : ℕ) → d < c.definitions → Round p c (at_name d) (at_name d) → on_cycle p c d ≡ true
  unfolding on_cycle
  cyclic d l r = walk_leads (round_walk l (few d l) r) l

  pub round : (d : ℕ) → d < c.definitions → on_cycle p c d ≡ true → Round p c (at_name d) (at_name d)
  unfolding on_cycle
  round d l e = walk_round (leads_walk p c c.definitions d d e) l
