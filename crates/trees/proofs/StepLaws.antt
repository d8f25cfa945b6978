-- The walk over all rows, step by step, and what its notes say of each expression at the end.
--     start       all roots walked
--     step        one row more
--     used, stated, deep     the three tests, asked of the notes
-- Assumes nothing.
use Prim.Native.Nat.{ℕ, suc, ◌+◌, ◌*◌, ◌-◌, ◌/◌, ◌%◌, ◌≤◌, ◌<◌, min}
use mathlib.Core.Path.{◌≡◌, sym, ap, ◌∙◌}
use mathlib.Core.List.{List}
use native.Mathlib.Omega.{arith}
use native.Mathlib.Numerals.{add-one}
use native.Mathlib.Nat.{sub-zero, sub_self}
use lib.Dec.{eqb, leb}
use lib.ListN.{length, get_or, replicate, length-replicate, get_or-replicate}
use borrow.Author.Tests.{eq-eqb, ne_eqb, le-leb, lt-leb, leb-true, leb-false}
use Rattle.laws.specs.Bounded.{get}
use Rattle.laws.specs.Lists.{count, In, gather}
use Rattle.laws.proofs.Choice.{by_eq, by_test}
use Rattle.laws.proofs.Bounded.{get_in}
use Rattle.laws.proofs.Lists.{count_append}
use Rattle.pack.specs.Rows.{expression_row}
use Rattle.pack.specs.Named.{kids_of, statements_of, operands_of}
use Rattle.pack.specs.declared.counts.Counts.{Counts}
use Rattle.trees.specs.Nodes.{bodies_of, uses_of, stated_of, depth_of, used_once, shallow, max_depth}
use Rattle.trees.specs.Notes.{nodes, Notes, told, note_all, note_row, below}
use Rattle.trees.specs.declared.notes.Notes.{Notes as Held}
use Rattle.trees.specs.Trees.{uses_from, place_of, Trees, Clean, Noted}
use Rattle.trees.proofs.NoteLaws.{Long, long_all, uses_are, place_kept, place_new}
use Rattle.trees.proofs.TreeLaws.{at_row, uses_split, depth_kid, depth_body, stated_kid, stated_body, stated_most, named_later}

-- the rows from i on: row i, and those after it
from_step : (p : List ℕ) (c : Counts) (i e : ℕ) → i < c.expressions
    → uses_from p c i e ≡ count e (statements_of p c i) + count e (operands_of p c i) + uses_from p c (suc i) e
unfolding gather
from_step p c i e l =
    let w : c.expressions - i ≡ suc (c.expressions - suc i) = omega arith in
    rw w
    (omega (
      arith,
      count_append e (kids_of p c i) (gather (kids_of p c) (suc i) (c.expressions - suc i)),
      count_append e (statements_of p c i) (operands_of p c i),
    ))

-- no row at all
from_none : (p : List ℕ) (c : Counts) (e : ℕ) → uses_from p c c.expressions e ≡ count e (bodies_of p c)
unfolding gather
from_none p c e = rw sub_self (omega arith)

-- all rows
from_all : (p : List ℕ) (c : Counts) (e : ℕ) → uses_from p c 0 e ≡ uses_of p c e
from_all p c e = rw sub-zero (sym (uses_split p c e))

clear : (l : List ℕ) → l ≡ replicate nodes 0 → (e : ℕ) → e < nodes → get nodes l e ≡ 0
clear l q e h = sym (get_in nodes l e h) ∙ ap (λ (m : List ℕ). get_or m e 0) q ∙ get_or-replicate nodes e 0 0 h

module _ (p : List ℕ) (c : Counts) where
  pub start : (held : Held) → c.expressions ≤ nodes → Clean held → {s : Notes} → s ≡ note_all (bodies_of p c) 2 (told held) → Noted p c c.expressions s
  start held few z {s} q =
      rw q
      (record {
        low = omega arith;
        few = few;
        long_uses = (long_all (bodies_of p c) 2 (told held) long).uses;
        long_places = (long_all (bodies_of p c) 2 (told held) long).places;
        counted = λ e h. omega (arith, uses_are (bodies_of p c) 2 (told held) long e h (omega (arith, clear held.uses z.no_uses e h)), clear held.uses z.no_uses e h, from_none p c e);
        placed = λ t e h m. place_new (bodies_of p c) 2 (told held) long e (omega arith) (omega (arith, clear held.uses z.no_uses e (omega arith))) (omega (arith, from_none p c e)) ∙ at_root t e h (omega (arith, from_none p c e));
      })
    where
      long : Long (told held)
      long = record { uses = ap length z.no_uses ∙ length-replicate {A = ℕ} nodes 0; places = ap length z.no_places ∙ length-replicate {A = ℕ} nodes 0 }

      at_root : Trees p c → (e : ℕ) → e < c.expressions → 1 ≤ count e (bodies_of p c) → 2 ≡ place_of p c e
      at_root t e h m =
          let n : count e (gather (kids_of p c) 0 c.expressions) ≡ 0 = omega (arith, t.once e h, uses_split p c e) in
          omega (arith, depth_body p c t e h n, stated_body p c t e n)

  pub step : {k : ℕ} {s r : Notes} → Noted p c k s → (i place : ℕ) → i + 1 ≡ k → place ≡ get nodes s.places i → r ≡ note_row p c (expression_row p c i) place s → Noted p c i r
  unfolding note_row
  step {k} {s} {r} n i place w at q =
      rw q
      (record {
        low = omega (arith, n.low);
        few = n.few;
        long_uses = (long_all (operands_of p c i) (2 * below place) mid long_mid).uses;
        long_places = (long_all (operands_of p c i) (2 * below place) mid long_mid).places;
        counted =
            λ e h.
            let a = uses_are (statements_of p c i) (2 * below place + 1) s long e h (omega (arith, n.counted e h)) in
            let b = uses_are (operands_of p c i) (2 * below place) mid long_mid e h (omega (arith, a)) in
            omega (arith, a, b, n.counted e h, next e);
        placed =
            λ t e h m.
            by_eq (count e (operands_of p c i)) 0
            (λ zo.
            place_kept (operands_of p c i) (2 * below place) mid e zo
            ∙ by_eq (count e (statements_of p c i)) 0
            (λ zs. place_kept (statements_of p c i) (2 * below place + 1) s e zs ∙ n.placed t e h (omega (arith, next e)))
            (λ zs.
            let k = kid t e h (omega arith) in
            place_new (statements_of p c i) (2 * below place + 1) s long e (omega (arith, n.few)) (omega (arith, n.counted e (omega (arith, n.few)), once t e h)) (omega arith)
            ∙ omega (arith, k.0, k.1, once t e h)))
            (λ zo.
            let k = kid t e h (omega arith) in
            place_new (operands_of p c i) (2 * below place) mid long_mid e (omega (arith, n.few)) (unused t e h (omega arith)) (omega arith)
            ∙ omega (arith, k.0, k.1, once t e h));
      })
    where
      inside : i < c.expressions
      inside = omega (arith, n.low)

      next : (e : ℕ) → uses_from p c i e ≡ count e (statements_of p c i) + count e (operands_of p c i) + uses_from p c k e
      next e = from_step p c i e inside ∙ ap (λ (j : ℕ). count e (statements_of p c i) + count e (operands_of p c i) + uses_from p c j e) (sym (add-one i) ∙ w)

      -- named by this row: by no other, so this row's place decides
      once : Trees p c → (e : ℕ) → e < c.expressions → count e (statements_of p c i) + count e (operands_of p c i) + uses_from p c k e ≤ 1
      once t e h =
          omega (
            arith,
            t.once e h,
            uses_split p c e,
            at_row (kids_of p c) e i c.expressions inside,
            count_append e (statements_of p c i) (operands_of p c i),
            ap (λ (j : ℕ). uses_from p c j e) (sym (add-one i) ∙ w),
          )

      here : Trees p c → place ≡ place_of p c i
      here t = at ∙ n.placed t i inside (omega (arith, named_later p c t i inside, ap (λ (j : ℕ). uses_from p c j i) (sym (add-one i) ∙ w)))

      kid : Trees p c → (e : ℕ) → e < c.expressions → 1 ≤ count e (statements_of p c i) + count e (operands_of p c i)
          → (below place ≡ min 65 (depth_of p c e)) × (stated_of p c e ≡ count e (statements_of p c i))
      kid t e h m =
          let named : In e (kids_of p c i) = omega (arith, count_append e (statements_of p c i) (operands_of p c i)) in
          (omega (arith, here t, depth_kid p c t e i h inside named, stated_most p c t i inside), stated_kid p c t e i h inside named)

      long : Long s
      long = record { uses = n.long_uses; places = n.long_places }

      mid : Notes
      mid = note_all (statements_of p c i) (2 * below place + 1) s

      long_mid : Long mid
      long_mid = long_all (statements_of p c i) (2 * below place + 1) s long

      -- named as an operand: not noted before
      unused : Trees p c → (e : ℕ) → e < c.expressions → 1 ≤ count e (operands_of p c i) → get nodes mid.uses e < 2
      unused t e h m =
          let low : e < nodes = omega (arith, n.few) in
          omega (
            arith,
            uses_are (statements_of p c i) (2 * below place + 1) s long e low (omega (arith, n.counted e low)),
            n.counted e low,
            once t e h,
          )

-- all rows walked
pub walked : {p : List ℕ} {c : Counts} {k : ℕ} {s : Notes} → k ≤ 0 → Noted p c k s → Noted p c 0 s
walked {k = k} l n = let e : k ≡ 0 = omega arith in rw e at n

-- the three tests of expression e
module _ (p : List ℕ) (c : Counts) (s : Notes) (n : Noted p c 0 s) (e : ℕ) (l : e < c.expressions) where
  -- what the code reads of an array
  read : (xs : List ℕ) → get_or xs e 0 ≡ get nodes xs e
  read xs = get_in nodes xs e (omega (arith, n.few))

  pub used : eqb (get_or s.uses e 0) 1 ≡ used_once p c e
  used =
      let u : get_or s.uses e 0 ≡ min 2 (uses_of p c e) = read s.uses ∙ n.counted e (omega (arith, n.few)) ∙ ap (min 2) (from_all p c e) in
      by_eq (uses_of p c e) 1
      (λ y. eq-eqb (get_or s.uses e 0) 1 (omega arith) ∙ sym (eq-eqb (uses_of p c e) 1 y))
      (λ f. ne_eqb (get_or s.uses e 0) 1 (λ h. f (omega arith)) ∙ sym (ne_eqb (uses_of p c e) 1 f))

  module _ (t : Trees p c) where
    placed_at : get_or s.places e 0 ≡ place_of p c e
    placed_at = read s.places ∙ n.placed t e l (omega (arith, t.once e l, from_all p c e))

    pub stated : eqb (get_or s.places e 0 % 2) 1 ≡ leb 1 (stated_of p c e)
    stated =
        by_eq (stated_of p c e) 0
        (λ z. ne_eqb (get_or s.places e 0 % 2) 1 (λ h. omega (arith, placed_at)) ∙ sym (lt-leb 1 (stated_of p c e) (omega arith)))
        (λ z. eq-eqb (get_or s.places e 0 % 2) 1 (omega (arith, placed_at, stated_most p c t e l)) ∙ sym (le-leb 1 (stated_of p c e) (omega arith)))

    pub deep : leb (get_or s.places e 0 / 2) max_depth ≡ shallow p c e
    deep =
        by_test (shallow p c e)
        (λ y. le-leb (get_or s.places e 0 / 2) max_depth (omega (arith, placed_at, stated_most p c t e l, leb-true (depth_of p c e) max_depth y)) ∙ sym y)
        (λ f. lt-leb (get_or s.places e 0 / 2) max_depth (omega (arith, placed_at, leb-false (depth_of p c e) max_depth f)) ∙ sym f)
