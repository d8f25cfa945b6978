-- The steps of the loops that open and close slots: what is left leaves what the whole leaves.
--     open_plain                                        a slot list is one that is opened at each item
--     open_starts, open_goes, open_stops, open_ends     slots open one after the other
--     shut_starts, shut_goes, shut_ends                 slots close
-- Assumes nothing.
use Prim.Native.Nat.{ℕ, zero, suc, ◌+◌, ◌-◌, ◌*◌, ◌<◌, ◌≤◌}
use mathlib.Core.Path.{◌≡◌, refl, sym, ap, ◌∙◌}
use mathlib.Core.Bool.{Bool, true, false}
use mathlib.Core.List.{List, [], ◌∷◌, ◌++◌}
use native.Mathlib.Numerals.{add-one}
use native.Mathlib.Omega.{arith}
use borrow.Author.Tests.{eq-eqb, ne_eqb}
use lib.Dec.{eqb}
use Rattle.laws.specs.Choice.{pick}
use Rattle.laws.specs.Bounded.{put}
use Rattle.laws.specs.Lists.{gather}
use Rattle.laws.proofs.Choice.{yes, no}
use Rattle.pack.specs.Rows.{expression_row}
use Rattle.pack.specs.Lists.{list_len, list_item}
use Rattle.structure.specs.Types.{code_in}
use Rattle.pack.specs.declared.counts.Counts.{Counts}
use Rattle.pack.specs.declared.rows.ExpressionRow.{ExpressionRow}
use Rattle.slots.specs.Slots.{slots, closed, let_slot, open_with, unbound, opened, Opening, opening, open_all, open_each, open_list, shut}

-- ---- opening

-- slots and types that are read in another way, and are the same
open_same : (f g s t : ℕ → ℕ) → ((k : ℕ) → f k ≡ g k) → ((k : ℕ) → s k ≡ t k) → (n k : ℕ) (xs : List ℕ) → open_all f s k n xs ≡ open_all g t k n xs
unfolding open_all
open_same f g s t e q zero k xs = refl
open_same f g s t e q (suc n) k xs = rw (e k, q k, open_same f g s t e q n (suc k)) refl

-- a slot list is opened at each item, with the type at the same place
pub open_plain : (p : List ℕ) (c : Counts) (same : List ℕ) (list fields : ℕ) (xs : List ℕ) → open_each 1 0 p c same list fields xs ≡ open_list p c same list fields xs
unfolding open_list
open_plain p c same list fields xs =
    open_same _ _ _ _
    (λ k. ap (list_item p c list) (let e : 1 * k ≡ k = omega arith in e))
    (λ k. ap (λ (i : ℕ). code_in p c same (list_item p c fields i)) (let e : 1 * k + 0 ≡ k = omega arith in e))
    (list_len p c list) 0 xs

-- of n slots those from the k-th on are left
pub record OpenLeft (slot_at code_at : ℕ → ℕ) (k n : ℕ) (xs : List ℕ) (whole : Opening) : Type 0 where
  pub says : open_all slot_at code_at k (n - k) xs ≡ whole

pub open_starts : (slot_at code_at : ℕ → ℕ) {n m : ℕ} (xs : List ℕ) → n ≡ m → OpenLeft slot_at code_at 0 n xs (open_all slot_at code_at 0 m xs)
open_starts slot_at code_at {n} {m} xs e = let q : n - 0 ≡ m = omega arith in record { says = rw q refl }

open_first : (slot_at code_at : ℕ → ℕ) (k n : ℕ) (xs : List ℕ) → k < n
    → open_all slot_at code_at k (n - k) xs
    ≡ pick (unbound xs (slot_at k)) (open_all slot_at code_at (k + 1) (n - (k + 1)) (put slots xs (slot_at k) (open_with (code_at k)))) (opening false xs)
unfolding open_all
open_first slot_at code_at k n xs h = let e : n - k ≡ suc (n - (k + 1)) = omega arith in rw (e, add-one) refl

module _ {slot_at code_at : ℕ → ℕ} {k n : ℕ} {xs : List ℕ} {whole : Opening} (inv : OpenLeft slot_at code_at k n xs whole) where
  -- a slot was asked for: `b` is what the call answered, `ys` the slots after it
  module _ {a x : ℕ} {b : Bool} {ys : List ℕ} (h : k < n) (s : a ≡ slot_at k) (t : x ≡ code_at k) (q : b ≡ unbound xs a) (w : ys ≡ opened xs a x) where
    pub open_goes : b ≡ true → OpenLeft slot_at code_at (k + 1) n ys whole
    unfolding opened
    open_goes e =
        record {
          says = ap (open_all slot_at code_at (k + 1) (n - (k + 1))) (w ∙ sym (yes (unbound xs a) (put slots xs a (open_with x)) xs (sym q ∙ e) refl) ∙ rw (s, t) refl)
              ∙ yes (unbound xs (slot_at k)) _ _ (ap (unbound xs) (sym s) ∙ sym q ∙ e) refl
              ∙ sym (open_first slot_at code_at k n xs h)
              ∙ inv.says;
        }

    pub open_stops : b ≡ false → opening false ys ≡ whole
    unfolding opened
    open_stops e =
        ap (opening false) (w ∙ sym (no (unbound xs a) (put slots xs a (open_with x)) xs (sym q ∙ e) refl))
        ∙ no (unbound xs (slot_at k)) _ _ (ap (unbound xs) (sym s) ∙ sym q ∙ e) refl
        ∙ sym (open_first slot_at code_at k n xs h)
        ∙ inv.says

  pub open_ends : n ≤ k → opening true xs ≡ whole
  unfolding open_all
  open_ends h = let e : n - k ≡ 0 = omega arith in rw e at inv.says

-- ---- closing

pub shut_append : (list more xs : List ℕ) → shut xs (list ++ more) ≡ shut (shut xs list) more
unfolding shut
shut_append [] more xs = refl
shut_append (a ∷ list) more xs = shut_append list more (put slots xs a closed)

-- a statement that is a let, and one that is none
module _ (p : List ℕ) (c : Counts) (e : ℕ) {r : ExpressionRow} (q : r ≡ expression_row p c e) (xs : List ℕ) where
  pub let_shut : r.kind ≡ 3 → {ys : List ℕ} → ys ≡ shut xs (r.a ∷ []) → ys ≡ shut xs (let_slot p c e)
  unfolding let_slot
  let_shut k w = w ∙ ap (shut xs) (rw (← q) (yes (eqb r.kind 3) (r.a ∷ []) [] (eq-eqb r.kind 3 k) refl))

  none_shut : (r.kind ≡ 3 → ⊥) → [] ≡ let_slot p c e
  unfolding let_slot
  none_shut k = rw (← q) (no (eqb r.kind 3) (r.a ∷ []) [] (ne_eqb r.kind 3 k) refl)

  pub other_shut : (r.kind ≡ 3 → ⊥) → xs ≡ shut xs (let_slot p c e)
  unfolding shut
  other_shut k = rw (← none_shut k) refl

-- of n lists of slots those from the k-th on are left
pub record ShutLeft (lists : ℕ → List ℕ) (k n : ℕ) (xs whole : List ℕ) : Type 0 where
  pub says : shut xs (gather lists k (n - k)) ≡ whole

pub shut_starts : (lists : ℕ → List ℕ) {n m : ℕ} (xs : List ℕ) → n ≡ m → ShutLeft lists 0 n xs (shut xs (gather lists 0 m))
shut_starts lists {n} {m} xs e = let q : n - 0 ≡ m = omega arith in record { says = rw q refl }

module _ {lists : ℕ → List ℕ} {k n : ℕ} {xs whole : List ℕ} (inv : ShutLeft lists k n xs whole) where
  pub shut_goes : {ys : List ℕ} → k < n → ys ≡ shut xs (lists k) → ShutLeft lists (k + 1) n ys whole
  unfolding gather
  shut_goes {ys} h e =
      let f : n - k ≡ suc (n - (k + 1)) = omega arith in
      let g : gather lists k (n - k) ≡ lists k ++ gather lists (k + 1) (n - (k + 1)) = rw (f, add-one) refl in
      record {
        says = ap (λ (l : List ℕ). shut l (gather lists (k + 1) (n - (k + 1)))) e
            ∙ sym (shut_append (lists k) (gather lists (k + 1) (n - (k + 1))) xs)
            ∙ ap (shut xs) (sym g)
            ∙ inv.says;
      }

  pub shut_ends : n ≤ k → xs ≡ whole
  unfolding gather shut
  shut_ends h = let e : n - k ≡ 0 = omega arith in rw e at inv.says
