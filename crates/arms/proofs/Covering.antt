-- The arms without a guard that have a name.
--     covered_any      a variant is covered by `_` or by its name
--     covered_told     by its name, where no arm is of `_`
--     wild_told        where one is none is missing
--     FreeLeft, free_begins, free_goes, free_stops, free_ends    the arms of a name, one after the other
-- Assumes nothing.
use mathlib.Core.Path.{◌≡◌, refl, sym, ap, ◌∙◌}
use mathlib.Core.List.{List}
use mathlib.Core.Bool.{Bool, true, false, not, ◌&&◌, ◌||◌}
use Prim.Native.Nat.{ℕ, ◌+◌, ◌*◌, ◌/◌, ◌%◌, ◌<◌, ◌≤◌}
use native.Mathlib.Omega.{arith}
use lib.Dec.{eqb}
use borrow.Author.Tests.{eq-eqb, eqb-true, not-true, not-false}
use Rattle.laws.proofs.Choice.{by_eq, and_both}
use Rattle.laws.proofs.First.{Until}
use Rattle.laws.proofs.Members.{by_le}
use Rattle.pack.specs.Lists.{list_len, list_item}
use Rattle.pack.specs.declared.counts.Counts.{Counts}
use Rattle.names.specs.Index.{next_item}
use Rattle.names.proofs.Items.{next_is}
use Rattle.members.specs.Places.{any}
use Rattle.members.specs.Lookup.{name_at}
use Rattle.members.proofs.Counts.{any_or, none_any, found_any, zero_tally}
use Rattle.arms.specs.Free.{arm_has, is_free}
use Rattle.arms.specs.Match.{wild, covers, covered, missing_variants}

module _ (p : List ℕ) (c : Counts) (arms : ℕ) where
  arm_covers : (name j : ℕ) → covers p c arms name j ≡ (arm_has p c arms wild j || arm_has p c arms name j)
  unfolding covers
  arm_covers name j = go (eqb (list_item p c arms (4 * j + 2)) 0) (eqb (list_item p c arms (4 * j)) wild) (eqb (list_item p c arms (4 * j)) name)
    where
      go : (a b d : Bool) → (a && (b || d)) ≡ ((a && b) || (a && d))
      go true b d = refl
      go false b d = refl

  covered_any : (name : ℕ) → (any (arm_has p c arms wild) (list_len p c arms) || any (arm_has p c arms name) (list_len p c arms)) ≡ covered p c arms name
  unfolding covered
  covered_any name = sym (any_or (arm_has p c arms wild) (arm_has p c arms name) (covers p c arms name) (list_len p c arms) (arm_covers name))

  -- as the code asks it
  pub covered_told : (name : ℕ) {r : Bool} → any (arm_has p c arms wild) (list_len p c arms) ≡ false → r ≡ any (arm_has p c arms name) (list_len p c arms)
      → r ≡ covered p c arms name
  covered_told name f q = q ∙ rw f at (covered_any name)

  pub wild_told : (list : ℕ) {b : Bool} → b ≡ any (arm_has p c arms wild) (list_len p c arms) → b ≡ true → 0 ≡ missing_variants p c list arms
  unfolding missing_variants
  wild_told list e h = sym (zero_tally _ _ (λ k l. ap not (rw (sym e ∙ h) at (sym (covered_any (name_at p c list k))))))

  -- ---- the arms of one name

  module _ (name : ℕ) where
    -- an item other than the name is no arm's that has it
    other : (k j : ℕ) → k ≡ 2 * j → not (eqb (list_item p c arms (2 * k)) name) ≡ true → arm_has p c arms name j ≡ false
    other k j e t =
        let w : 2 * k ≡ 4 * j = omega arith in
        let f : eqb (list_item p c arms (4 * j)) name ≡ false = rw w at (not-true (eqb (list_item p c arms (2 * k)) name) t) in
        rw f (go (eqb (list_item p c arms (4 * j + 2)) 0))
      where
        go : (a : Bool) → (a && false) ≡ false
        go true = refl
        go false = refl

    -- the arms before item 2k have it not, and item 2k is the next that is it
    pub record FreeLeft (n k : ℕ) : Type 0 where
      pub high : k ≤ n
      pub passed : (j : ℕ) → 2 * j < k → arm_has p c arms name j ≡ false
      pub is : k < n → list_item p c arms (2 * k) ≡ name

    module _ {i n k : ℕ} (l : i ≤ n) (q : k ≡ next_item p c arms i n name) where
      u : Until (λ x. not (eqb (list_item p c arms (2 * x)) name)) i n k
      u = next_is p c arms i n name l q

      -- the arms before item 2i have it not
      next : ((j : ℕ) → 2 * j < i → arm_has p c arms name j ≡ false) → FreeLeft n k
      next r =
          record {
            high = u.high;
            passed = λ j h. by_le i (2 * j) (λ a. other (2 * j) j refl (u.right (2 * j) a h)) (λ a. r j a);
            is = λ h. eqb-true (list_item p c arms (2 * k)) name (not-false (eqb (list_item p c arms (2 * k)) name) (u.wrong h));
          }

    pub free_begins : {n k : ℕ} → k ≡ next_item p c arms 0 n name → FreeLeft n k
    free_begins q = next (omega arith) q (λ j h. absurd (omega arith))

    module _ {n k : ℕ} {b : Bool} (t : FreeLeft n k) (l : k < n) (e : b ≡ is_free p c arms k) where
      -- item 2k is no arm's without a guard
      guarded : b ≡ false → (j : ℕ) → 2 * j ≡ k → arm_has p c arms name j ≡ false
      unfolding is_free
      guarded f j q =
          let w : 2 * k + 2 ≡ 4 * j + 2 = omega arith in
          let h : k / 2 ≡ j = omega arith in
          let z : k % 2 ≡ 0 = omega arith in
          let g : eqb (list_item p c arms (4 * j + 2)) 0 ≡ false = rw (w, eq-eqb (k % 2) 0 z) at (sym e ∙ f) in
          rw g refl

      pub free_goes : {m : ℕ} → b ≡ false → m ≡ next_item p c arms (k + 1) n name → FreeLeft n m
      free_goes f q = next (omega arith) q (λ j h. by_eq (2 * j) k (λ s. guarded f j s) (λ s. t.passed j (omega arith)))

      pub free_stops : (len : ℕ) → n ≡ 2 * len → b ≡ true → true ≡ any (arm_has p c arms name) len
      unfolding is_free
      free_stops len s y =
          let r = and_both (eqb (k % 2) 0) (eqb (list_item p c arms (2 * k + 2)) 0) (sym e ∙ y) in
          let z : k % 2 ≡ 0 = eqb-true (k % 2) 0 r.0 in
          let w : 2 * k ≡ 4 * (k / 2) = omega arith in
          let v : 2 * k + 2 ≡ 4 * (k / 2) + 2 = omega arith in
          let a : eqb (list_item p c arms (4 * (k / 2) + 2)) 0 ≡ true = rw v at r.1 in
          let d : eqb (list_item p c arms (4 * (k / 2))) name ≡ true = eq-eqb (list_item p c arms (4 * (k / 2))) name (rw w at (t.is l)) in
          sym (found_any (arm_has p c arms name) len (k / 2) (omega arith) (rw (a, d) refl))

    pub free_ends : {n k : ℕ} (len : ℕ) → FreeLeft n k → n ≤ k → n ≡ 2 * len → false ≡ any (arm_has p c arms name) len
    free_ends len t h s = sym (none_any (arm_has p c arms name) len (λ j l. t.passed j (omega arith)))
