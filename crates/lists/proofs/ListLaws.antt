-- A list in range: from the two tests that the code asks one after the other, and from the weights of its items.
--     inside, outside                           the two tests
--     ids_by, pairs_by, variants_by, arms_by    each item is in range exactly if it weighs less than the limit
-- Assumes nothing.
use Prim.Native.Nat.{ℕ, zero, suc, ◌+◌, ◌*◌, ◌-◌, ◌≤◌, max}
use mathlib.Core.Path.{◌≡◌, refl, ap, ◌∙◌}
use mathlib.Core.Bool.{Bool, true, false, ◌&&◌}
use mathlib.Core.List.{List}
use native.Mathlib.Omega.{arith}
use lib.Dec.{leb, ltb}
use borrow.Author.Tests.{leb-true, ltb-true, lt-ltb, le-ltb}
use Rattle.laws.specs.Choice.{pick}
use Rattle.laws.specs.First.{all}
use Rattle.laws.proofs.Choice.{and_both}
use Rattle.laws.proofs.Tests.{same_test, all_same, all_both}
use Rattle.pack.specs.Lists.{list_word, list_len, list_item}
use Rattle.pack.specs.declared.counts.Counts.{Counts}
use Rattle.lists.specs.Limits.{names, wild, optional_below}
use Rattle.lists.specs.Forms.{stride}
use Rattle.lists.specs.declared.forms.Form.TheVariants.{Id, Word, Variant, Arm}
use Rattle.lists.specs.Lists.{list_fits, words_of, ids_fit, slots_fit, item_fits, items_fit}
use Rattle.lists.specs.Peaks.{never, weight}
use Rattle.lists.specs.declared.lists.Items.{Items}
use Rattle.lists.specs.declared.lists.Items.TheVariants.{Ids, Pairs, Variants, Arms}

pub fits : (c : Counts) (s words : ℕ) → list_fits c s words ≡ true → s + 1 + words ≤ c.words
unfolding list_fits
fits c s words t = leb-true (s + 1 + words) c.words t

module _ (p : List ℕ) (c : Counts) (items : Items) (s : ℕ) {n words : ℕ} {b : Bool} (count : n ≡ list_len p c s) (wide : words ≡ words_of items n) (asked : b ≡ list_fits c s words) where
  pub inside : {z : Bool} → b ≡ true → z ≡ all (item_fits p c items s) 0 n → z ≡ items_fit p c items s
  unfolding items_fit
  inside t e = rw (← count, ← wide, ← asked, t) e

  pub outside : b ≡ false → false ≡ items_fit p c items s
  unfolding items_fit
  outside f = rw (← count, ← wide, ← asked, f)

-- ---- two tests one after the other

pub and_second : {a b : Bool} → a ≡ true → b ≡ (a && b)
and_second t = rw t refl

pub and_first : {a : Bool} (b : Bool) → a ≡ false → a ≡ (a && b)
and_first b f = rw f refl

-- ---- by weights

-- an item that weighs nothing, or too much for any limit
pub light : (t : Bool) → ltb (pick t 0 never) 1 ≡ t
unfolding pick
light true = refl
light false = le-ltb never 1 (omega arith)

arm_light : (t : Bool) (g b limit : ℕ) → limit ≤ never → ltb (pick t (max (g - 1) b) never) limit ≡ (t && (optional_below limit g && ltb b limit))
unfolding pick
arm_light true zero b limit l = let e : max (0 - 1) b ≡ b = omega arith in ap (λ (x : ℕ). ltb x limit) e
arm_light true (suc g) b limit l =
    same_test (ltb (max (suc g - 1) b) limit) (ltb g limit && ltb b limit)
    (λ t. let h = ltb-true (max (suc g - 1) b) limit t in rw (lt-ltb g limit (omega arith)) (lt-ltb b limit (omega arith)))
    (λ t. let h = and_both (ltb g limit) (ltb b limit) t in lt-ltb (max (suc g - 1) b) limit (omega (arith, ltb-true g limit h.0, ltb-true b limit h.1)))
arm_light false g b limit l = le-ltb never limit l

module _ (p : List ℕ) (c : Counts) (s n : ℕ) where
  pub ids_by : (limit : ℕ) → all (λ k. ltb (weight p c Id (s + 1 + stride Id * k)) limit) 0 n ≡ all (item_fits p c (Ids limit) s) 0 n
  unfolding weight list_item
  ids_by limit =
      all_same (λ k. ltb (weight p c Id (s + 1 + stride Id * k)) limit) (item_fits p c (Ids limit) s) n
      (λ k h. let e : s + 1 + 1 * k ≡ s + 1 + k = omega arith in ap (λ (x : ℕ). ltb (list_word p c x) limit) e)

  pub pairs_by : (first second : ℕ) {a b : Bool} → a ≡ all (λ k. ltb (weight p c Word (s + 1 + stride Word * k)) first) 0 n
      → b ≡ all (λ k. ltb (weight p c Word (s + 2 + stride Word * k)) second) 0 n → (a && b) ≡ all (item_fits p c (Pairs first second) s) 0 n
  unfolding weight list_item
  pairs_by first second e f =
      rw (e, f)
      (all_both (λ k. ltb (list_word p c (s + 1 + 2 * k)) first) (λ k. ltb (list_word p c (s + 2 + 2 * k)) second) n
      ∙ all_same (λ k. ltb (list_word p c (s + 1 + 2 * k)) first && ltb (list_word p c (s + 2 + 2 * k)) second) (item_fits p c (Pairs first second) s) n
      (λ k h. let q : s + 2 + 2 * k ≡ s + 1 + (2 * k + 1) = omega arith in ap (λ (x : ℕ). ltb (list_word p c (s + 1 + 2 * k)) first && ltb (list_word p c x) second) q))

  pub variants_by : all (λ k. ltb (weight p c Variant (s + 1 + stride Variant * k)) 1) 0 n ≡ all (item_fits p c Variants s) 0 n
  unfolding weight list_item
  variants_by =
      all_same (λ k. ltb (weight p c Variant (s + 1 + stride Variant * k)) 1) (item_fits p c Variants s) n
      (λ k h.
      let q : s + 1 + 2 * k + 1 ≡ s + 1 + (2 * k + 1) = omega arith in
      light (ltb (list_word p c (s + 1 + 2 * k)) names && ids_fit p c c.types (list_word p c (s + 1 + 2 * k + 1)))
      ∙ ap (λ (x : ℕ). ltb (list_word p c (s + 1 + 2 * k)) names && ids_fit p c c.types (list_word p c x)) q)

  pub arms_by : (limit : ℕ) → limit ≤ never → all (λ k. ltb (weight p c Arm (s + 1 + stride Arm * k)) limit) 0 n ≡ all (item_fits p c (Arms limit) s) 0 n
  unfolding weight list_item
  arms_by limit l =
      all_same (λ k. ltb (weight p c Arm (s + 1 + stride Arm * k)) limit) (item_fits p c (Arms limit) s) n
      (λ k h.
      let j = s + 1 + 4 * k in
      let a : j + 1 ≡ s + 1 + (4 * k + 1) = omega arith in
      let b : j + 2 ≡ s + 1 + (4 * k + 2) = omega arith in
      let d : j + 3 ≡ s + 1 + (4 * k + 3) = omega arith in
      arm_light (leb (list_word p c j) wild && slots_fit p c (list_word p c j) (list_word p c (j + 1))) (list_word p c (j + 2)) (list_word p c (j + 3)) limit l
      ∙ ap (λ (x : ℕ). (leb (list_word p c j) wild && slots_fit p c (list_word p c j) (list_word p c x)) && (optional_below limit (list_word p c (j + 2)) && ltb (list_word p c (j + 3)) limit)) a
      ∙ ap (λ (x : ℕ). (leb (list_word p c j) wild && slots_fit p c (list_word p c j) (list_word p c (s + 1 + (4 * k + 1)))) && (optional_below limit (list_word p c x) && ltb (list_word p c (j + 3)) limit)) b
      ∙ ap (λ (x : ℕ). (leb (list_word p c j) wild && slots_fit p c (list_word p c j) (list_word p c (s + 1 + (4 * k + 1)))) && (optional_below limit (list_word p c (s + 1 + (4 * k + 2))) && ltb (list_word p c x) limit)) d)
