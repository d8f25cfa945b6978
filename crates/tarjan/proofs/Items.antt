-- The items of a list that are left from item k on, for the loops that go through a value's references.
-- Assumes nothing.
use Prim.Native.Nat.{ℕ, suc, ◌+◌, ◌-◌, ◌≤◌, ◌<◌}
use mathlib.Core.Path.{◌≡◌, sym, ap, ◌∙◌}
use mathlib.Core.List.{List, [], ◌∷◌}
use native.Mathlib.Numerals.{add-one}
use native.Mathlib.Omega.{arith}
use Rattle.laws.specs.Lists.{In, gather}
use Rattle.laws.proofs.Lists.{in_gather}
use Rattle.laws.proofs.Members.{in_self}
use Rattle.pack.specs.Lists.{list_len, list_item}
use Rattle.pack.specs.Named.{items_of}
use Rattle.pack.specs.declared.counts.Counts.{Counts}

module _ (p : List ℕ) (c : Counts) (s : ℕ) where
  abbrev pub items_from : ℕ → List ℕ
  items_from k = gather (λ j. list_item p c s j ∷ []) k (list_len p c s - k)

  pub items_start : items_of p c s ≡ items_from 0
  unfolding items_of
  items_start = let e : list_len p c s - 0 ≡ list_len p c s = omega arith in ap (gather (λ j. list_item p c s j ∷ []) 0) (sym e)

  pub items_at : (k : ℕ) → k < list_len p c s → items_from k ≡ list_item p c s k ∷ items_from (k + 1)
  unfolding gather
  items_at k l =
      let e : list_len p c s - k ≡ suc (list_len p c s - (k + 1)) = omega arith in
      ap (gather (λ j. list_item p c s j ∷ []) k) e ∙ ap (λ (j : ℕ). list_item p c s k ∷ gather (λ j. list_item p c s j ∷ []) j (list_len p c s - (k + 1))) (sym (add-one k))

  pub items_end : (k : ℕ) → list_len p c s ≤ k → items_from k ≡ []
  unfolding gather
  items_end k l = let e : list_len p c s - k ≡ 0 = omega arith in ap (gather (λ j. list_item p c s j ∷ []) k) e

  pub item_in : (k : ℕ) → k < list_len p c s → In (list_item p c s k) (items_of p c s)
  unfolding items_of
  item_in k l = in_gather (list_item p c s k) (λ j. list_item p c s j ∷ []) 0 k (list_len p c s) (omega arith) (omega arith) (in_self (list_item p c s k) [])
