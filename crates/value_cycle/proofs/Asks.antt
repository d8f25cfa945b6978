-- The steps of a loop that looks for a number w among the items of a list.
--     AskItems     its invariant: what is left says what the whole says
--     found        the number is met
--     passes       another is passed
--     over         nothing is left
-- Assumes nothing.
use Prim.Native.Nat.{ℕ, ◌+◌, ◌≤◌, ◌<◌}
use mathlib.Core.Path.{◌≡◌, sym, ap, ◌∙◌}
use mathlib.Core.Bool.{true, false}
use mathlib.Core.List.{List, ◌∷◌}
use native.Mathlib.Omega.{arith}
use Rattle.pack.specs.Lists.{list_len, list_item}
use Rattle.pack.specs.Named.{items_of}
use Rattle.pack.specs.declared.counts.Counts.{Counts}
use Rattle.components.specs.Answers.{has}
use Rattle.tarjan.proofs.Asks.{has_first, has_rest}
use Rattle.tarjan.proofs.Items.{items_from, items_start, items_at, items_end}

pub record AskItems (p : List ℕ) (c : Counts) (s w n k : ℕ) : Type 0 where
  pub long : n ≡ list_len p c s
  pub says : has w (items_from p c s k) ≡ has w (items_of p c s)

pub items_all : (p : List ℕ) (c : Counts) (s w : ℕ) {n : ℕ} → n ≡ list_len p c s → AskItems p c s w n 0
items_all p c s w e = record { long = e; says = ap (has w) (sym (items_start p c s)) }

module _ {p : List ℕ} {c : Counts} {s w n k : ℕ} (inv : AskItems p c s w n k) where
  item : k < n → items_from p c s k ≡ list_item p c s k ∷ items_from p c s (k + 1)
  item l = items_at p c s k (omega (arith, inv.long))

  pub item_found : {x : ℕ} → k < n → x ≡ list_item p c s k → x ≡ w → true ≡ has w (items_of p c s)
  item_found l e q = sym (has_first w (list_item p c s k) (items_from p c s (k + 1)) (sym e ∙ q)) ∙ ap (has w) (sym (item l)) ∙ inv.says

  pub item_passes : {x : ℕ} → k < n → x ≡ list_item p c s k → (x ≡ w → ⊥) → AskItems p c s w n (k + 1)
  item_passes l e q = record { long = inv.long; says = has_rest w (list_item p c s k) (items_from p c s (k + 1)) (λ j. q (e ∙ j)) ∙ ap (has w) (sym (item l)) ∙ inv.says }

  pub items_over : n ≤ k → false ≡ has w (items_of p c s)
  items_over l = ap (has w) (sym (items_end p c s k (omega (arith, inv.long)))) ∙ inv.says
