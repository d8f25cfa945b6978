-- The four cases of an answer, by the three searches.
-- Assumes nothing.
use Prim.Native.Nat.{ℕ, ◌≤◌, ◌<◌}
use mathlib.Core.Path.{◌≡◌, refl}
use mathlib.Core.List.{List}
use lib.Dec.{ltb}
use lib.ListN.{get_or}
use borrow.Author.Tests.{lt-ltb, le-ltb}
use Rattle.laws.specs.declared.fault.Fault.TheVariants.{ReferencesItself, OnLongerCycle, ReachesContext}
use Rattle.laws.specs.Choice.{pick}
use Rattle.laws.proofs.Choice.{yes, no}
use Rattle.components.specs.Answers.{Answer, listed, refused, first₅₀, first₅₁, first₅₂, order, answer}

module _ (kind : ℕ → ℕ) (refs : ℕ → List ℕ) (n : ℕ) where
  -- what follows where 50, and then 51, is not given
  abbrev pub after₅₁ : Answer
  after₅₁ = pick (ltb (first₅₂ kind refs n) n) (refused ReachesContext (first₅₂ kind refs n)) (listed (order kind refs n))

  abbrev pub after₅₀ : Answer
  after₅₀ = pick (ltb (first₅₁ kind refs n) n) (refused OnLongerCycle (get_or (order kind refs n) (first₅₁ kind refs n) 0)) after₅₁

  pub is₅₀ : first₅₀ kind refs n < n → refused ReferencesItself (first₅₀ kind refs n) ≡ answer kind refs n
  unfolding answer
  is₅₀ l = yes _ _ after₅₀ (lt-ltb (first₅₀ kind refs n) n l) refl

  module _ (past₅₀ : n ≤ first₅₀ kind refs n) where
    pub is₅₁ : first₅₁ kind refs n < n → refused OnLongerCycle (get_or (order kind refs n) (first₅₁ kind refs n) 0) ≡ answer kind refs n
    unfolding answer
    is₅₁ l = no _ _ after₅₀ (le-ltb (first₅₀ kind refs n) n past₅₀) (yes _ _ after₅₁ (lt-ltb (first₅₁ kind refs n) n l) refl)

    module _ (past₅₁ : n ≤ first₅₁ kind refs n) where
      pub is₅₂ : first₅₂ kind refs n < n → refused ReachesContext (first₅₂ kind refs n) ≡ answer kind refs n
      unfolding answer
      is₅₂ l = no _ _ after₅₀ (le-ltb (first₅₀ kind refs n) n past₅₀) (no _ _ after₅₁ (le-ltb (first₅₁ kind refs n) n past₅₁) (yes _ _ (listed (order kind refs n)) (lt-ltb (first₅₂ kind refs n) n l) refl))

      pub is_listed : n ≤ first₅₂ kind refs n → listed (order kind refs n) ≡ answer kind refs n
      unfolding answer
      is_listed l = no _ _ after₅₀ (le-ltb (first₅₀ kind refs n) n past₅₀) (no _ _ after₅₁ (le-ltb (first₅₁ kind refs n) n past₅₁) (no _ _ (listed (order kind refs n)) (le-ltb (first₅₂ kind refs n) n l) refl))
