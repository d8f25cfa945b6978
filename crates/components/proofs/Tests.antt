-- What the tests of an answer say.
-- Assumes nothing.
use mathlib.Core.Path.{◌≡◌, refl, sym, ap, ◌∙◌}
use mathlib.Core.Logic.{◌⊎◌, inl, inr, ⊎_elim}
use mathlib.Core.Bool.{Bool, true, false, not, ◌&&◌, ◌||◌}
use mathlib.Core.List.{List, [], ◌∷◌}
use Prim.Native.Nat.{ℕ}
use native.Mathlib.Omega.{arith}
use borrow.Author.Tests.{le-leb, leb-true}
use Rattle.laws.specs.Lists.{count, In}
use Rattle.laws.proofs.Choice.{fails}
use Rattle.laws.proofs.Lists.{in_cons}
use Rattle.laws.proofs.Members.{in_self}
use Rattle.components.specs.Answers.{has, any}

-- a place that is passed does not meet both tests; one that is not meets both
pub passed : (a b : Bool) → not (a && b) ≡ true → a ≡ true → b ≡ true → ⊥
passed true true e p q = fails (sym e)
passed true false e p q = fails (sym q)
passed false b e p q = fails (sym p)

pub failed : (a b : Bool) → not (a && b) ≡ false → (a ≡ true) × (b ≡ true)
failed true true e = (refl, refl)
failed true false e = absurd (fails e)
failed false b e = absurd (fails e)

pub in_has : (y : ℕ) (xs : List ℕ) → In y xs → has y xs ≡ true
in_has y xs h = le-leb 1 (count y xs) h

pub has_in : (y : ℕ) (xs : List ℕ) → has y xs ≡ true → In y xs
has_in y xs t = leb-true 1 (count y xs) t

or_left : (a b : Bool) → a ≡ true → (a || b) ≡ true
or_left true b e = refl
or_left false b e = absurd (fails (sym e))

or_right : (a b : Bool) → b ≡ true → (a || b) ≡ true
or_right true b e = refl
or_right false b e = e

or_either : (a b : Bool) → (a || b) ≡ true → (a ≡ true) ⊎ (b ≡ true)
or_either true b e = inl refl
or_either false b e = inr e

module _ (test : ℕ → Bool) where
  pub some_any : (xs : List ℕ) (a : ℕ) → In a xs → test a ≡ true → any test xs ≡ true
  unfolding any
  some_any [] a h t = absurd (omega arith)
  some_any (x ∷ xs) a h t = ⊎_elim (λ e. or_left (test x) (any test xs) (ap test (sym e) ∙ t)) (λ i. or_right (test x) (any test xs) (some_any xs a i t)) (in_cons a x xs h)

  pub any_some : (xs : List ℕ) → any test xs ≡ true → (a : ℕ) × In a xs × (test a ≡ true)
  unfolding any
  any_some [] e = absurd (fails (sym e))
  any_some (x ∷ xs) e = ⊎_elim (λ t. (x, in_self x xs, t)) (λ t. let r = any_some xs t in (r.0, omega (arith, r.1), r.2)) (or_either (test x) (any test xs) e)
