-- The laws of the n values from k on.
--     below_in, below_lt   which values they are
--     below_at, below_end  one of them taken off, and none left
-- Assumes nothing.
use mathlib.Core.Path.{◌≡◌, sym, ap, ◌∙◌}
use mathlib.Core.Logic.{⊎_elim}
use mathlib.Core.List.{[], ◌∷◌}
use Prim.Native.Nat.{ℕ, zero, suc, ◌+◌, ◌-◌, ◌≤◌, ◌<◌}
use native.Mathlib.Numerals.{add-one}
use native.Mathlib.Omega.{arith}
use Rattle.laws.specs.Lists.{In}
use Rattle.laws.proofs.Choice.{by_eq}
use Rattle.laws.proofs.Lists.{in_cons}
use Rattle.laws.proofs.Members.{in_self, in_subst}
use Rattle.components.specs.Found.{below}

pub below_in : (n k w : ℕ) → k ≤ w → w < k + n → In w (below n k)
below_in zero k w h l = absurd (omega arith)
below_in (suc n) k w h l =
    by_eq w k
    (λ e. in_subst (below (suc n) k) (sym e) (in_self k (below n (suc k))))
    (λ e. omega (arith, below_in n (suc k) w (omega arith) (omega arith)))

pub below_lt : (n k w : ℕ) → In w (below n k) → w < k + n
below_lt zero k w h = absurd (omega arith)
below_lt (suc n) k w h = ⊎_elim (λ e. omega arith) (λ i. omega (arith, below_lt n (suc k) w i)) (in_cons w k (below n (suc k)) h)

pub below_at : (n i : ℕ) → i < n → below (n - i) i ≡ i ∷ below (n - (i + 1)) (i + 1)
below_at n i l =
    let e : n - i ≡ suc (n - (i + 1)) = omega arith in
    ap (λ k. below k i) e ∙ ap (λ k. i ∷ below (n - (i + 1)) k) (sym (add-one i))

pub below_end : (n i : ℕ) → n ≤ i → below (n - i) i ≡ []
below_end n i l = let e : n - i ≡ 0 = omega arith in ap (λ k. below k i) e
