-- The loop that looks for a number w on the stack.
--     AskStack     its invariant: what is left says what the whole says
-- Assumes nothing.
use Prim.Native.Nat.{ℕ}
use mathlib.Core.Path.{◌≡◌, sym, ap}
use mathlib.Core.Bool.{true}
use mathlib.Core.List.{List, ◌∷◌}
use lib.Dec.{leb}
use lib.ListN.{length, drop}
use Rattle.laws.proofs.Lists.{count_other}
use Rattle.laws.proofs.Members.{in_self, in_subst}
use Rattle.components.specs.Answers.{has}
use Rattle.components.proofs.Tests.{in_has}
use Rattle.tarjan.specs.Values.{capacity}

-- the first of a list is w, or it is not
pub has_first : (w x : ℕ) (rest : List ℕ) → x ≡ w → has w (x ∷ rest) ≡ true
has_first w x rest q = in_has w (x ∷ rest) (in_subst (x ∷ rest) q (in_self x rest))

pub has_rest : (w x : ℕ) (rest : List ℕ) → (x ≡ w → ⊥) → has w rest ≡ has w (x ∷ rest)
has_rest w x rest q = ap (leb 1) (sym (count_other w x rest (λ k. q (sym k))))

pub record AskStack (stack : List ℕ) (top w i : ℕ) : Type 0 where
  pub long : length stack ≡ capacity
  pub says : has w (drop i stack) ≡ has w (drop top stack)
