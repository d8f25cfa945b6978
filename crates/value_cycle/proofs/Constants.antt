-- What a test of the code says of a test "is a constant and .." in a definition.
-- Assumes nothing.
use Prim.Native.Nat.{ℕ}
use mathlib.Core.Path.{◌≡◌, refl, sym, ap, ◌∙◌}
use mathlib.Core.Bool.{Bool, true, false, not, ◌&&◌}
use lib.Dec.{eqb}
use Rattle.laws.proofs.Told.{eq}

-- k, the kind that was read of a value whose kind is z, is that of a constant: the other test decides
pub constant_and : {k z : ℕ} {r b : Bool} → k ≡ z → k ≡ 0 → r ≡ b → r ≡ (eqb z 0 && b)
constant_and {b = b} e h q = q ∙ ap (λ (t : Bool). t && b) (sym (eq e refl h))

-- r is what a test answered: where it held, the place is the fault that is looked for; where it did not, the place is right
module _ {r b : Bool} (e : r ≡ b) where
  pub held : r ≡ true → not b ≡ false
  held t = ap not (sym e ∙ t)

  pub passed_by : r ≡ false → not b ≡ true
  passed_by f = ap not (sym e ∙ f)
