use Prim.Native.Nat.{ℕ, zero, suc, ◌-◌}
use mathlib.Core.Path.{◌≡◌, refl}
use Rattle.pack.specs.Named.{optional}
use Rattle.trees.specs.Notes.{Notes, note_one, note_all}
use native.Mathlib.Omega.{arith}
use Rattle.trees.proofs.notes.Notes.note_optional.Goals as goal

-- what is stored is 0, or one more than a child
none : (x place : ℕ) (s : Notes) → x ≡ 0 → s ≡ note_all (optional x) place s
unfolding note_all
none zero place s e = refl
none (suc x) place s e = absurd (omega arith)

some : {r : Notes} (x place : ℕ) (s : Notes) → (x ≡ 0 → ⊥) → r ≡ note_one (x - 1) place s → r ≡ note_all (optional x) place s
unfolding note_all
some zero place s n e = absurd (n refl)
some (suc x) place s n e = let h : suc x - 1 ≡ x = omega arith in rw h at e

pub returns-then-stored-ne0-clause-noted : goal.returns-then-stored-ne0-clause-noted
returns-then-stored-ne0-clause-noted c = some _ _ _ c.if-stored-ne0.true c.note.ensures.noted

pub returns-else-stored-ne0-clause-noted : goal.returns-else-stored-ne0-clause-noted
returns-else-stored-ne0-clause-noted c = none _ _ _ c.if-stored-ne0.false
