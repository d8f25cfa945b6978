-- What the readers of a row's list say of the definitions.
-- Assumes nothing.
use mathlib.Core.Path.{◌≡◌, refl, sym}
use mathlib.Core.List.{List}
use Prim.Native.Nat.{ℕ, ◌<◌}
use native.Mathlib.Omega.{arith}
use Rattle.laws.proofs.Choice.{yes, no, by_test}
use Rattle.pack.specs.Rows.{type_row}
use Rattle.pack.specs.declared.rows.TypeRow.{TypeRow}
use Rattle.structure.specs.Structure.{numbered, number_of}
use Rattle.structure.proofs.Flat.{start_small}

module _ (p : List ℕ) (i : ℕ) {r : TypeRow} (e : r ≡ type_row p i) where
  pub row_small : r.b < 16384
  row_small = rw e (start_small p i)

-- ---- a row's number

pub number_small : (p : List ℕ) (i : ℕ) → (type_row p i).a < 16384
unfolding type_row
number_small p i = omega arith

pub number_of_small : (p : List ℕ) (i : ℕ) → number_of (type_row p i) < 16384
unfolding number_of
number_of_small p i =
    by_test (numbered (type_row p i).kind)
    (λ t. rw (sym (yes (numbered (type_row p i).kind) (type_row p i).a 0 t refl)) (number_small p i))
    (λ t. rw (sym (no (numbered (type_row p i).kind) (type_row p i).a 0 t refl)) (omega arith))
