-- The table of structures marks each type row that has a variable's code, where each row refers only to smaller ones (so of every
-- well-formed pack).
--     table_marked     what the root is given for its rules
-- Assumes nothing.
use mathlib.Core.Path.{◌≡◌, refl, sym, ◌∙◌}
use mathlib.Core.List.{List}
use mathlib.Core.Bool.{false}
use Prim.Native.Nat.{ℕ, ◌<◌, ◌≤◌}
use native.Mathlib.Omega.{arith}
use lib.Dec.{ltb}
use borrow.Author.Tests.{le-ltb}
use Rattle.laws.proofs.Choice.{no}
use Rattle.laws.proofs.Bounded.{by_bound}
use Rattle.pack.specs.declared.counts.Counts.{Counts}
use Rattle.unionfind.proofs.States.{knows_other}
use Rattle.structure.specs.Structure.{rows, PartsSmaller, holds}
use Rattle.structure.specs.Table.{Numbers}
use Rattle.structure.specs.Types.{code_in, code_of}
use Rattle.structure.proofs.TypeCodes.{table_code, quiet_code}
use Rattle.members.specs.Marks.{is_marked}
use Rattle.members.proofs.Promises.{marked_holds}
use Rattle.slots.proofs.Codes.{code_small}
use Rattle.expr.specs.Ready.{Coded, Marked}
use Rattle.expr.proofs.Coding.{never_coded}

module _ {p : List ℕ} {c : Counts} {same marks : List ℕ} (table : Numbers p c same marks) (small : PartsSmaller p c) (room : c.types ≤ rows) where
  -- a row
  row_coded : (i : ℕ) → i < c.types → is_marked marks i ≡ false → (n : ℕ) → Coded n (code_in p c same i)
  row_coded i a f n =
      let r : i < rows = omega arith in
      let q : holds p c i ≡ false = sym (marked_holds p c same marks table small i a r) ∙ f in
      record { small = code_small p c same i; known = rw (table_code p c small table i a r) (knows_other n (code_of p c i) (quiet_code p c small i a r q)) }

  -- past the rows
  past_coded : (i : ℕ) → c.types ≤ i → (n : ℕ) → Coded n (code_in p c same i)
  unfolding code_in
  past_coded i a n = rw (← no (ltb i c.types) _ _ (le-ltb i c.types a) refl) (never_coded n)

  pub table_marked : Marked p c same marks
  table_marked = record { each = λ i f n. by_bound c.types same i (λ a. row_coded i a f n) (λ a. past_coded i a n) }
