-- What the table of structures promises besides each function's contract, where each row refers only to smaller ones (so of every
-- well-formed pack):
--     equal_code, code_equal     two codes are equal exactly if the types are     (of TypeCodes)
--     table_code                 the code made from the table is the code of the row
--     code_held                  a side that holds a variable, seen from its code
--     quiet_code                 a row that holds none has no variable's code
-- Two results that meet one contract are equal: codes_one, helds_one, empties_one and, where each row refers only to smaller ones,
-- numbers_one. (Of other tables number_rows promises that it ends and is safe, the lengths, and what stands past the rows: the entries ask
-- it of well-formed packs alone.)
-- Assumes nothing.
use mathlib.Core.Path.{◌≡◌, sym, ◌∙◌}
use mathlib.Core.List.{List}
use mathlib.Core.Bool.{Bool}
use Prim.Native.Nat.{ℕ, ◌<◌}
use native.Mathlib.Omega.{arith}
use lib.Dec.{ltb}
use lib.Seq.{ext_get_or}
use borrow.Author.Tests.{ltb-true, ltb-false}
use Rattle.laws.proofs.Choice.{by_test}
use Rattle.pack.specs.declared.counts.Counts.{Counts}
use Rattle.structure.specs.Structure.{rows, PartsSmaller}
use Rattle.structure.specs.Table.{Clear, Numbers}
use Rattle.structure.specs.Types.{code_in, holds_var}

pub helds_one : (marks : List ℕ) (x : ℕ) (a b : Bool) → a ≡ holds_var marks x → b ≡ holds_var marks x → a ≡ b
helds_one marks x a b e f = e ∙ sym f

pub codes_one : (p : List ℕ) (c : Counts) (same : List ℕ) (i x y : ℕ) → x ≡ code_in p c same i → y ≡ code_in p c same i → x ≡ y
codes_one p c same i x y e f = e ∙ sym f

pub empties_one : {xs ys : List ℕ} → Clear xs → Clear ys → xs ≡ ys
empties_one {xs = xs} {ys = ys} e f = ext_get_or 0 xs ys (e.size ∙ sym f.size) (λ k h. e.zero k ∙ sym (f.zero k))

pub numbers_one : {p : List ℕ} {c : Counts} → PartsSmaller p c → {xs ms ys ns : List ℕ} → Numbers p c xs ms → Numbers p c ys ns → (xs ≡ ys) × (ms ≡ ns)
numbers_one {c = c} small {xs = xs} {ms = ms} {ys = ys} {ns = ns} e f = (
  ext_get_or 0 xs ys (e.size ∙ sym f.size)
      (λ k h.
      let r : k < rows = omega (arith, e.size) in
      by_test (ltb k c.types)
      (λ t. let l = ltb-true k c.types t in e.number small k l r ∙ sym (f.number small k l r))
      (λ t. let l = ltb-false k c.types t in e.rest k l ∙ sym (f.rest k l))),
  ext_get_or 0 ms ns (e.size_marks ∙ sym f.size_marks)
      (λ k h.
      let r : k < rows = omega (arith, e.size_marks) in
      by_test (ltb k c.types)
      (λ t. let l = ltb-true k c.types t in e.mark small k l r ∙ sym (f.mark small k l r))
      (λ t. let l = ltb-false k c.types t in e.rest_marks k l ∙ sym (f.rest_marks k l))),
)
