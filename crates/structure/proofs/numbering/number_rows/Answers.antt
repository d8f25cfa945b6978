use Prim.Native.Nat.{ℕ, ◌+◌, ◌≤◌, ◌<◌}
use mathlib.Core.Path.{◌≡◌}
use Rattle.structure.proofs.Arrays.{clear}
use Rattle.structure.proofs.Chaining.{links_agree}
use Rattle.structure.proofs.Building.{fit_rows, built_none, built_more, numbers}
use native.Mathlib.Omega.{arith}
use Rattle.structure.proofs.numbering.number_rows.Goals as goal

module _ {i n : ℕ} (h : i < n) where
  below : {k : ℕ} → n ≤ k → i < k
  below l = omega arith

  up : i + 1 ≤ n
  up = omega arith

last : {i n : ℕ} → i ≤ n → n ≤ i → i ≡ n
last h l = omega arith

-- ---- the loop
pub loop-i-init : goal.loop-i-init
loop-i-init c = (
  omega arith,
  built_none _ _ c.empty-lists.ensures.0 c.empty-lists.ensures.1 c.empty-lists.ensures.2 c.empty-lists.ensures.3 (rw c.empty-keys.ensures.0 clear) c.empty-table.ensures.0 c.empty-table.ensures.1 c.read.ensures.0,
  c.empty-lists.ensures.4,
  c.empty-keys.ensures.1,
  c.read.ensures.1,
)

pub note-requires : goal.note-requires
note-requires c = (below c.loop-i-test.true c.rows_of-n.ensures.room, c.code_at.ensures.small, c.loop-i.invariant.1.read.size, links_agree c.loop-i.invariant.4 (λ k h. c.loop-i.invariant.1.read.word k h))

pub loop-i-preserved : goal.loop-i-preserved
loop-i-preserved c = (
  up c.loop-i-test.true,
  built_more _ _ c.loop-i.invariant.1 (below c.loop-i-test.true c.rows_of-n.ensures.low) (below c.loop-i-test.true c.rows_of-n.ensures.room) (fit_rows _ _ c.all_fit-fit.ensures c.loop-i-test.true) c.loop-i.invariant.2 c.keep-l.ensures.0 c.keep_row.ensures c.note.ensures.0 c.code_at.ensures.same,
  c.keep-l.ensures.1,
  c.keep_row.ensures.chained,
  rw (c.note.ensures.1, c.note.ensures.2) c.loop-i.invariant.4,
)

pub returns : goal.returns
returns c = let e = last c.loop-i.invariant.0 c.loop-i-test.false in numbers _ _ (rw e at c.loop-i.invariant.1) c.rows_of-n.ensures.low c.rows_of-n.ensures.all
