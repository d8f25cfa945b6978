-- What is noted of a node is read back.
--     code_noted_lem, call_noted_lem, diverges_noted_lem, seen_noted
-- Before a root is checked no node is seen (nothing_seen), and all codes noted are known (nothing_known).
-- Assumes nothing.
use Prim.Native.Nat.{ℕ, ◌/◌, ◌%◌, ◌<◌, ◌≤◌}
use mathlib.Core.Path.{◌≡◌, refl, sym, ap, ◌∙◌}
use mathlib.Core.Bool.{Bool, true, false}
use native.Mathlib.Omega.{arith}
use lib.Dec.{eqb}
use lib.ListN.{replicate}
use Rattle.laws.specs.Lists.{bit}
use borrow.Author.Tests.{eq-eqb}
use Rattle.laws.specs.Bounded.{get}
use Rattle.laws.proofs.Choice.{fails}
use Rattle.unionfind.specs.Codes.{is_var, codes}
use Rattle.unionfind.specs.Cells.{Knows}
use Rattle.structure.proofs.Arrays.{zeros_get}
use Rattle.words.specs.Notes.{nodes, calls, note_of, code_noted, call_noted, diverges_noted, is_seen}

pub bit_small : (b : Bool) → bit b ≤ 1
bit_small true = omega arith
bit_small false = omega arith

module _ (d : Bool) (call x : ℕ) where
  pub code_noted_lem : x < codes → code_noted (note_of d call x) ≡ x
  unfolding code_noted note_of
  code_noted_lem h = omega arith

  pub call_noted_lem : call < calls → call_noted (note_of d call x) ≡ call
  unfolding call_noted note_of
  call_noted_lem h = omega (arith, bit_small d)

  bit_noted : note_of d call x / 524288 % 2 ≡ bit d
  unfolding note_of
  bit_noted = omega (arith, bit_small d)

  pub seen_noted : is_seen (note_of d call x) ≡ true
  unfolding is_seen note_of
  seen_noted = eq-eqb (note_of d call x / 1048576 % 2) 1 (omega (arith, bit_small d))

-- the test of a bit
bit_is : (b : Bool) → eqb (bit b) 1 ≡ b
bit_is true = refl
bit_is false = refl

pub diverges_noted_lem : (d : Bool) (call x : ℕ) → diverges_noted (note_of d call x) ≡ d
unfolding diverges_noted
diverges_noted_lem d call x = ap (λ (k : ℕ). eqb k 1) (bit_noted d call x) ∙ bit_is d

-- a note has 21 bits
pub note_small : (d : Bool) (call x : ℕ) → note_of d call x < 2097152
unfolding note_of
note_small d call x = omega (arith, bit_small d)

module _ (i : ℕ) where
  pub nothing_seen : is_seen (get nodes (replicate nodes 0) i) ≡ false
  unfolding is_seen
  nothing_seen = rw (zeros_get nodes i) refl

  pub nothing_known : (n : ℕ) → Knows n (code_noted (get nodes (replicate nodes 0) i))
  unfolding code_noted is_var
  nothing_known n = rw (zeros_get nodes i) (record { var = λ e. absurd (fails (sym e)) })
