-- A step of each walk along a chain: what the code's test of the cell says, and what follows from the walk from the next cell on.
-- Assumes nothing.
use mathlib.Core.Path.{◌≡◌, sym, ◌∙◌}
use mathlib.Core.List.{List}
use mathlib.Core.Bool.{Bool, true, false}
use Prim.Native.Nat.{ℕ, ◌<◌}
use native.Mathlib.Omega.{arith}
use lib.ListN.{length, get_or, set}
use borrow.Author.Tests.{ne_eqb}
use Rattle.unionfind.specs.Codes.{number}
use Rattle.unionfind.specs.Cells.{capacity, is_link, trail, found, compressed, among, LoopFree}
use Rattle.unionfind.specs.Answers.{Finds}
use Rattle.unionfind.proofs.Chains.{head_among, is_trail, link_step, end_step}
use Rattle.unionfind.proofs.Stores.{compressed_kept}

-- b is the code's test of the cell v, and w the number of what it holds
module _ {xs : List ℕ} (s : LoopFree xs) (v : ℕ) (h : v < capacity) (b : Bool) (p : b ≡ is_link v (get_or xs v 0)) {w : ℕ} (q : w ≡ number (get_or xs v 0)) where
  pub onward : {t : ℕ} → length (trail xs v) ≡ t → b ≡ true → (length (trail xs w) < t) × ((w < capacity) × LoopFree xs)
  onward m t =
      let l = link_step s v h (sym p ∙ t) in
      (rw (← m, q, l.trails) (omega arith), (rw q l.below, s))

  pub found_on : {r : ℕ} → b ≡ true → r ≡ found xs w → r ≡ found xs v
  found_on t e = rw q at e ∙ sym (link_step s v h (sym p ∙ t)).finds

  pub finds_on : {r : ℕ} {ys : List ℕ} → b ≡ true → Finds xs w r ys → Finds xs v r (set ys v r)
  finds_on {r = r} {ys = ys} t f =
      let l = link_step s v h (sym p ∙ t) in
      let e : set ys v r ≡ compressed xs v = rw (f.cells, f.answer, l.stores, q) in
      record { answer = found_on t f.answer; cells = e; kept = rw e (compressed_kept s v h) }

  -- u, the cell asked for, is not v
  pub passes_on : {r : Bool} (u : ℕ) → (v ≡ u → ⊥) → b ≡ true → r ≡ among u (trail xs w) → r ≡ among u (trail xs v)
  passes_on u n t e = rw ((link_step s v h (sym p ∙ t)).trails, ne_eqb v u n, ← q) e

module _ {xs : List ℕ} (s : LoopFree xs) (v : ℕ) (h : v < capacity) (b : Bool) (p : b ≡ is_link v (get_or xs v 0)) where
  pub found_here : b ≡ false → get_or xs v 0 ≡ found xs v
  found_here f = sym (end_step s v h (sym p ∙ f)).finds

  pub finds_here : b ≡ false → Finds xs v (get_or xs v 0) xs
  finds_here f =
      let l = end_step s v h (sym p ∙ f) in
      record { answer = found_here f; cells = sym l.stores; kept = rw l.stores at (compressed_kept s v h) }

  pub passes_not : (u : ℕ) → (v ≡ u → ⊥) → b ≡ false → false ≡ among u (trail xs v)
  passes_not u n f = rw ((end_step s v h (sym p ∙ f)).trails, ne_eqb v u n)

pub passes_self : {xs : List ℕ} → LoopFree xs → (v w : ℕ) → v < capacity → v ≡ w → true ≡ among w (trail xs v)
passes_self s v w h p = rw (is_trail s.size (s.ends v h).1, ← p) (sym (head_among (s.ends v h).1))
