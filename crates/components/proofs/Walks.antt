-- Walks put together.
-- Assumes nothing.
use mathlib.Core.Path.{◌≡◌, refl, sym, subst}
use mathlib.Core.Logic.{inl, inr}
use mathlib.Core.List.{List}
use Prim.Native.Nat.{ℕ}
use Rattle.components.specs.Walks.{Edge, Walk, one, more, Reach}

module _ (refs : ℕ → List ℕ) where
  pub walk_trans : {a b c : ℕ} → Walk refs a b → Walk refs b c → Walk refs a c
  walk_trans (one e) w = more e w
  walk_trans (more e v) w = more e (walk_trans v w)

  pub walk_reach : {a b c : ℕ} → Walk refs a b → Reach refs b c → Walk refs a c
  walk_reach {a} v (inl e) = subst (λ x. Walk refs a x) e v
  walk_reach v (inr w) = walk_trans v w

  pub reach_trans : {a b c : ℕ} → Reach refs a b → Reach refs b c → Reach refs a c
  reach_trans {a} {b} {c} (inl e) r = subst (λ x. Reach refs x c) (sym e) r
  reach_trans (inr v) r = inr (walk_reach v r)

  pub edge_reach : {a b c : ℕ} → Edge refs a b → Reach refs b c → Reach refs a c
  edge_reach e r = reach_trans (inr (one e)) r

  -- a walk's first reference
  pub first_edge : {a c : ℕ} → Walk refs a c → (b : ℕ) × Edge refs a b × Reach refs b c
  first_edge {a} {c} (one e) = (c, e, inl refl)
  first_edge (more {b = b} e w) = (b, e, inr w)

  -- to another value
  pub reach_walk : {a b : ℕ} → (a ≡ b → ⊥) → Reach refs a b → Walk refs a b
  reach_walk d (inl e) = absurd (d e)
  reach_walk d (inr w) = w
