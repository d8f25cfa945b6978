-- The search with no count of what may still be discovered: as many as there are values is enough, and so a visit unfolds.
-- Assumes nothing.
use mathlib.Core.Path.{◌≡◌, refl, ap, ◌∙◌}
use mathlib.Core.List.{List, [], ◌∷◌}
use Prim.Native.Nat.{ℕ, zero, suc, ◌+◌, ◌≤◌, ◌<◌, min}
use native.Mathlib.Omega.{arith}
use lib.Dec.{eqb}
use lib.ListN.{length}
use Rattle.laws.specs.Lists.{count, In}
use Rattle.laws.proofs.Members.{in_self}
use Rattle.components.specs.Found.{index}
use Rattle.components.specs.Walks.{Fits}
use Rattle.components.specs.Tarjan.{State, push, follow, follow_all, leave, strong_connect}
use Rattle.components.proofs.Indexes.{index_zero}
use Rattle.components.specs.Invariant.{Good}
use Rattle.components.proofs.Steps.{longer}
use Rattle.components.proofs.Visits.{Visits, pushed, space, follows_one, visits}

-- the end of a visit that started at s
abbrev pub finished : State → ℕ × State → ℕ × State
finished s r = leave s r (eqb r.0 (suc (length s.found)))

module _ (refs : ℕ → List ℕ) (n : ℕ) (fits : Fits refs n) where
  -- two visits that agree where f more, and g more, may be discovered
  abbrev Agree : ℕ → ℕ → (ℕ → State → ℕ × State) → (ℕ → State → ℕ × State) → Type 0
  Agree f g visit visit' = (x : ℕ) (s : State) → Good refs n s → x < n → count x s.found ≡ 0 → n ≤ f + length s.found → n ≤ g + length s.found → visit x s ≡ visit' x s

  same_one : (f g : ℕ) (visit visit' : ℕ → State → ℕ × State) → Agree f g visit visit' → (w : ℕ) (s : State) (m i : ℕ) → index w s.found ≡ i → Good refs n s → w < n → n ≤ f + length s.found → n ≤ g + length s.found → follow visit w s m i ≡ follow visit' w s m i
  unfolding follow
  same_one f g visit visit' a w s m zero e go l b b' = ap (λ (r : ℕ × State). (min m r.0, r.1)) (a w s go l (index_zero w s.found e) b b')
  same_one f g visit visit' a w s m (suc i) e go l b b' = refl

  same_all : (f g : ℕ) (visit visit' : ℕ → State → ℕ × State) → Visits refs n fits f visit → Agree f g visit visit' → (ws : List ℕ) (s : State) (m : ℕ) → ((w : ℕ) → In w ws → w < n) → Good refs n s → n ≤ f + length s.found → n ≤ g + length s.found → m ≤ length s.found → follow_all visit ws s m ≡ follow_all visit' ws s m
  unfolding follow_all
  same_all f g visit visit' ok a [] s m u go b b' h = refl
  same_all f g visit visit' ok a (w ∷ ws) s m u go b b' h =
      let i = index w s.found in
      let p = follows_one refs n fits f visit ok w s m i refl go (u w (in_self w ws)) b h in
      same_all f g visit visit' ok a ws (follow visit w s m i).1 (follow visit w s m i).0 (λ v k. u v (omega arith)) p.good (omega (arith, longer refs n p)) (omega (arith, longer refs n p)) (omega (arith, p.le, longer refs n p))
      ∙ ap (λ (r : ℕ × State). follow_all visit' ws r.1 r.0) (same_one f g visit visit' a w s m i refl go (u w (in_self w ws)) b b')

  same_visit : (f g : ℕ) → Agree f g (strong_connect refs f) (strong_connect refs g)
  unfolding strong_connect
  same_visit zero g x s go l z b b' = absurd (omega (arith, space refs n x s go l z))
  same_visit (suc f) zero x s go l z b b' = absurd (omega (arith, space refs n x s go l z))
  same_visit (suc f) (suc g) x s go l z b b' = ap (finished s) (same_all f g (strong_connect refs f) (strong_connect refs g) (visits refs n fits f) (same_visit f g) (refs x) (push x s) (suc (length s.found)) (fits x l) (pushed refs n x s go l z) (omega arith) (omega arith) (omega arith))

  step_at : (f : ℕ) → n ≤ suc f → (x : ℕ) (s : State) → Good refs n s → x < n → count x s.found ≡ 0
      → strong_connect refs (suc f) x s ≡ finished s (follow_all (strong_connect refs (suc f)) (refs x) (push x s) (suc (length s.found)))
  unfolding strong_connect
  step_at f e x s go l z = ap (finished s) (same_all f (suc f) (strong_connect refs f) (strong_connect refs (suc f)) (visits refs n fits f) (same_visit f (suc f)) (refs x) (push x s) (suc (length s.found)) (fits x l) (pushed refs n x s go l z) (omega arith) (omega arith) (omega arith))

  -- a visit is its references followed, and then its end
  pub unfolds : (x : ℕ) (s : State) → Good refs n s → x < n → count x s.found ≡ 0
      → strong_connect refs n x s ≡ finished s (follow_all (strong_connect refs n) (refs x) (push x s) (suc (length s.found)))
  unfolds x s go l z = at n refl
    where
      at : (k : ℕ) → n ≡ k → strong_connect refs k x s ≡ finished s (follow_all (strong_connect refs k) (refs x) (push x s) (suc (length s.found)))
      at zero e = absurd (omega arith)
      at (suc f) e = step_at f (omega arith) x s go l z
