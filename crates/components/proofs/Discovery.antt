-- Tarjan's search discovers what the plain depth-first walk discovers, in its order, and its components come as their first members finish.
-- Assumes nothing.
use mathlib.Core.Path.{◌≡◌, refl, sym, ap, subst, ◌∙◌}
use mathlib.Core.Bool.{Bool, true, false}
use mathlib.Core.List.{List, [], ◌∷◌, ◌++◌, Memᴰ}
use Prim.Native.Nat.{ℕ, zero, suc, ◌+◌, ◌-◌, ◌≤◌, ◌<◌}
use native.Mathlib.Omega.{arith}
use lib.Dec.{eqb}
use lib.ListN.{length, take}
use Rattle.laws.specs.Lists.{count, In}
use Rattle.laws.proofs.Members.{in_self}
use Rattle.components.specs.Found.{index, below, Part, none, skip, keep}
use Rattle.components.specs.Walks.{Fits}
use Rattle.components.specs.DepthFirst as plain
use Rattle.components.specs.DepthFirst.{Seen, meet, meet_all, finish, enter, depth_first}
use Rattle.components.specs.Tarjan.{State, start, push, follow, follow_all, leave, strong_connect, tarjan, last_of, first_members}
use Rattle.components.proofs.Below.{below_lt}
use Rattle.components.proofs.Indexes.{index_zero}
use Rattle.components.specs.Invariant.{Good}
use Rattle.components.proofs.Steps.{Step, good_start, longer}
use Rattle.components.proofs.Visits.{Visits, pushed, space, cut_off, stack_x, follows_one, follows, visits}
use Rattle.components.proofs.Search.{falling}

-- the search at s is where the plain walk is at t
pub record Same (s : State) (t : Seen) : Type 0 where
  pub found_is : s.found ≡ t.found
  pub as_finished : Part (first_members s.components) t.finished

last_snoc : (d x : ℕ) (xs : List ℕ) → last_of d (xs ++ (x ∷ [])) ≡ x
last_snoc d x [] = refl
last_snoc d x (y ∷ xs) = last_snoc y x xs

module _ (refs : ℕ → List ℕ) (n : ℕ) (fits : Fits refs n) where
  abbrev Agrees : ℕ → (ℕ → State → ℕ × State) → (ℕ → Seen → Seen) → Type 0
  Agrees f visit go = (x : ℕ) (s : State) (t : Seen) → Good refs n s → x < n → count x s.found ≡ 0 → n ≤ f + length s.found → Same s t → Same (visit x s).1 (go x t)

  agree_one : (f : ℕ) (visit : ℕ → State → ℕ × State) (go : ℕ → Seen → Seen) → Agrees f visit go → (w : ℕ) (s : State) (t : Seen) (m i : ℕ) → index w s.found ≡ i → Good refs n s → w < n → n ≤ f + length s.found → Same s t → Same (follow visit w s m i).1 (meet go w t i)
  unfolding follow meet
  agree_one f visit go ok w s t m zero e g l b a = ok w s t g l (index_zero w s.found e) b a
  agree_one f visit go ok w s t m (suc i) e g l b a = a

  agree : (f : ℕ) (visit : ℕ → State → ℕ × State) (go : ℕ → Seen → Seen) → Visits refs n fits f visit → Agrees f visit go → (ws : List ℕ) (s : State) (t : Seen) (m : ℕ) → ((w : ℕ) → In w ws → w < n) → Good refs n s → n ≤ f + length s.found → m ≤ length s.found → Same s t → Same (follow_all visit ws s m).1 (meet_all go ws t)
  unfolding follow_all meet_all
  agree f visit go ok same [] s t m u g b h a = a
  agree f visit go ok same (w ∷ ws) s t m u g b h a =
      let p = follows_one refs n fits f visit ok w s m (index w s.found) refl g (u w (in_self w ws)) b h in
      let q : Same (follow visit w s m (index w s.found)).1 (meet go w t (index w s.found)) = agree_one f visit go same w s t m (index w s.found) refl g (u w (in_self w ws)) b a in
      subst (λ (l : List ℕ). Same (follow_all visit ws (follow visit w s m (index w s.found)).1 (follow visit w s m (index w s.found)).0).1 (meet_all go ws (meet go w t (index w l)))) a.found_is
      (agree f visit go ok same ws (follow visit w s m (index w s.found)).1 (meet go w t (index w s.found)) (follow visit w s m (index w s.found)).0 (λ v i. u v (omega arith)) p.good (omega (arith, longer refs n p)) (omega (arith, p.le, longer refs n p)) q)

  -- x finishes
  agree_leave : {x : ℕ} {s : State} {t : Seen} (r : ℕ × State) → Good refs n s → count x s.found ≡ 0 → Step refs n (refs x) (suc (length s.found)) (push x s) r.0 r.1 → Same r.1 t → (b : Bool) → Same (leave s r b).1 (finish x t)
  unfolding leave
  agree_leave {x} {s} {t} r g z p a false = record { found_is = a.found_is; as_finished = skip x a.as_finished }
  agree_leave {x} {s} {t} r g z p a true =
      let e : last_of 0 (take (length r.1.stack - length s.stack) r.1.stack) ≡ x = ap (last_of 0) (cut_off refs n (p.seg ++ (x ∷ [])) s.stack r.1.stack (stack_x refs n g z p)) ∙ last_snoc 0 x p.seg in
      record { found_is = a.found_is; as_finished = subst (λ (y : ℕ). Part (y ∷ first_members r.1.components) (x ∷ t.finished)) (sym e) (keep x a.as_finished) }

  agree_visit : (f : ℕ) → Agrees f (strong_connect refs f) (enter refs f)
  unfolding strong_connect enter
  agree_visit zero x s t g l z b a = absurd (omega (arith, space refs n x s g l z))
  agree_visit (suc f) x s t g l z b a =
      let r = follow_all (strong_connect refs f) (refs x) (push x s) (suc (length s.found)) in
      let p = follows refs n fits f (strong_connect refs f) (visits refs n fits f) (refs x) (push x s) (suc (length s.found)) (fits x l) (pushed refs n x s g l z) (omega arith) (omega arith) in
      let q = agree f (strong_connect refs f) (enter refs f) (visits refs n fits f) (agree_visit f) (refs x) (push x s) (record { found = x ∷ t.found; finished = t.finished }) (suc (length s.found)) (fits x l) (pushed refs n x s g l z) (omega arith) (omega arith) (record { found_is = ap (λ (l : List ℕ). x ∷ l) a.found_is; as_finished = a.as_finished }) in
      agree_leave r g z p q (eqb r.0 (suc (length s.found)))

  pub same_walk : Same (tarjan refs n) (depth_first refs n)
  unfolding tarjan depth_first
  same_walk = agree n (strong_connect refs n) (enter refs n) (visits refs n fits n) (agree_visit n) (below n 0) start plain.nothing 0 (λ w h. omega (arith, below_lt n 0 w h)) (good_start refs n) (omega arith) (omega arith) (record { found_is = refl; as_finished = none })

  -- "members by falling discovery"
  pub by_falling_discovery : (c : List ℕ) → Memᴰ c (tarjan refs n).components → Part c (depth_first refs n).found
  by_falling_discovery c k = subst (λ (l : List ℕ). Part c l) same_walk.found_is (falling refs n fits c k)

  -- "components come as their first-discovered member finishes" (both lists have the last one first)
  pub as_first_finishes : Part (first_members (tarjan refs n).components) (depth_first refs n).finished
  as_first_finishes = same_walk.as_finished
