-- The laws of chains: from each cell there is one, it is the trail, and it is no longer than the array.
--     one_chain       two chains from one cell are the same list
--     along           induction along a chain, with one cell apart
--     frame           a store into a cell that is not passed leaves the chain
--     is_trail        the chain is the trail
--     trail_bound     it has at most as many cells as there are
--     Linked, Ended   trail, what is found and the compressed cells, of a cell that links on and of one that does not
-- Assumes nothing.
use mathlib.Core.Path.{◌≡◌, refl, sym, ap, ◌∙◌}
use mathlib.Core.List.{List, [], ◌∷◌}
use mathlib.Core.Bool.{Bool, true, false}
use Prim.Native.Nat.{ℕ, zero, suc, ◌+◌, ◌<◌, ◌≤◌}
use native.Mathlib.Nat.{not-suc-le-zero, le_of_suc-le-suc}
use native.Mathlib.Omega.{arith}
use lib.ListN.{length, get_or, set}
use lib.Seq.{get_or-set_other, set-get_or}
use borrow.Author.Tests.{eq-eqb, ne_eqb}
use Rattle.laws.specs.Choice.{pick}
use Rattle.laws.proofs.Choice.{by_eq, fails}
use Rattle.unionfind.specs.Codes.{number, is_var}
use Rattle.unionfind.specs.Cells.{capacity, is_link, trail_in, trail, last_of, found, compressed, among, Chain, stop, step, LoopFree}

pub not_both : {b : Bool} → b ≡ false → b ≡ true → ⊥
not_both p q = fails (sym q ∙ p)

-- one chain from each cell
pub one_chain : {xs : List ℕ} {v : ℕ} {s t : List ℕ} → Chain xs v s → Chain xs v t → s ≡ t
one_chain (stop h e) (stop h' e') = refl
one_chain (stop h e) (step h' e' c) = absurd (not_both e e')
one_chain (step h e c) (stop h' e') = absurd (not_both e' e)
one_chain (step {v = v} h e c) (step h' e' c') = ap (λ (t : List ℕ). v ∷ t) (one_chain c c')

-- with enough steps it is the trail
trail_in_lem : {xs : List ℕ} {v : ℕ} {t : List ℕ} (f : ℕ) → Chain xs v t → length t ≤ f → trail_in f xs v ≡ t
unfolding trail_in pick
trail_in_lem zero (stop h e) l = absurd (not-suc-le-zero l)
trail_in_lem zero (step h e c) l = absurd (not-suc-le-zero l)
trail_in_lem (suc f) (stop h e) l = rw e
trail_in_lem {xs = xs} {v = v} (suc f) (step h e c) l = rw (e, trail_in_lem {v = number (get_or xs v 0)} f c (le_of_suc-le-suc l))

-- the first cell is among those passed
pub head_among : {xs : List ℕ} {v : ℕ} {t : List ℕ} → Chain xs v t → among v t ≡ true
head_among (stop {v = v} h e) = rw (eq-eqb v v refl)
head_among (step {v = v} h e c) = rw (eq-eqb v v refl)

-- Induction along a chain, with the cell v apart: what holds of every chain from v on, and goes from each other cell back to the one before.
pub along : {xs : List ℕ} (v : ℕ) (P : ℕ → List ℕ → Type 0)
    → ((t : List ℕ) → Chain xs v t → P v t)
    → ((u : ℕ) → (u ≡ v → ⊥) → u < capacity → is_link u (get_or xs u 0) ≡ false → P u (u ∷ []))
    → ((u : ℕ) (t : List ℕ) → (u ≡ v → ⊥) → u < capacity → is_link u (get_or xs u 0) ≡ true → Chain xs (number (get_or xs u 0)) t → P (number (get_or xs u 0)) t → P u (u ∷ t))
    → {u : ℕ} {t : List ℕ} → Chain xs u t → P u t
along {xs = xs} v P here last on (stop {v = u} h e) =
    by_eq u v (λ q. let c : Chain xs u (u ∷ []) = stop h e in rw q (here (v ∷ []) (rw q at c))) (λ n. last u n h e)
along {xs = xs} v P here last on (step {v = u} {t = t} h e c) = go (along v P here last on c)
  where
    go : P (number (get_or xs u 0)) t → P u (u ∷ t)
    go r = by_eq u v (λ q. let d : Chain xs u (u ∷ t) = step h e c in rw q (here (v ∷ t) (rw q at d))) (λ n. on u t n h e c r)

-- a store into a cell that is not passed leaves the chain
pub frame : {xs : List ℕ} {w : ℕ} {t : List ℕ} (v x : ℕ) → Chain xs w t → among v t ≡ false → Chain (set xs v x) w t
frame {xs = xs} v x = along v (λ u t. among v t ≡ false → Chain (set xs v x) u t)
    (λ t c m. absurd (not_both m (head_among c)))
    (λ u n h e m. stop h (rw (get_or-set_other xs v u x 0 n) e))
    (λ u t n h e c r m. step {t = t} h (rw (get_or-set_other xs v u x 0 n) e) (rw (get_or-set_other xs v u x 0 n) (r (rw (ne_eqb u v n) at m))))

-- the chain from a cell that is passed on is a part of it
suffix : {xs : List ℕ} {w : ℕ} {t : List ℕ} (v : ℕ) → Chain xs w t → among v t ≡ true → (s : List ℕ) × Chain xs v s × (length s ≤ length t)
suffix {xs = xs} v = along v (λ u t. among v t ≡ true → (s : List ℕ) × Chain xs v s × (length s ≤ length t))
    (λ t c m. (t, c, omega arith))
    (λ u n h e m. absurd (not_both refl (rw (ne_eqb u v n) at m)))
    (λ u t n h e c r m. let s = r (rw (ne_eqb u v n) at m) in (s.0, s.1, omega arith))

-- ---- a chain has at most one cell more than there are links, and its last cell is none

one : Bool → ℕ
one true = 1
one false = 0

one_le : (b : Bool) → one b ≤ 1
unfolding one
one_le true = omega arith
one_le false = omega arith

-- how many of xs are links, the first at index i
links : ℕ → List ℕ → ℕ
links i [] = 0
links i (x ∷ xs) = one (is_link i x) + links (suc i) xs

links_le : (i : ℕ) (xs : List ℕ) → links i xs ≤ length xs
unfolding links
links_le i [] = omega arith
links_le i (x ∷ xs) = omega (arith, one_le (is_link i x), links_le (suc i) xs)

-- a cell that is no link is one link fewer
links_lt : (i j v : ℕ) (xs : List ℕ) → v + i ≡ j → v < length xs → is_link j (get_or xs v 0) ≡ false → links i xs < length xs
unfolding links one
links_lt i j v [] p l e = absurd (not-suc-le-zero l)
links_lt i j zero (x ∷ xs) p l e =
    let q : j ≡ i = omega arith in
    let e' : is_link i x ≡ false = rw q at e in
    rw e' (omega (arith, links_le (suc i) xs))
links_lt i j (suc v) (x ∷ xs) p l e = omega (arith, one_le (is_link i x), links_lt (suc i) j v xs (omega arith) (omega arith) e)

links_set : (i j v : ℕ) (xs : List ℕ) → v + i ≡ j → is_link j (get_or xs v 0) ≡ true → suc (links i (set xs v 0)) ≡ links i xs
unfolding links one is_link is_var
links_set i j v [] p e = absurd (not_both refl e)
links_set i j zero (x ∷ xs) p e =
    let q : j ≡ i = omega arith in
    let e' : is_link i x ≡ true = rw q at e in
    rw e' (omega arith)
links_set i j (suc v) (x ∷ xs) p e = omega (arith, links_set (suc i) j v xs (omega arith) e)

links_bound : {xs : List ℕ} {v : ℕ} {t : List ℕ} (f : ℕ) → Chain xs v t → length t ≤ f → length t ≤ suc (links 0 xs)
links_bound zero (stop h e) l = absurd (not-suc-le-zero l)
links_bound zero (step h e c) l = absurd (not-suc-le-zero l)
links_bound (suc f) (stop h e) l = omega arith
links_bound {xs = xs} (suc f) (step {v = v} {t = t} h e c) l = go (among v t) refl (λ d. links_bound {xs = set xs v 0} f d (le_of_suc-le-suc l))
  where
    go : (b : Bool) → among v t ≡ b → (Chain (set xs v 0) (number (get_or xs v 0)) t → length t ≤ suc (links 0 (set xs v 0))) → suc (length t) ≤ suc (links 0 xs)
    go true p ih =
        let s = suffix v c p in
        let same : length s.0 ≡ suc (length t) = ap length (one_chain s.1 (step h e c)) in
        omega arith
    go false p ih = omega (arith, ih (frame v 0 c p), links_set 0 v v xs (omega arith) e)

-- the last cell of a chain
stops : {xs : List ℕ} {v : ℕ} {t : List ℕ} → Chain xs v t → (z : ℕ) × (z < capacity) × (is_link z (get_or xs z 0) ≡ false)
stops (stop {v = v} h e) = (v, h, e)
stops (step h e c) = stops c

-- a chain passes no cell twice
pub chain_bound : {xs : List ℕ} {v : ℕ} {t : List ℕ} → length xs ≡ capacity → Chain xs v t → length t ≤ length xs
chain_bound {xs = xs} {t = t} m c =
    let z = stops c in
    omega (arith, links_bound (length t) c (omega arith), links_lt 0 z.0 z.0 xs (omega arith) (omega (arith, z.1)) z.2)

pub is_trail : {xs : List ℕ} {v : ℕ} {t : List ℕ} → length xs ≡ capacity → Chain xs v t → trail xs v ≡ t
unfolding trail
is_trail {xs = xs} m c = trail_in_lem (length xs) c (chain_bound m c)

-- ---- the trail, what is found and the compressed cells, a step at a time

pub chain_below : {xs : List ℕ} {v : ℕ} {t : List ℕ} → Chain xs v t → v < capacity
chain_below (stop h e) = h
chain_below (step h e c) = h

last_any : {xs : List ℕ} {v : ℕ} {t : List ℕ} (a b : ℕ) → Chain xs v t → last_of a t ≡ last_of b t
last_any a b (stop h e) = refl
last_any a b (step h e c) = refl

pub record Linked (xs : List ℕ) (v w : ℕ) : Type 0 where
  pub below : w < capacity
  pub trails : trail xs v ≡ v ∷ trail xs w
  pub finds : found xs v ≡ found xs w
  pub stores : compressed xs v ≡ set (compressed xs w) v (found xs w)

pub record Ended (xs : List ℕ) (v : ℕ) : Type 0 where
  pub trails : trail xs v ≡ v ∷ []
  pub finds : found xs v ≡ get_or xs v 0
  pub stores : compressed xs v ≡ xs

module _ {xs : List ℕ} (m : length xs ≡ capacity) where
  pub linked : {v : ℕ} {t : List ℕ} → v < capacity → is_link v (get_or xs v 0) ≡ true → Chain xs (number (get_or xs v 0)) t → Linked xs v (number (get_or xs v 0))
  unfolding found compressed
  linked {v = v} {t = t} h e c =
      let w : ℕ = number (get_or xs v 0) in
      let here : trail xs v ≡ v ∷ t = is_trail m (step h e c) in
      let there : trail xs w ≡ t = is_trail m c in
      let finds : found xs v ≡ found xs w = rw (here, there, last_any v w c) in
      record {
        below = chain_below c;
        trails = cc;
        finds = finds;
        stores = rw (finds, here, there);
      }

  pub ended : {v : ℕ} → v < capacity → is_link v (get_or xs v 0) ≡ false → Ended xs v
  unfolding found compressed
  ended {v = v} h e =
      let here : trail xs v ≡ v ∷ [] = is_trail m (stop h e) in
      let finds : found xs v ≡ get_or xs v 0 = rw here in
      record {
        trails = here;
        finds = finds;
        stores = rw (finds, here, set-get_or xs v 0);
      }

module _ {xs : List ℕ} (s : LoopFree xs) (v : ℕ) (h : v < capacity) where
  -- the bound on a chain's length
  pub trail_bound : length (trail xs v) ≤ capacity
  trail_bound = let c = (s.ends v h).1 in rw (is_trail s.size c) (omega (arith, chain_bound s.size c, s.size))

  -- a step from a test of the cell
  pub link_step : is_link v (get_or xs v 0) ≡ true → Linked xs v (number (get_or xs v 0))
  link_step e = go (s.ends v h).0 (s.ends v h).1 e
    where
      go : (t : List ℕ) → Chain xs v t → is_link v (get_or xs v 0) ≡ true → Linked xs v (number (get_or xs v 0))
      go t (stop h e) e' = absurd (not_both e e')
      go t (step h e c) e' = linked s.size h e c

  pub end_step : is_link v (get_or xs v 0) ≡ false → Ended xs v
  end_step e = ended s.size h e
