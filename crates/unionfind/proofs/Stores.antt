-- What a store into one cell does to the chains, and what compression keeps.
--     loopfree_store    where the chain from the stored cell ends, every chain does
--     store_end         a store of what links nowhere
--     store_link        a store of a link whose chain does not pass the cell
--     found_after       what is found after a store
--     compressed_kept   compression changes what no variable resolves to
--     found_unset       what is found, where it is a variable's code, is that of an unset variable
--     found_stored      what is found from the cell after a store of what is resolved
--     sets_keep         what resolved to the same thing still does, after an unset variable is set
-- Assumes nothing.
use mathlib.Core.Path.{◌≡◌, refl, sym, ap, ◌∙◌}
use mathlib.Core.List.{List, [], ◌∷◌}
use mathlib.Core.Bool.{true, false, not, and-false, or-true}
use Prim.Native.Nat.{ℕ, ◌<◌}
use native.Mathlib.Omega.{arith}
use lib.ListN.{length, get_or, set, length-set}
use lib.Seq.{get_or-set_same, get_or-set_other}
use lib.Dec.{eqb}
use borrow.Author.Tests.{eq-eqb, ne_eqb, not-false, not-true, eqb-true, eqb-false}
use Rattle.laws.specs.Choice.{pick}
use Rattle.laws.proofs.Choice.{yes, no, by_test, and_both}
use Rattle.unionfind.specs.Codes.{number, is_var}
use Rattle.unionfind.specs.Cells.{capacity, is_link, trail, found, set_all, compressed, among, Chain, stop, step, LoopFree, Kept}
use Rattle.unionfind.proofs.Chains.{not_both, along, head_among, frame, is_trail, linked, ended, link_step}

-- ---- links

-- a link is a variable's code, and names another cell
pub link_is_var : (v x : ℕ) → is_link v x ≡ true → is_var x ≡ true
unfolding is_link
link_is_var v x e = (and_both (is_var x) (not (eqb (number x) v)) e).0

pub not_own : (v x : ℕ) → is_link v x ≡ true → number x ≡ v → ⊥
unfolding is_link
not_own v x e = eqb-false (number x) v (not-true (eqb (number x) v) (and_both (is_var x) (not (eqb (number x) v)) e).1)

pub no_var_no_link : (v x : ℕ) → is_var x ≡ false → is_link v x ≡ false
unfolding is_link
no_var_no_link v x e = rw e

-- a variable's code in the cell that it names is no link
pub own_no_link : (v x : ℕ) → number x ≡ v → is_link v x ≡ false
unfolding is_link
own_no_link v x e = rw (eq-eqb (number x) v e) (and-false (is_var x))

-- and a variable's code that is no link names the cell
pub own_name : (z x : ℕ) → is_var x ≡ true → is_link z x ≡ false → number x ≡ z
unfolding is_link
own_name z x p q = eqb-true (number x) z (not-false (eqb (number x) z) (rw p at q))

-- ---- a store into one cell

-- the cell found from v on: it is no link, and holds what is found
pub record Last (xs : List ℕ) (v z : ℕ) : Type 0 where
  pub below : z < capacity
  pub holds : get_or xs z 0 ≡ found xs v
  pub ends : is_link z (get_or xs z 0) ≡ false

pub last_end : {xs : List ℕ} {v : ℕ} {t : List ℕ} → length xs ≡ capacity → Chain xs v t → (z : ℕ) × Last xs v z
last_end m (stop {v = v} h e) = (v, record { below = h; holds = sym (ended m h e).finds; ends = e })
last_end m (step h e c) =
    let r = last_end m c in
    (r.0, record { below = r.1.below; holds = r.1.holds ∙ sym (linked m h e c).finds; ends = r.1.ends })

-- where the chain from v on ends after a store into v, every chain does
pub loopfree_store : {xs : List ℕ} → LoopFree xs → (v x : ℕ) → (s : List ℕ) × Chain (set xs v x) v s → LoopFree (set xs v x)
loopfree_store {xs = xs} s v x k = record {
  size = length-set xs v x ∙ s.size;
  ends = λ u h. along v (λ u t. (s : List ℕ) × Chain (set xs v x) u s) (λ t c. k)
      (λ u n h e. ((u ∷ []), stop h (rw (get_or-set_other xs v u x 0 n) e)))
      (λ u t n h e c r. ((u ∷ r.0), step {t = r.0} h (rw (get_or-set_other xs v u x 0 n) e) (rw (get_or-set_other xs v u x 0 n) r.1)))
      (s.ends u h).1;
}

-- a store of what links nowhere
pub store_end : {xs : List ℕ} → LoopFree xs → (v x : ℕ) → v < capacity → is_link v x ≡ false → LoopFree (set xs v x)
store_end {xs = xs} s v x h e =
    let same : get_or (set xs v x) v 0 ≡ x = get_or-set_same xs v x 0 (omega (arith, s.size)) in
    loopfree_store s v x ((v ∷ []), stop h (rw same e))

-- a store of a link whose chain does not pass the cell
pub store_link : {xs : List ℕ} → LoopFree xs → (v x : ℕ) → v < capacity → number x < capacity → is_link v x ≡ true → among v (trail xs (number x)) ≡ false → LoopFree (set xs v x)
store_link {xs = xs} s v x h l e p =
    let same : get_or (set xs v x) v 0 ≡ x = get_or-set_same xs v x 0 (omega (arith, s.size)) in
    let k = s.ends (number x) l in
    let c : Chain (set xs v x) (number x) k.0 = frame v x k.1 (rw (is_trail s.size k.1) at p) in
    loopfree_store s v x ((v ∷ k.0), step {t = k.0} h (rw same e) (rw same c))

-- a cell other than v after a store into v
module _ (xs : List ℕ) (v x : ℕ) (m : length xs ≡ capacity) (s : LoopFree (set xs v x)) {u : ℕ} (n : u ≡ v → ⊥) (h : u < capacity) where
  found_last : is_link u (get_or xs u 0) ≡ false → found (set xs v x) u ≡ found xs u
  found_last e =
      let same : get_or (set xs v x) u 0 ≡ get_or xs u 0 = get_or-set_other xs v u x 0 n in
      (ended {xs = set xs v x} s.size h (rw same e)).finds ∙ same ∙ sym (ended m h e).finds

  found_next : is_link u (get_or xs u 0) ≡ true → found (set xs v x) u ≡ found (set xs v x) (number (get_or xs u 0))
  found_next e =
      let same : get_or (set xs v x) u 0 ≡ get_or xs u 0 = get_or-set_other xs v u x 0 n in
      rw same at (link_step s u h (rw same e)).finds

-- what is found after a store: from a cell whose chain passes v, what is found from v; from any other, what was found before
pub found_along : {xs : List ℕ} {u : ℕ} {t : List ℕ} (v x : ℕ) → length xs ≡ capacity → LoopFree (set xs v x) → Chain xs u t
    → found (set xs v x) u ≡ pick (among v t) (found (set xs v x) v) (found xs u)
unfolding pick
found_along {xs = xs} v x m s = along {xs = xs} v (λ u t. found (set xs v x) u ≡ pick (among v t) (found (set xs v x) v) (found xs u))
    (λ t c. rw (head_among c))
    (λ u n h e. rw (ne_eqb u v n) (found_last xs v x m s n h e))
    (λ u t n h e c r. rw (ne_eqb u v n, (linked m h e c).finds) (found_next xs v x m s n h e ∙ r))

pub found_after : {xs : List ℕ} → LoopFree xs → (v x : ℕ) → LoopFree (set xs v x) → (u : ℕ) → u < capacity
    → found (set xs v x) u ≡ pick (among v (trail xs u)) (found (set xs v x) v) (found xs u)
found_after s v x s' u h = rw (is_trail s.size (s.ends u h).1) (found_along v x s.size s' (s.ends u h).1)

-- ---- compression: a cell set to what is found from it

shortcut : {xs : List ℕ} → LoopFree xs → (v : ℕ) → v < capacity
    → (s : List ℕ) × Chain (set xs v (found xs v)) v s × (found (set xs v (found xs v)) v ≡ found xs v)
shortcut {xs = xs} s v h = by_test (is_link v (found xs v)) on here
  where
    ys : List ℕ
    ys = set xs v (found xs v)

    m : length ys ≡ capacity
    m = length-set xs v (found xs v) ∙ s.size

    same : get_or ys v 0 ≡ found xs v
    same = get_or-set_same xs v (found xs v) 0 (omega (arith, s.size))

    z : (z : ℕ) × Last xs v z
    z = last_end s.size (s.ends v h).1

    here : is_link v (found xs v) ≡ false → (t : List ℕ) × Chain ys v t × (found ys v ≡ found xs v)
    here e = let e' : is_link v (get_or ys v 0) ≡ false = rw same e in ((v ∷ []), stop h e', (ended m h e').finds ∙ same)

    on : is_link v (found xs v) ≡ true → (t : List ℕ) × Chain ys v t × (found ys v ≡ found xs v)
    on e =
        let e' : is_link v (get_or ys v 0) ≡ true = rw same e in
        let ez : is_link z.0 (found xs v) ≡ false = rw z.1.holds at z.1.ends in
        let to : number (get_or ys v 0) ≡ z.0 = ap number same ∙ own_name z.0 (found xs v) (link_is_var v (found xs v) e) ez in
        let apart : z.0 ≡ v → ⊥ = λ p. not_both (rw p at ez) e in
        let samez : get_or ys z.0 0 ≡ found xs v = get_or-set_other xs v z.0 (found xs v) 0 apart ∙ z.1.holds in
        let endz : is_link z.0 (get_or ys z.0 0) ≡ false = rw samez ez in
        let c : Chain ys (number (get_or ys v 0)) (z.0 ∷ []) = rw to (stop z.1.below endz) in
        ((v ∷ z.0 ∷ []), step {t = z.0 ∷ []} h e' c, (linked m h e' c).finds ∙ ap (found ys) to ∙ (ended m z.1.below endz).finds ∙ samez)

-- to set a cell to what is found from it changes no answer
kept_one : {xs : List ℕ} → LoopFree xs → (v : ℕ) → v < capacity → Kept xs (set xs v (found xs v))
kept_one {xs = xs} s v h =
    let k = shortcut s v h in
    let s' : LoopFree (set xs v (found xs v)) = loopfree_store s v (found xs v) (k.0, k.1) in
    record {
      loopfree = s';
      same = λ u l. along v (λ u t. found (set xs v (found xs v)) u ≡ found xs u) (λ t c. k.2) (λ u n h e. found_last xs v (found xs v) s.size s' n h e)
          (λ u t n h e c r. found_next xs v (found xs v) s.size s' n h e ∙ r ∙ sym (linked s.size h e c).finds)
          (s.ends u l).1;
    }

kept_all : {xs : List ℕ} {v : ℕ} {t : List ℕ} → LoopFree xs → Chain xs v t → Kept xs (set_all xs t (found xs v))
kept_all s (stop {v = v} h e) = kept_one s v h
kept_all {xs = xs} s (step {v = v} {t = t} h e c) =
    let rest : Kept xs (set_all xs t (found xs v)) = rw (linked s.size h e c).finds (kept_all s c) in
    let one : Kept (set_all xs t (found xs v)) (set (set_all xs t (found xs v)) v (found (set_all xs t (found xs v)) v)) = kept_one rest.loopfree v h in
    let one' : Kept (set_all xs t (found xs v)) (set (set_all xs t (found xs v)) v (found xs v)) = rw (rest.same v h) at one in
    record { loopfree = one'.loopfree; same = λ u l. one'.same u l ∙ rest.same u l }

pub compressed_kept : {xs : List ℕ} → LoopFree xs → (v : ℕ) → v < capacity → Kept xs (compressed xs v)
unfolding compressed
compressed_kept {xs = xs} s v h = rw (is_trail s.size (s.ends v h).1) (kept_all s (s.ends v h).1)

-- ---- what is found, where it is a variable's code, is that of an unset variable

-- the cell that x names holds x, and links nowhere
pub record Unset (xs : List ℕ) (x : ℕ) : Type 0 where
  pub below : number x < capacity
  pub holds : get_or xs (number x) 0 ≡ x
  pub alone : trail xs (number x) ≡ number x ∷ []

pub found_unset : {xs : List ℕ} → LoopFree xs → (v : ℕ) → v < capacity → is_var (found xs v) ≡ true → Unset xs (found xs v)
found_unset {xs = xs} s v h p =
    let z = last_end s.size (s.ends v h).1 in
    let e : is_link z.0 (found xs v) ≡ false = rw z.1.holds at z.1.ends in
    let n : number (found xs v) ≡ z.0 = own_name z.0 (found xs v) p e in
    record { below = rw n z.1.below; holds = rw n z.1.holds; alone = rw n (ended s.size z.1.below z.1.ends).trails }

unset_end : (xs : List ℕ) (x : ℕ) → Unset xs x → is_link (number x) (get_or xs (number x) 0) ≡ false
unset_end xs x u = rw u.holds (own_no_link (number x) x refl)

-- what is found from the cell, after a store of what is resolved
pub found_stored : {xs : List ℕ} → LoopFree xs → (v x : ℕ) → v < capacity → LoopFree (set xs v x) → (is_var x ≡ true → Unset xs x) → found (set xs v x) v ≡ x
found_stored {xs = xs} s v x h s' u = by_test (is_link v x) on here
  where
    same : get_or (set xs v x) v 0 ≡ x
    same = get_or-set_same xs v x 0 (omega (arith, s.size))

    here : is_link v x ≡ false → found (set xs v x) v ≡ x
    here e = (ended {xs = set xs v x} s'.size h (rw same e)).finds ∙ same

    on : is_link v x ≡ true → found (set xs v x) v ≡ x
    on e =
        let k = u (link_is_var v x e) in
        let next : found (set xs v x) v ≡ found (set xs v x) (number x) = rw same at (link_step s' v h (rw same e)).finds in
        next ∙ found_last xs v x s.size s' (not_own v x e) k.below (unset_end xs x k) ∙ (ended s.size k.below (unset_end xs x k)).finds ∙ k.holds

-- the unset variable found is on the chain
pub end_among : {xs : List ℕ} → LoopFree xs → (v : ℕ) → v < capacity → is_var (found xs v) ≡ true → among (number (found xs v)) (trail xs v) ≡ true
end_among {xs = xs} s v h p = rw (is_trail s.size (s.ends v h).1) (go (s.ends v h).1 p)
  where
    go : {v : ℕ} {t : List ℕ} → Chain xs v t → is_var (found xs v) ≡ true → among (number (found xs v)) t ≡ true
    go (stop {v = v} h e) p =
        let f : found xs v ≡ get_or xs v 0 = (ended s.size h e).finds in
        rw (own_name v (found xs v) p (rw f e), eq-eqb v v refl)
    go (step {v = v} {t = t} h e c) p =
        let f : found xs v ≡ found xs (number (get_or xs v 0)) = (linked s.size h e c).finds in
        let r : among (number (found xs v)) t ≡ true = rw f (go c (rw f at p)) in
        rw r (or-true (eqb v (number (found xs v))))

-- ---- what resolved to the same thing still does

-- a chain that passes an unset variable ends there
pub ends_there : {xs : List ℕ} → LoopFree xs → (v u : ℕ) → is_link v (get_or xs v 0) ≡ false → u < capacity → among v (trail xs u) ≡ true → found xs u ≡ get_or xs v 0
ends_there {xs = xs} s v u e h a =
    along v (λ u t. among v t ≡ true → found xs u ≡ get_or xs v 0)
    (λ t c m. here t c)
    (λ u n h f m. absurd (not_both refl (rw (ne_eqb u v n) at m)))
    (λ u t n h f c r m. (linked s.size h f c).finds ∙ r (rw (ne_eqb u v n) at m))
    (s.ends u h).1
    (rw (is_trail s.size (s.ends u h).1) at a)
  where
    here : (t : List ℕ) → Chain xs v t → found xs v ≡ get_or xs v 0
    here t (stop h e) = (ended s.size h e).finds
    here t (step h e' c) = absurd (not_both e e')

-- v is unset: it maps to itself
pub record IsUnset (xs : List ℕ) (v : ℕ) : Type 0 where
  pub var : is_var (get_or xs v 0) ≡ true
  pub own : number (get_or xs v 0) ≡ v

-- whether a chain passes an unset variable is seen from what is found
passes_by : {xs : List ℕ} → LoopFree xs → (v : ℕ) → IsUnset xs v → (u w : ℕ) → u < capacity → w < capacity
    → found xs u ≡ found xs w → among v (trail xs u) ≡ true → among v (trail xs w) ≡ true
passes_by {xs = xs} s v z u w h k e a =
    let f : found xs w ≡ get_or xs v 0 = sym e ∙ ends_there s v u (own_no_link v (get_or xs v 0) z.own) h a in
    let n : number (found xs w) ≡ v = ap number f ∙ z.own in
    rw n at (end_among s w k (rw f z.var))

-- Two variables that resolve to the same still do after an unset one is set. (Of one that is set already this is not so: the set may part
-- it from what it was linked to.)
pub sets_keep : {xs : List ℕ} → LoopFree xs → (v x : ℕ) → LoopFree (set xs v x) → IsUnset xs v → (u w : ℕ) → u < capacity → w < capacity
    → found xs u ≡ found xs w → found (set xs v x) u ≡ found (set xs v x) w
sets_keep {xs = xs} s v x s' z u w h k e =
    by_test (among v (trail xs u))
    (λ a. found_after s v x s' u h ∙ sym (yes _ _ _ a refl) ∙ yes _ _ _ (passes_by s v z u w h k e a) refl ∙ sym (found_after s v x s' w k))
    (λ a.
    by_test (among v (trail xs w))
    (λ b. absurd (not_both a (passes_by s v z w u k h (sym e) b)))
    (λ b. found_after s v x s' u h ∙ sym (no _ _ _ a refl) ∙ e ∙ no _ _ _ b refl ∙ sym (found_after s v x s' w k)))
