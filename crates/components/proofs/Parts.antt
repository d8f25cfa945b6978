-- The laws of a part of a list.
-- Assumes nothing.
use mathlib.Core.Path.{◌≡◌, refl, sym, ap, subst, ◌∙◌}
use mathlib.Core.Logic.{◌⊎◌, inl, inr, ⊎_elim}
use mathlib.Core.List.{List, [], ◌∷◌, ◌++◌}
use Prim.Native.Nat.{ℕ, ◌≤◌}
use native.Mathlib.Omega.{arith}
use Rattle.laws.specs.Lists.{count, In}
use Rattle.laws.proofs.Lists.{count_same, in_cons}
use Rattle.laws.proofs.Members.{in_self}
use Rattle.components.specs.Found.{Part, none, skip, keep}

pub part_none : (ys : List ℕ) → Part [] ys
part_none [] = none
part_none (y ∷ ys) = skip y (part_none ys)

-- more is put before the whole
pub part_more : {xs ys : List ℕ} (more : List ℕ) → Part xs ys → Part xs (more ++ ys)
part_more [] p = p
part_more (y ∷ more) p = skip y (part_more more p)

-- the first ones of a part, and those after them
pub part_front : {zs ys : List ℕ} → Part zs ys → (front rest : List ℕ) → zs ≡ front ++ rest → Part front ys
part_front none [] rest e = none
part_front none (x ∷ front) rest e = let z : ◌≡◌ {A = ℕ} 0 1 = cc in absurd (omega arith)
part_front (skip y p) front rest e = skip y (part_front p front rest e)
part_front (keep {xs} {ys} y p) [] rest e = part_none (y ∷ ys)
part_front (keep {xs} {ys} y p) (x ∷ front) rest e =
    let h : y ≡ x = cc in
    let t : xs ≡ front ++ rest = cc in
    subst (λ (z : ℕ). Part (z ∷ front) (y ∷ ys)) h (keep y (part_front p front rest t))

pub part_rest : {zs ys : List ℕ} → Part zs ys → (front rest : List ℕ) → zs ≡ front ++ rest → Part rest ys
part_rest none [] rest e = subst (λ (z : List ℕ). Part z []) e none
part_rest none (x ∷ front) rest e = let z : ◌≡◌ {A = ℕ} 0 1 = cc in absurd (omega arith)
part_rest (skip y p) front rest e = skip y (part_rest p front rest e)
part_rest (keep {xs} {ys} y p) [] rest e = subst (λ (z : List ℕ). Part z (y ∷ ys)) e (keep y p)
part_rest (keep {xs} {ys} y p) (x ∷ front) rest e =
    let t : xs ≡ front ++ rest = cc in
    skip y (part_rest p front rest t)

-- ---- two parts of one list

-- what a part of a list is, by the list's first member
by_first : {xs zs : List ℕ} {z : ℕ} → Part xs (z ∷ zs) → Part xs zs ⊎ ((ws : List ℕ) × (xs ≡ z ∷ ws) × Part ws zs)
by_first (skip y p) = inl p
by_first (keep {xs} y p) = inr (xs, refl, p)

nil_part : {xs : List ℕ} → Part xs [] → xs ≡ []
nil_part none = refl

pub part_count : {xs zs : List ℕ} → Part xs zs → (y : ℕ) → count y xs ≤ count y zs
part_count none y = omega arith
part_count (skip x p) y = omega (arith, part_count p y)
part_count (keep x p) y = omega (arith, part_count p y)

-- where no member stands twice, a part is known by its members
pub same_part : (zs : List ℕ) → ((y : ℕ) → count y zs ≤ 1) → {xs ys : List ℕ} → Part xs zs → Part ys zs → ((y : ℕ) → In y xs → In y ys) → ((y : ℕ) → In y ys → In y xs) → xs ≡ ys
same_part [] o p q f g = nil_part p ∙ sym (nil_part q)
same_part (z ∷ zs) o {xs} {ys} p q f g = go (by_first p) (by_first q)
    (λ us vs a b h k. same_part zs (λ y. omega (arith, o y)) a b h k)
  where
    -- z is a member of the one and not of the other
    apart : {us vs : List ℕ} → us ≡ z ∷ vs → {ws : List ℕ} → Part ws zs → (In z us → In z ws) → ⊥
    apart {us} {vs} e b h = omega (arith, o z, count_same z z zs refl, part_count b z, h (rw e (in_self z vs)))

    go : Part xs zs ⊎ ((ws : List ℕ) × (xs ≡ z ∷ ws) × Part ws zs) → Part ys zs ⊎ ((ws : List ℕ) × (ys ≡ z ∷ ws) × Part ws zs)
        → ((us vs : List ℕ) → Part us zs → Part vs zs → ((y : ℕ) → In y us → In y vs) → ((y : ℕ) → In y vs → In y us) → us ≡ vs) → xs ≡ ys
    go (inl a) (inl b) rec = rec xs ys a b f g
    go (inl a) (inr b) rec = absurd (apart {us = ys} {vs = b.0} b.1 a (g z))
    go (inr a) (inl b) rec = absurd (apart {us = xs} {vs = a.0} a.1 b (f z))
    go (inr a) (inr b) rec = a.1 ∙ ap (λ (l : List ℕ). z ∷ l) (rec a.0 b.0 a.2 b.2 (λ y i. rest a.2 a.1 b.1 f y i) (λ y i. rest b.2 b.1 a.1 g y i)) ∙ sym b.1
      where
        rest : {us vs ss ts : List ℕ} → Part us zs → ss ≡ z ∷ us → ts ≡ z ∷ vs → ((y : ℕ) → In y ss → In y ts) → (y : ℕ) → In y us → In y vs
        rest {us} {vs} {ss} {ts} a e d h y i =
            let k : In y (z ∷ vs) = subst (λ (l : List ℕ). In y l) d (h y (rw e (omega arith))) in
            ⊎_elim (λ q. absurd (omega (arith, o y, count_same y z zs q, part_count a y))) (λ j. j) (in_cons y z vs k)
