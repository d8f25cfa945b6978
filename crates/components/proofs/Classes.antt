-- What the finished components are.
--     classes       a component is a class of values that reach each other
--     later         where a has a walk to b, b has one to a or is listed before it
--     looped        which values have a walk to themselves
-- Assumes nothing.
use mathlib.Core.Path.{◌≡◌, refl, sym, ap, subst, ◌∙◌}
use mathlib.Core.Logic.{◌⊎◌, inl, inr, ⊎_elim, ◌↔◌}
use mathlib.Core.List.{List, [], ◌∷◌, ◌++◌, append_assoc, Memᴰ}
use Prim.Native.Nat.{ℕ, zero, suc, ◌≤◌}
use native.Mathlib.Omega.{arith}
use lib.ListN.{length, length-append}
use Rattle.laws.specs.Lists.{count, In}
use Rattle.laws.proofs.Choice.{by_eq}
use Rattle.laws.proofs.Lists.{count_append, count_same, in_append, in_one}
use Rattle.laws.proofs.Members.{in_self, in_subst}
use Rattle.components.specs.Walks.{Edge, Walk, one, more, Reach, Before}
use Rattle.components.specs.Tarjan.{flat, listing}
use Rattle.components.specs.Answers.{over, size_in}
use Rattle.components.specs.Invariant.{Emitted, nothing, also}
use Rattle.components.proofs.Walks.{walk_trans, first_edge, reach_walk}

pub count_listing : (y : ℕ) (cs : List (List ℕ)) → count y (listing cs) ≡ count y (flat cs)
count_listing y [] = refl
count_listing y (c ∷ cs) = omega (arith, count_listing y cs, count_append y (listing cs) c, count_append y c (flat cs))

pub length_listing : (cs : List (List ℕ)) → length (listing cs) ≡ length (flat cs)
length_listing [] = refl
length_listing (c ∷ cs) = omega (arith, length_listing cs, length-append (listing cs) c, length-append c (flat cs))

-- no value stands in two components, or twice in one
abbrev pub Once : List (List ℕ) → Type 0
Once cs = (y : ℕ) → count y (flat cs) ≤ 1

once_tail : (c : List ℕ) (cs : List (List ℕ)) → Once (c ∷ cs) → Once cs
once_tail c cs o y = omega (arith, o y, count_append y c (flat cs))

module _ (refs : ℕ → List ℕ) where
  -- no reference leads out of the finished components
  closed_edge : {cs : List (List ℕ)} → Emitted refs cs → (a b : ℕ) → In a (flat cs) → Edge refs a b → In b (flat cs)
  closed_edge nothing a b h e = absurd (omega arith)
  closed_edge (also {c} {cs} mutually inside em) a b h e =
      ⊎_elim
      (λ i. ⊎_elim (λ j. omega (arith, count_append b c (flat cs))) (λ j. omega (arith, count_append b c (flat cs))) (inside a b i e))
      (λ i. omega (arith, count_append b c (flat cs), closed_edge em a b i e))
      (in_append a c (flat cs) h)

  closed_walk : {cs : List (List ℕ)} → Emitted refs cs → {a b : ℕ} → In a (flat cs) → Walk refs a b → In b (flat cs)
  closed_walk em {a} {b} h (one e) = closed_edge em a b h e
  closed_walk em {a} {b} h (more {b = v} e w) = closed_walk em (closed_edge em a v h e) w

  closed_reach : {cs : List (List ℕ)} → Emitted refs cs → {a b : ℕ} → In a (flat cs) → Reach refs a b → In b (flat cs)
  closed_reach {cs} em h (inl e) = in_subst (flat cs) e h
  closed_reach em h (inr w) = closed_walk em h w

  mutual_in : {c : List ℕ} {cs : List (List ℕ)} → Emitted refs (c ∷ cs) → (a b : ℕ) → In a c → In b c → Reach refs a b
  mutual_in (also mutually inside em) = mutually

  earlier : {c : List ℕ} {cs : List (List ℕ)} → Emitted refs (c ∷ cs) → Emitted refs cs
  earlier (also mutually inside em) = em

  -- from a component one leads into it or into an earlier one
  lead : {c : List ℕ} {cs : List (List ℕ)} → Emitted refs (c ∷ cs) → (a b : ℕ) → In a c → Reach refs a b → In b c ⊎ In b (flat cs)
  lead {c} {cs} em a b h r = in_append b c (flat cs) (closed_reach em (omega (arith, count_append a c (flat cs))) r)

  same_class : {c : List ℕ} {cs : List (List ℕ)} → Emitted refs (c ∷ cs) → Once (c ∷ cs) → (a b : ℕ) → In a c → Reach refs a b → Reach refs b a → In b c
  same_class {c} {cs} em o a b h r q = ⊎_elim (λ i. i) (λ i. absurd (omega (arith, o a, count_append a c (flat cs), closed_reach (earlier em) i q))) (lead em a b h r)

  class_here : {c : List ℕ} {cs : List (List ℕ)} → Emitted refs (c ∷ cs) → Once (c ∷ cs) → (a b : ℕ) → In a c → In b c ↔ (Reach refs a b × Reach refs b a)
  class_here em o a b h = (λ k. (mutual_in em a b h k, mutual_in em b a k h), λ r. same_class em o a b h r.0 r.1)

  pub classes : (c : List ℕ) {cs : List (List ℕ)} → Memᴰ c cs → Emitted refs cs → Once cs → (a b : ℕ) → In a c → In b c ↔ (Reach refs a b × Reach refs b a)
  classes c (Memᴰ.head {x} {xs} e) em o a b h = subst (λ d. In b d ↔ (Reach refs a b × Reach refs b a)) (sym e) (class_here em o a b (subst (λ d. In a d) e h))
  classes c (Memᴰ.tail {x} {xs} k) em o a b h = classes c k (earlier em) (once_tail x xs o) a b h

  pub later : {cs : List (List ℕ)} → Emitted refs cs → (a b : ℕ) → In a (flat cs) → Walk refs a b → Walk refs b a ⊎ Before b a (listing cs)
  later nothing a b h w = absurd (omega arith)
  later (also {c} {cs} mutually inside em) a b h w =
      ⊎_elim
      (λ i. ⊎_elim (λ j. inl (back (mutually b a j i))) (λ j. inr (listing cs, c, refl, omega (arith, count_listing b cs), i)) (lead {c = c} {cs = cs} (also mutually inside em) a b i (inr w)))
      (λ i. ⊎_elim (λ k. inl k) (λ t. inr (t.0, t.1 ++ c, ap (λ l. l ++ c) t.2 ∙ append_assoc t.0 t.1 c, t.3, omega (arith, count_append a t.1 c, t.4))) (later em a b i w))
      (in_append a c (flat cs) h)
    where
      back : Reach refs b a → Walk refs b a
      back (inl e) = subst (λ v. Walk refs v a) (sym e) (subst (λ v. Walk refs a v) e w)
      back (inr v) = v

  -- ---- components of two or more

  two : (c : List ℕ) (u b : ℕ) → In u c → In b c → (b ≡ u → ⊥) → 2 ≤ length c
  two [] u b h k d = absurd (omega arith)
  two (x ∷ []) u b h k d = absurd (d (in_one b x k ∙ sym (in_one u x h)))
  two (x ∷ y ∷ c) u b h k d = omega arith

  other : (c : List ℕ) (u : ℕ) → count u c ≤ 1 → 2 ≤ length c → (b : ℕ) × In b c × (b ≡ u → ⊥)
  other [] u o l = absurd (omega arith)
  other (x ∷ []) u o l = absurd (omega arith)
  other (x ∷ y ∷ c) u o l =
      by_eq x u
      (λ e. (y, omega (arith, in_self y c), λ q. absurd (omega (arith, o, count_same u x (y ∷ c) (sym e), count_same u y c (sym q)))))
      (λ e. (x, in_self x (y ∷ c), e))

  size_in_lem : (u : ℕ) (c : List ℕ) (cs : List (List ℕ)) → In u c → size_in (c ∷ cs) u ≡ length c
  size_in_lem u c cs h = go (count u c) h
    where
      go : (k : ℕ) → 1 ≤ k → over k (length c) (size_in cs u) ≡ length c
      go zero h = absurd (omega arith)
      go (suc k) h = refl

  size_out : (u : ℕ) (c : List ℕ) (cs : List (List ℕ)) → count u c ≡ 0 → size_in (c ∷ cs) u ≡ size_in cs u
  size_out u c cs h = ap (λ k. over k (length c) (size_in cs u)) h

  pub looped : {cs : List (List ℕ)} → Emitted refs cs → Once cs → (u : ℕ) → In u (flat cs) → ¬ Edge refs u u → Walk refs u u → 2 ≤ size_in cs u
  looped nothing o u h s w = absurd (omega arith)
  looped (also {c} {cs} mutually inside em) o u h s w =
      let t = first_edge refs w in
      let d : (t.0 ≡ u → ⊥) = λ q. s (subst (λ v. Edge refs u v) q t.1) in
      ⊎_elim
      (λ i.
      ⊎_elim (λ j. omega (arith, size_in_lem u c cs i, two c u t.0 i j d))
      (λ j. absurd (omega (arith, o u, count_append u c (flat cs), closed_reach em j t.2)))
      (inside u t.0 i t.1))
      (λ i. omega (arith, looped em (once_tail c cs o) u i s w, size_out u c cs (omega (arith, o u, count_append u c (flat cs)))))
      (in_append u c (flat cs) h)

  pub loops : {cs : List (List ℕ)} → Emitted refs cs → Once cs → (u : ℕ) → 2 ≤ size_in cs u → Walk refs u u
  loops nothing o u h = absurd (omega arith)
  loops (also {c} {cs} mutually inside em) o u h = go (count u c) refl (loops em (once_tail c cs o) u)
    where
      go : (k : ℕ) → count u c ≡ k → (2 ≤ size_in cs u → Walk refs u u) → Walk refs u u
      go zero e before = before (omega (arith, size_out u c cs e))
      go (suc k) e before =
          let i : In u c = omega arith in
          let t = other c u (omega (arith, o u, count_append u c (flat cs))) (omega (arith, size_in_lem u c cs i)) in
          walk_trans refs (reach_walk refs (λ q. t.2 (sym q)) (mutually u t.0 i t.1)) (reach_walk refs t.2 (mutually t.0 u t.1 i))
