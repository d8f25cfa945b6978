-- The answer of the one-pass search is what the account of walks says, on every table.
-- Assumes nothing.
use mathlib.Core.Path.{◌≡◌, refl, sym, ap, subst, ◌∙◌}
use mathlib.Core.Logic.{◌⊎◌, inl, inr, ⊎_elim, ◌↔◌}
use mathlib.Core.Bool.{true, false, not}
use mathlib.Core.List.{List}
use Prim.Native.Nat.{ℕ, ◌≤◌, ◌<◌}
use native.Mathlib.Omega.{arith}
use lib.Dec.{leb}
use lib.ListN.{length, get_or}
use borrow.Author.Tests.{eq-eqb, eqb-true, le-leb, leb-true}
use Rattle.laws.specs.declared.fault.Fault.{Fault}
use Rattle.laws.specs.declared.fault.Fault.TheVariants.{ReferencesItself, OnLongerCycle, ReachesContext}
use Rattle.laws.proofs.First.{Until, until_is}
use Rattle.laws.proofs.Members.{in_at, at_in, by_le}
use Rattle.components.specs.Account.{Uses, Lists, Orderable, Refuses, is₅₀, is₅₁, is₅₂, Says}
use Rattle.components.specs.Answers.{listed, refused, has, any, size_in, constant, context, lists_itself, is_looped, uses_context, first₅₀, first₅₁, first₅₂, found, order, answer}
use Rattle.components.specs.DepthFirst.{reached}
use Rattle.components.specs.Tarjan.{tarjan}
use Rattle.components.specs.Walks.{Edge, Walk, one, Fits}
use Rattle.components.proofs.Cases as cases
use Rattle.components.proofs.Cases.{is_listed}
use Rattle.components.proofs.Discovery.{by_falling_discovery, as_first_finishes}
use Rattle.components.proofs.Rooms.{full}
use Rattle.components.proofs.Reached.{reached_walk, walk_reached}
use Rattle.components.proofs.Search.{run, listed_once, listed_only, listed_length, are_classes, comes_first, size_walk, walk_size}
use Rattle.components.proofs.Tests.{passed, failed, in_has, has_in, some_any, any_some}

module _ (kind : ℕ → ℕ) (refs : ℕ → List ℕ) (n : ℕ) (fits : Fits refs n) where
  abbrev xs : List ℕ
  xs = order kind refs n

  pub lists_order : Lists kind refs n xs
  unfolding found
  lists_order = record {
    once = listed_once refs n fits;
    only = listed_only refs n fits;
    first = comes_first refs n fits;
    components = (tarjan refs n).components;
    joined = refl;
    some = (run refs n fits).good.each_some;
    classes = are_classes refs n fits;
    falling = by_falling_discovery refs n fits;
    finishing = as_first_finishes refs n fits;
  }

  -- what stands at a place of the listing is a value
  pub at_value : (d : ℕ) → d < n → get_or xs d 0 < n
  unfolding found
  at_value d l = listed_only refs n fits (get_or xs d 0) (in_at xs d (omega (arith, listed_length refs n fits)))

  -- and each value stands at one
  place_of : (u : ℕ) → u < n → (e : ℕ) × (e < n) × (get_or xs e 0 ≡ u)
  unfolding found
  place_of u l = let r = at_in xs u (omega (arith, listed_once refs n fits u l)) in (r.0, omega (arith, r.1, listed_length refs n fits), r.2)

  -- ---- what each of the three searches says

  self_edge : (v : ℕ) → not (lists_itself kind refs n v) ≡ false → (kind v ≡ 0) × Edge refs v v
  self_edge v f = let t = failed (constant kind refs n v) (has v (refs v)) f in (eqb-true (kind v) 0 t.0, has_in v (refs v) t.1)

  no_self : (v : ℕ) → not (lists_itself kind refs n v) ≡ true → kind v ≡ 0 → ¬ Edge refs v v
  no_self v t z e = passed (constant kind refs n v) (has v (refs v)) t (eq-eqb (kind v) 0 z) (in_has v (refs v) e)

  loop_walk : (v : ℕ) → not (is_looped kind refs n v) ≡ false → (kind v ≡ 0) × Walk refs v v
  unfolding found
  loop_walk v f = let t = failed (constant kind refs n v) (leb 2 (size_in (found kind refs n) v)) f in (eqb-true (kind v) 0 t.0, size_walk refs n fits v (leb-true 2 (size_in (found kind refs n) v) t.1))

  no_loop : (v : ℕ) → v < n → ¬ Edge refs v v → not (is_looped kind refs n v) ≡ true → kind v ≡ 0 → ¬ Walk refs v v
  unfolding found
  no_loop v l s t z w = passed (constant kind refs n v) (leb 2 (size_in (found kind refs n) v)) t (eq-eqb (kind v) 0 z) (le-leb 2 (size_in (found kind refs n) v) (walk_size refs n fits v l s w))

  uses_walk : (v : ℕ) → v < n → not (uses_context kind refs n v) ≡ false → (kind v ≡ 0) × Uses kind refs n v
  uses_walk v l f =
      let t = failed (constant kind refs n v) (any (context kind refs n) (reached refs n v)) f in
      let r = any_some (context kind refs n) (reached refs n v) t.1 in
      (eqb-true (kind v) 0 t.0, (r.0, reached_walk refs n fits v r.0 l r.1, eqb-true (kind r.0) 2 r.2))

  no_use : (v : ℕ) → v < n → not (uses_context kind refs n v) ≡ true → kind v ≡ 0 → ¬ Uses kind refs n v
  no_use v l t z u = passed (constant kind refs n v) (any (context kind refs n) (reached refs n v)) t (eq-eqb (kind v) 0 z) (some_any (context kind refs n) (reached refs n v) u.0 (walk_reached refs n fits v u.0 l u.1) (eq-eqb (kind u.0) 2 u.2))

  until₅₀ : Until (λ v. not (lists_itself kind refs n v)) 0 n (first₅₀ kind refs n)
  unfolding first₅₀
  until₅₀ = until_is (λ v. not (lists_itself kind refs n v)) 0 n (omega arith)

  until₅₁ : Until (λ d. not (is_looped kind refs n (get_or xs d 0))) 0 n (first₅₁ kind refs n)
  unfolding first₅₁
  until₅₁ = until_is (λ d. not (is_looped kind refs n (get_or xs d 0))) 0 n (omega arith)

  until₅₂ : Until (λ v. not (uses_context kind refs n v)) 0 n (first₅₂ kind refs n)
  unfolding first₅₂
  until₅₂ = until_is (λ v. not (uses_context kind refs n v)) 0 n (omega arith)

  -- ---- the answer

  -- where no constant lists itself and none is listed in a component of two or more, none has a walk to itself
  none_loops : ((u : ℕ) → u < n → kind u ≡ 0 → ¬ Edge refs u u) → n ≤ first₅₁ kind refs n → (u : ℕ) → u < n → kind u ≡ 0 → ¬ Walk refs u u
  none_loops ne h u l z =
      let p = place_of u l in
      let t : not (is_looped kind refs n u) ≡ true = ap (λ (y : ℕ). not (is_looped kind refs n y)) (sym p.2) ∙ until₅₁.right p.0 (omega arith) (omega (arith, p.1)) in
      no_loop u l (ne u l z) t z

  says₅₂ : n ≤ first₅₀ kind refs n → n ≤ first₅₁ kind refs n → ((u : ℕ) → u < n → kind u ≡ 0 → ¬ Walk refs u u) → Says kind refs n (answer kind refs n)
  says₅₂ h₀ h₁ nl =
      by_le n (first₅₂ kind refs n)
      (λ h. subst (Says kind refs n) (is_listed kind refs n h₀ h₁ h) (lists_order, λ u l z. (nl u l z, no_use u l (until₅₂.right u (omega arith) (omega arith)) z)))
      (λ l. let w = uses_walk (first₅₂ kind refs n) l (until₅₂.wrong l) in subst (Says kind refs n) (cases.is₅₂ kind refs n h₀ h₁ l) (is₅₂ nl l w.0 w.1 (λ u h z. no_use u (omega arith) (until₅₂.right u (omega arith) h) z)))

  says₅₁ : n ≤ first₅₀ kind refs n → ((u : ℕ) → u < n → kind u ≡ 0 → ¬ Edge refs u u) → Says kind refs n (answer kind refs n)
  says₅₁ h₀ ne =
      by_le n (first₅₁ kind refs n)
      (λ h. says₅₂ h₀ h (none_loops ne h))
      (λ l.
      let w = loop_walk (get_or xs (first₅₁ kind refs n) 0) (until₅₁.wrong l) in
      subst (Says kind refs n) (cases.is₅₁ kind refs n h₀ l)
      (is₅₁ ne xs lists_order (first₅₁ kind refs n) l refl w.0 w.1 (λ e h z. no_loop (get_or xs e 0) (at_value e (omega arith)) (ne (get_or xs e 0) (at_value e (omega arith)) z) (until₅₁.right e (omega arith) h) z)))

  -- the answer is what the account says
  pub says : Says kind refs n (answer kind refs n)
  says =
      by_le n (first₅₀ kind refs n)
      (λ h. says₅₁ h (λ u l z. no_self u (until₅₀.right u (omega arith) (omega arith)) z))
      (λ l. let w = self_edge (first₅₀ kind refs n) (until₅₀.wrong l) in subst (Says kind refs n) (cases.is₅₀ kind refs n l) (is₅₀ l w.0 w.1 (λ u h z. no_self u (until₅₀.right u (omega arith) h) z)))

  pub refuses_not : (fault : Fault) (place : ℕ) → Refuses kind refs n fault place → Orderable kind refs n → ⊥
  refuses_not fault place (is₅₀ l z e u) o = (o place l z).0 (one e)
  refuses_not fault place (is₅₁ ne ys ok d l q z w u) o = (o place (rw q (ok.only (get_or ys d 0) (in_at ys d (omega (arith, long ys ok))))) z).0 w
    where
      long : (ys : List ℕ) → Lists kind refs n ys → length ys ≡ n
      long ys ok = full n ys ok.once ok.only
  refuses_not fault place (is₅₂ nl l z t u) o = (o place l z).1 t

  -- an answer is the listing or a refusal
  shape : (answer kind refs n ≡ listed (order kind refs n)) ⊎ ((fault : Fault) × (place : ℕ) × (answer kind refs n ≡ refused fault place))
  shape =
      by_le n (first₅₀ kind refs n)
      (λ h₀.
      by_le n (first₅₁ kind refs n)
      (λ h₁.
      by_le n (first₅₂ kind refs n)
      (λ h. inl (sym (is_listed kind refs n h₀ h₁ h)))
      (λ l. inr (ReachesContext, first₅₂ kind refs n, sym (cases.is₅₂ kind refs n h₀ h₁ l))))
      (λ l. inr (OnLongerCycle, get_or xs (first₅₁ kind refs n) 0, sym (cases.is₅₁ kind refs n h₀ l))))
      (λ l. inr (ReferencesItself, first₅₀ kind refs n, sym (cases.is₅₀ kind refs n l)))

  -- ordering succeeds exactly if no constant has a walk to itself and none has a walk to a context value
  pub succeeds : (answer kind refs n ≡ listed (order kind refs n)) ↔ Orderable kind refs n
  succeeds = (λ e. (subst (Says kind refs n) e says).1, λ o. ⊎_elim (λ e. e) (λ t. absurd (refuses_not t.0 t.1 (subst (Says kind refs n) t.2 says) o)) shape)
