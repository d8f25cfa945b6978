-- In plain words: the expressions below a node of a well-formed pack are a tree: each is met at most once on the way down from a root's
-- body, all have ids at most the node's, and 64 levels show the whole tree.
--     tree_more        more levels show no more
--     tree_at          how often a node stands in the tree of 64 levels: as its root, or in the trees of the children
--     tree_below       no id is larger than the root's
--     with_parent      what stands in a tree below its root stands there with its parent
--     tree_once        each y stands in a tree at most once
-- Assumes nothing.
use mathlib.Core.Path.{◌≡◌, refl, sym, ap, subst, ◌∙◌}
use mathlib.Core.List.{List, [], ◌∷◌}
use Prim.Native.Nat.{ℕ, zero, suc, ◌+◌, ◌≤◌, ◌<◌}
use native.Mathlib.Omega.{arith}
use lib.Dec.{eqb}
use borrow.Author.Tests.{eq-eqb}
use Rattle.laws.specs.Lists.{bit, count, In, gather}
use Rattle.laws.proofs.Choice.{by_eq}
use Rattle.laws.proofs.Lists.{count_append, count_same, count_other, gather_in}
use Rattle.laws.proofs.Members.{in_self, by_le}
use Rattle.pack.specs.Named.{kids_of}
use Rattle.pack.specs.declared.counts.Counts.{Counts}
use Rattle.trees.specs.Nodes.{parent_of, depth_of, max_depth}
use Rattle.trees.proofs.TreeLaws.{parent_is, parent_none}
use Rattle.formed.proofs.Promises.{WellFormed}
use Rattle.report.specs.Visits.{together, sum, tree_of}
use Rattle.expr.proofs.Nodes.{kid_inside, kid_once, depth_some}

-- ---- lists one after the other

-- what is said of the first and the others, from what is said of all
first : {P : ℕ → Type 0} (x : ℕ) (xs : List ℕ) → ((k : ℕ) → In k (x ∷ xs) → P k) → P x
first x xs f = f x (in_self x xs)

others : {P : ℕ → Type 0} (x : ℕ) (xs : List ℕ) → ((k : ℕ) → In k (x ∷ xs) → P k) → (k : ℕ) → In k xs → P k
others x xs f k h = f k (omega (arith, h))

together_same : (g h : ℕ → List ℕ) (xs : List ℕ) → ((k : ℕ) → In k xs → g k ≡ h k) → together g xs ≡ together h xs
unfolding together
together_same g h [] f = refl
together_same g h (x ∷ xs) f = rw (first {P = λ k. g k ≡ h k} x xs f, together_same g h xs (others {P = λ k. g k ≡ h k} x xs f)) refl

module _ (y : ℕ) (g : ℕ → List ℕ) where
  together_count : (xs : List ℕ) → count y (together g xs) ≡ sum (λ k. count y (g k)) xs
  unfolding together
  together_count [] = refl
  together_count (x ∷ xs) = omega (arith, count_append y (g x) (together g xs), together_count xs)

  together_none : (xs : List ℕ) → ((k : ℕ) → In k xs → count y (g k) ≡ 0) → count y (together g xs) ≡ 0
  unfolding together
  together_none [] f = refl
  together_none (x ∷ xs) f = omega (arith, count_append y (g x) (together g xs), first {P = λ k. count y (g k) ≡ 0} x xs f, together_none xs (others {P = λ k. count y (g k) ≡ 0} x xs f))

  -- no more often than the list itself has it and z stands in the lists
  together_few : (z : ℕ) (xs : List ℕ) → ((k : ℕ) → In k xs → count y (g k) ≤ bit (eqb y k) + count z (g k)) → count y (together g xs) ≤ count y xs + count z (together g xs)
  unfolding together
  together_few z [] f = omega arith
  together_few z (x ∷ xs) f =
      omega (
        arith,
        count_append y (g x) (together g xs),
        count_append z (g x) (together g xs),
        first {P = λ k. count y (g k) ≤ bit (eqb y k) + count z (g k)} x xs f,
        together_few z xs (others {P = λ k. count y (g k) ≤ bit (eqb y k) + count z (g k)} x xs f),
      )

-- ---- trees

module _ (p : List ℕ) (c : Counts) (f : WellFormed p c) where
  pub tree_more : (left more id : ℕ) → id < c.expressions → max_depth < depth_of p c id + left → left ≤ more → tree_of more p c id ≡ tree_of left p c id
  unfolding tree_of
  tree_more zero more id l h m = absurd (omega (arith, h, f.deep id l))
  tree_more (suc left) zero id l h m = absurd (omega (arith, m))
  tree_more (suc left) (suc more) id l h m =
      ap (λ (xs : List ℕ). id ∷ xs)
      (together_same (tree_of more p c) (tree_of left p c) (kids_of p c id)
      (λ k i. tree_more left more k (kid_inside p c f id l k i) (omega (arith, h, f.kid_depth id k l i)) (omega (arith, m))))

  pub tree_at : (y id : ℕ) → id < c.expressions → count y (tree_of max_depth p c id) ≡ bit (eqb y id) + sum (λ k. count y (tree_of max_depth p c k)) (kids_of p c id)
  unfolding tree_of
  tree_at y id l =
      ap (count y) (sym (tree_more max_depth (suc max_depth) id l (omega (arith, depth_some p c id l)) (omega arith)))
      ∙ ap (λ (n : ℕ). bit (eqb y id) + n) (together_count y (tree_of max_depth p c) (kids_of p c id))

  pub tree_below : (left y id : ℕ) → id < c.expressions → id < y → count y (tree_of left p c id) ≡ 0
  unfolding tree_of
  tree_below zero y id l h = refl
  tree_below (suc left) y id l h =
      omega (
        arith,
        count_other y id (together (tree_of left p c) (kids_of p c id)) (λ e. omega (arith, e, h)),
        together_none y (tree_of left p c) (kids_of p c id) (λ k i. tree_below left y k (kid_inside p c f id l k i) (omega (arith, h, f.trees.smaller id k l i))),
      )

  -- as the root, or with its parent
  pub with_parent : (left y id : ℕ) → y < c.expressions → id < c.expressions → count y (tree_of left p c id) ≤ bit (eqb y id) + count (parent_of p c y) (tree_of left p c id)
  unfolding tree_of
  with_parent zero y id u l = omega arith
  with_parent (suc left) y id u l =
      omega (
        arith,
        together_few y (tree_of left p c) (parent_of p c y) (kids_of p c id) (λ k i. with_parent left y k u (kid_inside p c f id l k i)),
        by_parent,
      )
    where
      by_parent : count y (kids_of p c id) ≤ bit (eqb (parent_of p c y) id)
      by_parent =
          by_eq (count y (kids_of p c id)) 0 (λ z. omega (arith, z))
          (λ z.
          let i : In y (kids_of p c id) = omega (arith, z) in
          rw (eq-eqb (parent_of p c y) id (parent_is p c f.trees y id u l i)) (kid_once p c f id l y i))

  -- the root itself stands nowhere below
  root_once : (left id : ℕ) → id < c.expressions → count id (tree_of left p c id) ≤ 1
  unfolding tree_of
  root_once zero id l = omega arith
  root_once (suc left) id l =
      omega (
        arith,
        count_same id id (together (tree_of left p c) (kids_of p c id)) refl,
        together_none id (tree_of left p c) (kids_of p c id) (λ k i. tree_below left id k (kid_inside p c f id l k i) (f.trees.smaller id k l i)),
      )

  -- a parent's id is larger
  once_step : (left y id : ℕ) → id < c.expressions → ((k : ℕ) → y < k → k < c.expressions → count k (tree_of left p c id) ≤ 1) → count y (tree_of left p c id) ≤ 1
  once_step left y id l above =
      by_le y id
      (λ u. by_eq y id (λ e. subst (λ (y : ℕ). count y (tree_of left p c id) ≤ 1) (sym e) (root_once left id l))
      (λ o.
      let v : y < c.expressions = omega (arith, u, l) in
      let w = with_parent left y id v l in
      let b = count_other y id [] o in
      by_eq (count y (gather (kids_of p c) 0 c.expressions)) 0
      (λ z. omega (arith, w, b, tree_below left (parent_of p c y) id l (omega (arith, l, parent_none p c f.trees y z))))
      (λ z.
      let k = gather_in y (kids_of p c) c.expressions 0 (omega (arith, z)) in
      let i : k.0 < c.expressions = omega (arith, k.2) in
      let q = parent_is p c f.trees y k.0 v i k.3 in
      omega (arith, w, b, above (parent_of p c y) (omega (arith, q, f.trees.smaller k.0 y i k.3)) (omega (arith, q, i))))))
      (λ u. omega (arith, tree_below left y id l u))

  -- by the number of ids above y
  once_from : (n left y id : ℕ) → c.expressions ≤ y + n → id < c.expressions → count y (tree_of left p c id) ≤ 1
  once_from zero left y id m l = once_step left y id l (λ k a b. absurd (omega (arith, m, a, b)))
  once_from (suc n) left y id m l = once_step left y id l (λ k a b. once_from n left k id (omega (arith, m, a)) l)

  pub tree_once : (left y id : ℕ) → id < c.expressions → count y (tree_of left p c id) ≤ 1
  tree_once left y id l = once_from c.expressions left y id (omega arith) l
