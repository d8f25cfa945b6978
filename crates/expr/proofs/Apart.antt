-- In plain words: every expression of a well-formed pack is a node of exactly one root. So the reports of several roots write at different
-- places, and those of all roots write at every expression's place.
--     roots_apart      no node stands in the trees of two roots
--     root_of_lem          each expression stands in the tree of a root
-- Assumes nothing.
use mathlib.Core.Path.{◌≡◌, refl, sym, subst}
use mathlib.Core.Logic.{⊎_elim}
use mathlib.Core.List.{List, [], ◌∷◌}
use Prim.Native.Nat.{ℕ, zero, suc, ◌+◌, ◌-◌, ◌≤◌, ◌<◌}
use native.Mathlib.Omega.{arith}
use Rattle.laws.specs.Lists.{count, In, gather}
use Rattle.laws.proofs.Choice.{by_eq}
use Rattle.laws.proofs.Lists.{count_same, count_other, in_cons, in_one, either, in_gather, gather_in}
use Rattle.laws.proofs.Members.{in_self, in_subst, by_le}
use Rattle.pack.specs.Rows.{root_row}
use Rattle.pack.specs.Named.{kids_of}
use Rattle.pack.specs.declared.counts.Counts.{Counts}
use Rattle.rows.proofs.Promises.{root_inside}
use Rattle.trees.specs.Nodes.{bodies_of, parent_of, max_depth}
use Rattle.trees.proofs.TreeLaws.{at_row, uses_split, parent_is, parent_none}
use Rattle.formed.proofs.Promises.{WellFormed}
use Rattle.report.specs.Visits.{sum, tree_of}
use Rattle.expr.proofs.Nodes.{kid_inside, body_free}
use Rattle.expr.proofs.Trees.{tree_at, tree_below, with_parent}

module _ (p : List ℕ) (c : Counts) (f : WellFormed p c) where
  abbrev body : ℕ → ℕ
  body r = (root_row p c r).body

  inside : (r : ℕ) → r < c.roots → body r < c.expressions
  inside r l = (root_inside p c f.rows_passed r l).body

  -- ---- two roots

  -- a body that two roots have would be used twice
  bodies_rise : (r q : ℕ) → r < q → q < c.roots → body r ≡ body q → ⊥
  unfolding bodies_of
  bodies_rise r q l h e =
      omega (
        arith,
        f.trees.once (body r) (inside r (omega (arith, l, h))),
        uses_split p c (body r),
        at_row (λ k. body k ∷ []) (body r) r c.roots (omega (arith, l, h)),
        count_same (body r) (body r) [] refl,
        in_gather (body r) (λ k. body k ∷ []) (suc r) q (c.roots - suc r) (omega (arith, l)) (omega (arith, l, h)) (omega (arith, count_same (body r) (body q) [] e)),
      )

  bodies_differ : (r q : ℕ) → r < c.roots → q < c.roots → (r ≡ q → ⊥) → body r ≡ body q → ⊥
  bodies_differ r q l h n e =
      by_le r q (λ u. bodies_rise r q (omega (arith, u, n)) h e) (λ u. bodies_rise q r u l (sym e))

  -- a root's body stands in no other tree than its own
  body_else : (r id : ℕ) → r < c.roots → id < c.expressions → (body r ≡ id → ⊥) → count (body r) (tree_of max_depth p c id) ≡ 0
  body_else r id l h n =
      omega (
        arith,
        with_parent p c f max_depth (body r) id (inside r l) h,
        count_other (body r) id [] n,
        tree_below p c f max_depth (parent_of p c (body r)) id h (omega (arith, h, parent_none p c f.trees (body r) (body_free p c f r l))),
      )

  -- what stands in a tree below its root: its parent does too, and has a larger id
  up : (y id : ℕ) → id < c.expressions → In y (tree_of max_depth p c id) → (y ≡ id → ⊥)
      → In (parent_of p c y) (tree_of max_depth p c id) × (y < parent_of p c y)
  up y id l i n = (
    m,
    by_eq (count y (gather (kids_of p c) 0 c.expressions)) 0
        (λ z. absurd (omega (arith, m, tree_below p c f max_depth (parent_of p c y) id l (omega (arith, l, parent_none p c f.trees y z)))))
        (λ z.
        let k = gather_in y (kids_of p c) c.expressions 0 (omega (arith, z)) in
        let u : k.0 < c.expressions = omega (arith, k.2) in
        omega (arith, parent_is p c f.trees y k.0 below u k.3, f.trees.smaller k.0 y u k.3)),
  )
    where
      below : y < c.expressions
      below = by_le y id (λ u. omega (arith, u, l)) (λ u. absurd (omega (arith, i, tree_below p c f max_depth y id l u)))

      m : In (parent_of p c y) (tree_of max_depth p c id)
      m = omega (arith, i, with_parent p c f max_depth y id below l, count_other y id [] n)

  module _ (r q : ℕ) (l : r < c.roots) (h : q < c.roots) (n : r ≡ q → ⊥) where
    -- from what holds of larger ids
    apart_step : (y : ℕ) → In y (tree_of max_depth p c (body r)) → In y (tree_of max_depth p c (body q))
        → ((k : ℕ) → y < k → In k (tree_of max_depth p c (body r)) → In k (tree_of max_depth p c (body q)) → ⊥) → ⊥
    apart_step y i j above =
        by_eq y (body r) (λ e. omega (arith, in_subst (tree_of max_depth p c (body q)) e j, body_else r (body q) l (inside q h) (bodies_differ r q l h n)))
        (λ a. by_eq y (body q) (λ e. omega (arith, in_subst (tree_of max_depth p c (body r)) e i, body_else q (body r) h (inside r l) (λ e. bodies_differ r q l h n (sym e))))
        (λ b.
        let u = up y (body r) (inside r l) i a in
        above (parent_of p c y) u.1 u.0 (up y (body q) (inside q h) j b).0))

    -- by the number of ids above y
    apart_from : (m y : ℕ) → c.expressions ≤ y + m → In y (tree_of max_depth p c (body r)) → In y (tree_of max_depth p c (body q)) → ⊥
    apart_from zero y g i j = omega (arith, i, tree_below p c f max_depth y (body r) (inside r l) (omega (arith, g, inside r l)))
    apart_from (suc m) y g i j = apart_step y i j (λ k u. apart_from m k (omega (arith, g, u)))

    pub roots_apart : (y : ℕ) → In y (tree_of max_depth p c (body r)) → count y (tree_of max_depth p c (body q)) ≡ 0
    roots_apart y i = by_eq (count y (tree_of max_depth p c (body q))) 0 (λ z. z) (λ z. absurd (apart_from c.expressions y (omega arith) i (omega (arith, z))))

-- ---- all roots

-- one of several counts, and their sum
sum_in : (g : ℕ → ℕ) (xs : List ℕ) (k : ℕ) → In k xs → g k ≤ sum g xs
sum_in g [] k h = absurd (omega arith)
sum_in g (x ∷ xs) k h = ⊎_elim (λ e. rw e (omega arith)) (λ i. omega (arith, sum_in g xs k i)) (in_cons k x xs h)

sum_some : (g : ℕ → ℕ) (xs : List ℕ) → 1 ≤ sum g xs → (k : ℕ) × In k xs × (1 ≤ g k)
sum_some g [] h = absurd (omega arith)
sum_some g (x ∷ xs) h =
    ⊎_elim (λ u. (x, in_self x xs, u)) (λ u. let r = sum_some g xs u in (r.0, omega (arith, r.1), r.2)) (either (g x) (sum g xs) h)

module _ (p : List ℕ) (c : Counts) (f : WellFormed p c) where
  -- how often a number stands in the tree of a node
  abbrev times : ℕ → ℕ → ℕ
  times y id = count y (tree_of max_depth p c id)

  tree_root : (id : ℕ) → id < c.expressions → 1 ≤ times id id
  tree_root id l = omega (arith, tree_at p c f id id l, count_same id id [] refl)

  in_child : (y id j : ℕ) → id < c.expressions → In j (kids_of p c id) → 1 ≤ times y j → 1 ≤ times y id
  in_child y id j l i h = omega (arith, h, tree_at p c f y id l, sum_in (times y) (kids_of p c id) j i)

  -- with a node its children stand in a tree; by the size of the tree's id
  tree_kid : (n y k id : ℕ) → id < n → id < c.expressions → 1 ≤ times k id → In y (kids_of p c k) → 1 ≤ times y id
  tree_kid zero y k id m l h i = absurd (omega (arith, m))
  tree_kid (suc n) y k id m l h i =
      by_eq k id
      (λ e. let v : In y (kids_of p c id) = subst (λ (k : ℕ). In y (kids_of p c k)) e i in in_child y id y l v (tree_root y (kid_inside p c f id l y v)))
      (λ o.
      let s = sum_some (times k) (kids_of p c id) (omega (arith, h, tree_at p c f k id l, count_other k id [] o)) in
      in_child y id s.0 l s.1 (tree_kid n y k s.0 (omega (arith, m, f.trees.smaller id s.0 l s.1)) (kid_inside p c f id l s.0 s.1) s.2 i))

  -- the tree of a root
  abbrev root_tree : ℕ → List ℕ
  root_tree r = tree_of max_depth p c (root_row p c r).body

  -- what no node names is a root's body
  as_body : (y : ℕ) → y < c.expressions → count y (gather (kids_of p c) 0 c.expressions) ≡ 0 → (r : ℕ) × (r < c.roots) × In y (root_tree r)
  unfolding bodies_of
  as_body y l z =
      let k = gather_in y (λ r. (root_row p c r).body ∷ []) c.roots 0 (omega (arith, z, f.trees.once y l, uses_split p c y)) in
      let e = in_one y (root_row p c k.0).body k.3 in
      (k.0, omega (arith, k.2), subst (λ (id : ℕ). In y (tree_of max_depth p c id)) e (tree_root y l))

  -- by the number of ids above y: a parent's is larger
  root_from : (n y : ℕ) → c.expressions ≤ y + n → y < c.expressions → (r : ℕ) × (r < c.roots) × In y (root_tree r)
  root_from zero y m l = absurd (omega (arith, m, l))
  root_from (suc n) y m l =
      by_eq (count y (gather (kids_of p c) 0 c.expressions)) 0 (as_body y l)
      (λ z.
      let k = gather_in y (kids_of p c) c.expressions 0 (omega (arith, z)) in
      let u : k.0 < c.expressions = omega (arith, k.2) in
      let r = root_from n k.0 (omega (arith, m, f.trees.smaller k.0 y u k.3)) u in
      let b = (root_inside p c f.rows_passed r.0 r.1).body in
      (r.0, r.1, tree_kid c.expressions y k.0 (root_row p c r.0).body b b r.2 k.3))

  pub root_of_lem : (y : ℕ) → y < c.expressions → (r : ℕ) × (r < c.roots) × In y (tree_of max_depth p c (root_row p c r).body)
  root_of_lem y l = root_from c.expressions y (omega arith) l
