-- Expressions that form trees: each has one parent or is a root's body, and its depth is its parent's and one more.
--     parent_is       the row that names an expression is its parent
--     depth_kid       a child's depth
--     depth_body      a root body's depth
--     stated_kid      a child is stated as often as its parent states it
-- Assumes nothing.
use Prim.Native.Nat.{ℕ, zero, suc, ◌+◌, ◌-◌, ◌≤◌, ◌<◌}
use mathlib.Core.Path.{◌≡◌, refl, sym, ap, ◌∙◌}
use mathlib.Core.Bool.{Bool, true, false}
use mathlib.Core.List.{List}
use native.Mathlib.Omega.{arith}
use lib.Dec.{eqb, ltb}
use borrow.Author.Tests.{eq-eqb, ne_eqb, lt-ltb, le-ltb, eqb-false, ltb-true}
use Rattle.laws.specs.Choice.{pick}
use Rattle.laws.specs.Lists.{count, In, gather}
use Rattle.laws.proofs.Choice.{yes, no, by_eq}
use Rattle.laws.proofs.First.{at_first, none_is, until_is}
use Rattle.laws.proofs.Lists.{count_append, count_at, in_gather, gather_in}
use Rattle.pack.specs.Named.{kids_of, statements_of, operands_of}
use Rattle.pack.specs.declared.counts.Counts.{Counts}
use Rattle.trees.specs.Nodes.{bodies_of, uses_of, stated_of, parent_of, depth_in, depth_of}
use Rattle.trees.specs.Trees.{Trees}

-- a count over all rows, split at row i
pub at_row : (f : ℕ → List ℕ) (e i x : ℕ) → i < x → count e (gather f 0 x) ≡ count e (gather f 0 i) + (count e (f i) + count e (gather f (suc i) (x - suc i)))
at_row f e i x l =
    let w : i + suc (x - suc i) ≡ x = omega arith in
    ap (λ (n : ℕ). count e (gather f 0 n)) (sym w) ∙ count_at e f 0 i (x - suc i) i (omega arith)

-- what is named by no row of a range is named by none of it
none_named : (f : ℕ → List ℕ) (e i n k : ℕ) → count e (gather f i n) ≡ 0 → i ≤ k → k < i + n → count e (f k) ≡ 0
none_named f e i n k z a b = by_eq (count e (f k)) 0 (λ q. q) (λ q. absurd (omega (arith, in_gather e f i k n a b (omega arith))))

module _ (p : List ℕ) (c : Counts) where
  pub uses_split : (e : ℕ) → uses_of p c e ≡ count e (gather (kids_of p c) 0 c.expressions) + count e (bodies_of p c)
  unfolding uses_of
  uses_split e = count_append e (gather (kids_of p c) 0 c.expressions) (bodies_of p c)

  -- no more often as statements than as children
  stated_le : (e n i : ℕ) → count e (gather (statements_of p c) i n) ≤ count e (gather (kids_of p c) i n)
  unfolding gather
  stated_le e zero i = omega arith
  stated_le e (suc n) i =
      omega (
        arith,
        stated_le e n (suc i),
        count_append e (statements_of p c i) (gather (statements_of p c) (suc i) n),
        count_append e (kids_of p c i) (gather (kids_of p c) (suc i) n),
        count_append e (statements_of p c i) (operands_of p c i),
      )

same_step : (b : Bool) (x y : ℕ) → (b ≡ true → x ≡ y) → pick b (suc x) 1 ≡ pick b (suc y) 1
unfolding pick
same_step true x y f = ap suc (f refl)
same_step false x y f = refl

module _ (p : List ℕ) (c : Counts) (t : Trees p c) where
  -- a child is named by one row alone
  pub parent_is : (e i : ℕ) → e < c.expressions → i < c.expressions → In e (kids_of p c i) → parent_of p c e ≡ i
  unfolding parent_of
  parent_is e i a b m =
      at_first (λ k. eqb (count e (kids_of p c k)) 0) (λ k. k) c.expressions 0 i c.expressions (omega arith) b
      (λ k l h. eq-eqb (count e (kids_of p c k)) 0 (none_named (kids_of p c) e 0 i k before (omega arith) (omega arith)))
      (ne_eqb (count e (kids_of p c i)) 0 (λ z. omega arith))
    where
      before : count e (gather (kids_of p c) 0 i) ≡ 0
      before = omega (arith, t.once e a, uses_split p c e, at_row (kids_of p c) e i c.expressions b)

  pub parent_none : (e : ℕ) → count e (gather (kids_of p c) 0 c.expressions) ≡ 0 → parent_of p c e ≡ c.expressions
  unfolding parent_of
  parent_none e z =
      none_is (λ k. eqb (count e (kids_of p c k)) 0) (λ k. k) c.expressions 0 c.expressions
      (λ k l h. eq-eqb (count e (kids_of p c k)) 0 (none_named (kids_of p c) e 0 c.expressions k z l (omega arith)))

  -- a parent's id is larger
  parent_larger : (e : ℕ) → parent_of p c e < c.expressions → e < parent_of p c e
  unfolding parent_of
  parent_larger e l =
      let u = until_is (λ k. eqb (count e (kids_of p c k)) 0) 0 c.expressions (omega arith) in
      let n = eqb-false (count e (kids_of p c (parent_of p c e))) 0 (u.wrong l) in
      t.smaller (parent_of p c e) e l (by_eq (count e (kids_of p c (parent_of p c e))) 0 (λ z. absurd (n z)) (λ z. omega arith))

  -- one step of a depth
  depth_at : (n e : ℕ) → 0 < n → depth_in p c n e ≡ pick (ltb (parent_of p c e) c.expressions) (suc (depth_in p c (n - 1) (parent_of p c e))) 1
  unfolding depth_in
  depth_at zero e l = absurd (omega arith)
  depth_at (suc n) e l = let w : suc n - 1 ≡ n = omega arith in rw w

  -- steps past the root make no difference
  depth_same : (n m e : ℕ) → e < c.expressions → c.expressions - e ≤ n → c.expressions - e ≤ m → depth_in p c n e ≡ depth_in p c m e
  depth_same zero m e l a b = absurd (omega arith)
  depth_same (suc n) m e l a b =
      depth_at (suc n) e (omega arith)
      ∙ same_step (ltb (parent_of p c e) c.expressions) _ _
      (λ y.
      let h = ltb-true (parent_of p c e) c.expressions y in
      let w : suc n - 1 ≡ n = omega arith in
      ap (λ (k : ℕ). depth_in p c k (parent_of p c e)) w
      ∙ depth_same n (m - 1) (parent_of p c e) h (omega (arith, parent_larger e h)) (omega (arith, parent_larger e h)))
      ∙ sym (depth_at m e (omega arith))

  pub depth_kid : (e i : ℕ) → e < c.expressions → i < c.expressions → In e (kids_of p c i) → depth_of p c e ≡ suc (depth_of p c i)
  unfolding depth_of
  depth_kid e i a b m =
      depth_at c.expressions e (omega arith)
      ∙ sym (yes (ltb (parent_of p c e) c.expressions) _ 1 (lt-ltb (parent_of p c e) c.expressions (omega (arith, parent_is e i a b m))) refl)
      ∙ ap (λ (k : ℕ). suc (depth_in p c (c.expressions - 1) k)) (parent_is e i a b m)
      ∙ ap suc (depth_same (c.expressions - 1) c.expressions i b (omega (arith, t.smaller i e b m)) (omega arith))

  pub depth_body : (e : ℕ) → e < c.expressions → count e (gather (kids_of p c) 0 c.expressions) ≡ 0 → depth_of p c e ≡ 1
  unfolding depth_of
  depth_body e a z =
      depth_at c.expressions e (omega arith)
      ∙ sym (no (ltb (parent_of p c e) c.expressions) _ 1 (le-ltb (parent_of p c e) c.expressions (omega (arith, parent_none e z))) refl)

  pub stated_kid : (e i : ℕ) → e < c.expressions → i < c.expressions → In e (kids_of p c i) → stated_of p c e ≡ count e (statements_of p c i)
  unfolding stated_of
  stated_kid e i a b m =
      omega (
        arith,
        at_row (statements_of p c) e i c.expressions b,
        at_row (kids_of p c) e i c.expressions b,
        stated_le p c e i 0,
        stated_le p c e (c.expressions - suc i) (suc i),
        t.once e a,
        uses_split p c e,
      )

  -- by a row after its own or as a body: its own and those before have only smaller children
  pub named_later : (e : ℕ) → e < c.expressions → 1 ≤ count e (gather (kids_of p c) (suc e) (c.expressions - suc e)) + count e (bodies_of p c)
  named_later e a =
      by_eq (count e (gather (kids_of p c) 0 (suc e))) 0
      (λ z. omega (arith, t.once e a, uses_split p c e, at_row (kids_of p c) e e c.expressions a, up_to z))
      (λ z.
      let r = gather_in e (kids_of p c) (suc e) 0 (omega arith) in
      absurd (omega (arith, t.smaller r.0 e (omega (arith, r.2)) r.3, r.2)))
    where
      up_to : count e (gather (kids_of p c) 0 (suc e)) ≡ 0 → count e (gather (kids_of p c) 0 e) + count e (kids_of p c e) ≡ 0
      up_to z = omega (arith, at_row (kids_of p c) e e (suc e) (omega arith))

  pub stated_most : (e : ℕ) → e < c.expressions → stated_of p c e ≤ 1
  unfolding stated_of
  stated_most e a = omega (arith, stated_le p c e c.expressions 0, t.once e a, uses_split p c e)

  pub stated_body : (e : ℕ) → count e (gather (kids_of p c) 0 c.expressions) ≡ 0 → stated_of p c e ≡ 0
  unfolding stated_of
  stated_body e z = omega (arith, stated_le p c e c.expressions 0)
