-- In plain words: what a well-formed pack promises of a node's children, in the words that the walk over the rules asks for.
--     operands_at, none_stated, stated_at    what a row of a known kind names
--     kid_once            no child is named twice by its parent
--     operand_plain       a let is a statement, and no other part of a node
--     let_value, let_kids a let has one child, its value
--     kind_known_lem          no kind is past 8
--     depth_some          every expression lies at a depth of 1 or more
--     body_free           a root's body is no node's child
--     each_in             what holds of all that stand in a list holds of each
-- Assumes nothing.
use mathlib.Core.Path.{◌≡◌, refl, sym, ap, ◌∙◌}
use mathlib.Core.List.{List, [], ◌∷◌, ◌++◌}
use mathlib.Core.Bool.{false}
use Prim.Native.Nat.{ℕ, zero, suc, ◌≤◌, ◌<◌}
use native.Mathlib.Omega.{arith}
use lib.Dec.{eqb}
use borrow.Author.Tests.{eq-eqb}
use Rattle.laws.specs.Choice.{by_kind}
use Rattle.laws.specs.Lists.{count, In, gather}
use Rattle.laws.proofs.Choice.{yes, no, NoneOf, past_kinds, by_eq, tested, fails, and_both}
use Rattle.laws.proofs.Lists.{count_append, gather_in}
use Rattle.laws.proofs.Members.{in_self, by_le}
use Rattle.pack.specs.Rows.{expression_row, root_row}
use Rattle.pack.specs.Named.{items_of, row_statements, row_operands, statements_of, operands_of, kids_of}
use Rattle.pack.specs.declared.counts.Counts.{Counts}
use Rattle.pack.specs.declared.rows.ExpressionRow.{ExpressionRow}
use Rattle.rows.specs.Tables.{row_rule}
use Rattle.rows.specs.Expressions.{kind_known, expression_known, expression_rule}
use Rattle.rows.proofs.Promises.{rule_passed}
use Rattle.trees.specs.Nodes.{depth_in, depth_of}
use Rattle.trees.proofs.TreeLaws.{at_row, uses_split, stated_kid}
use Rattle.formed.proofs.Promises.{WellFormed}
use Rattle.expr.proofs.Unmarked.{chosen}
use Rattle.expr.proofs.Walk.{Each}

pub each_in : (F : ℕ → Type 0) (xs : List ℕ) → ((k : ℕ) → In k xs → F k) → Each F xs
each_in F [] f = tt
each_in F (x ∷ xs) f = (f x (in_self x xs), each_in F xs (λ k h. f k (omega (arith, h))))

-- ---- what a row of a known kind names

abbrev pub with_kind : ℕ → ExpressionRow → ExpressionRow
with_kind k n = record { kind = k; op = n.op; a = n.a; b = n.b; c = n.c; zero = n.zero }

module _ (p : List ℕ) (c : Counts) (n : ExpressionRow) where
  pub operands_at : (k : ℕ) → n.kind ≡ k → row_operands p c n ≡ row_operands p c (with_kind k n)
  operands_at k q = ap (λ (k : ℕ). row_operands p c (with_kind k n)) q

  pub none_stated : (k : ℕ) → n.kind ≡ k → eqb k 2 ≡ false → row_statements p c n ≡ []
  unfolding row_statements
  none_stated k q f = sym (no (eqb n.kind 2) _ [] (ap (λ (k : ℕ). eqb k 2) q ∙ f) refl)

  pub stated_at : n.kind ≡ 2 → row_statements p c n ≡ items_of p c n.a
  unfolding row_statements
  stated_at q = sym (yes (eqb n.kind 2) _ [] (eq-eqb n.kind 2 q) refl)

-- ---- what a well-formed pack promises

none_of : (k n : ℕ) → n ≤ k → NoneOf k n
none_of k zero h = tt
none_of k (suc n) h = (none_of k n (omega (arith, h)), λ e. omega (arith, h, e))

unknown : (r : ExpressionRow) → 8 < r.kind → kind_known r ≡ false
unfolding kind_known
unknown r h = sym (past_kinds r r.kind false _ (none_of r.kind 9 (omega (arith, h))))

module _ (p : List ℕ) (c : Counts) (f : WellFormed p c) (id : ℕ) (l : id < c.expressions) where
  pub statement_kid : (k : ℕ) → In k (statements_of p c id) → In k (kids_of p c id)
  statement_kid k h = omega (arith, h, count_append k (statements_of p c id) (operands_of p c id))

  pub operand_kid : (k : ℕ) → In k (operands_of p c id) → In k (kids_of p c id)
  operand_kid k h = omega (arith, h, count_append k (statements_of p c id) (operands_of p c id))

  pub kid_inside : (k : ℕ) → In k (kids_of p c id) → k < c.expressions
  kid_inside k h = omega (arith, l, f.trees.smaller id k l h)

  pub kid_once : (k : ℕ) → In k (kids_of p c id) → count k (kids_of p c id) ≤ 1
  kid_once k h = omega (arith, f.trees.once k (kid_inside k h), uses_split p c k, at_row (kids_of p c) k id c.expressions l)

  pub operand_plain : (k : ℕ) → In k (operands_of p c id) → (expression_row p c k).kind ≡ 3 → ⊥
  operand_plain k h q =
      let m = operand_kid k h in
      omega (
        arith,
        h,
        f.lets k (kid_inside k m) q,
        stated_kid p c f.trees k id (kid_inside k m) l m,
        kid_once k m,
        count_append k (statements_of p c id) (operands_of p c id),
      )

  pub let_value : (expression_row p c id).kind ≡ 3 → operands_of p c id ≡ (expression_row p c id).b ∷ []
  unfolding row_operands by_kind
  let_value q = operands_at p c (expression_row p c id) 3 q

  pub let_kids : (expression_row p c id).kind ≡ 3 → kids_of p c id ≡ (expression_row p c id).b ∷ []
  let_kids q = ap (λ (l : List ℕ). l ++ operands_of p c id) (none_stated p c (expression_row p c id) 3 q refl) ∙ let_value q

  pub kind_known_lem : (expression_row p c id).kind ≤ 8
  unfolding row_rule by_kind expression_rule expression_known
  kind_known_lem =
      let r = expression_row p c id in
      let t = (tested (expression_known r) _ _ (rule_passed p c f.rows_passed 2 id (omega arith) l)).0 in
      by_le r.kind 8 (λ h. h) (λ h. absurd (fails (sym (and_both (eqb r.zero 0) (kind_known r) t).1 ∙ unknown r h)))

depth_from : (p : List ℕ) (c : Counts) (n id : ℕ) → 0 < n → 1 ≤ depth_in p c n id
unfolding depth_in
depth_from p c zero id h = absurd (omega arith)
depth_from p c (suc n) id h = chosen (λ (d : ℕ). 1 ≤ d) _ (λ t. omega arith) (λ f. omega arith)

pub depth_some : (p : List ℕ) (c : Counts) (id : ℕ) → id < c.expressions → 1 ≤ depth_of p c id
unfolding depth_of
depth_some p c id l = depth_from p c c.expressions id (omega (arith, l))

-- its depth is 1, and a child's is 2 or more
pub body_free : (p : List ℕ) (c : Counts) → WellFormed p c → (r : ℕ) → r < c.roots → count (root_row p c r).body (gather (kids_of p c) 0 c.expressions) ≡ 0
body_free p c f r l =
    let body = (root_row p c r).body in
    by_eq (count body (gather (kids_of p c) 0 c.expressions)) 0 (λ z. z)
    (λ z.
    let k = gather_in body (kids_of p c) c.expressions 0 (omega (arith, z)) in
    let i : k.0 < c.expressions = omega (arith, k.2) in
    absurd (omega (arith, f.body_depth r l, f.kid_depth k.0 body i k.3, depth_some p c k.0 i)))
