-- What a well-formed pack promises, for the layers above. Each field says it in a sentence.
-- Of single rows (parts and children smaller, ids and lists in range) see the promises of `rows`, which take `rows_passed`.
-- Assumes nothing.
use Prim.Native.Nat.{ℕ, suc, ◌≤◌, ◌<◌}
use mathlib.Core.Path.{◌≡◌, refl, sym, ap, ◌∙◌}
use mathlib.Core.Bool.{true}
use mathlib.Core.List.{List, [], ◌∷◌}
use native.Mathlib.Omega.{arith}
use borrow.Author.Tests.{eq-eqb, leb-true}
use Rattle.laws.specs.Choice.{pick}
use Rattle.laws.specs.Answers.{after}
use Rattle.laws.specs.Lists.{In}
use Rattle.laws.proofs.Answers.{passed, follows}
use Rattle.laws.proofs.First.{each, none_is}
use Rattle.laws.proofs.Lists.{in_gather, count_same}
use Rattle.std.proofs.Common.{Ok}
use Rattle.laws.specs.Faults.{passes}
use Rattle.pack.specs.Answer.{Reading, refuse}
use Rattle.pack.specs.Header.{counts_of, header_of}
use Rattle.pack.specs.Rows.{expression_row, root_row}
use Rattle.pack.specs.Named.{kids_of}
use Rattle.pack.specs.declared.counts.Counts.{Counts}
use Rattle.pack.proofs.HeaderLaws.{Headed, header_passed, pack_same}
use Rattle.rows.specs.Tables.{rows_of}
use Rattle.rows.proofs.Promises.{root_inside}
use Rattle.trees.specs.declared.node_test.NodeTest.{NodeTest}
use Rattle.trees.specs.declared.node_test.NodeTest.TheVariants.{UsedOnce, LetStated, Shallow}
use Rattle.trees.specs.Nodes.{bodies_of, stated_of, depth_of, max_depth, node_fits, test_fault, nodes_of}
use Rattle.formed.specs.Formed.{trees_of, body_of, formed_of}
use Rattle.trees.specs.Trees.{Trees}
use Rattle.formed.proofs.Ready.{grown}
use Rattle.trees.proofs.TreeLaws.{uses_split, depth_kid, depth_body}

pub record WellFormed (p : List ℕ) (c : Counts) : Type 0 where
  -- the counts are those of the bytes, within their limits, and the length is exact
  pub headed : Headed p c
  -- no row has a fault
  pub rows_passed : passes (rows_of p c) ≡ true
  -- children have smaller ids, and each expression is used exactly once
  pub trees : Trees p c
  -- each let is a statement of a block
  pub lets : (e : ℕ) → e < c.expressions → (expression_row p c e).kind ≡ 3 → 1 ≤ stated_of p c e
  -- no expression lies deeper than 64
  pub deep : (e : ℕ) → e < c.expressions → depth_of p c e ≤ max_depth
  -- a child lies one deeper than its parent
  pub kid_depth : (e k : ℕ) → e < c.expressions → In k (kids_of p c e) → depth_of p c k ≡ suc (depth_of p c e)
  -- a root's body lies at depth 1
  pub body_depth : (r : ℕ) → r < c.roots → depth_of p c (root_row p c r).body ≡ 1

-- each expression passes a test over all
node_passed : (p : List ℕ) (c : Counts) (test : NodeTest) → passes (nodes_of p c test) ≡ true → (e : ℕ) → e < c.expressions → node_fits p c test e ≡ true
unfolding nodes_of
node_passed p c test t e l = each (node_fits p c test) (λ e. refuse (test_fault test) e 0) (Ok c) passes (λ k f. refl) c.expressions 0 t e (omega arith) l

-- and the answer of such a test is the counts
node_is : (p : List ℕ) (c : Counts) (test : NodeTest) → passes (nodes_of p c test) ≡ true → nodes_of p c test ≡ Ok c
unfolding nodes_of
node_is p c test t = none_is (node_fits p c test) (λ e. refuse (test_fault test) e 0) (Ok c) 0 c.expressions (λ k a l. node_passed p c test t k l)

-- the parts of an answer that passed
parts : (p : List ℕ) (c : Counts) → passes (body_of p c) ≡ true → (passes (rows_of p c) ≡ true) × (passes (nodes_of p c UsedOnce) ≡ true) × (passes (nodes_of p c LetStated) ≡ true) × (passes (nodes_of p c Shallow) ≡ true)
unfolding body_of trees_of
parts p c t =
    let r = passed passes (rows_of p c) (trees_of p c) t in
    let u = passed passes (nodes_of p c UsedOnce) (after passes (nodes_of p c LetStated) (nodes_of p c Shallow)) (ap passes (sym r.1) ∙ t) in
    let l = passed passes (nodes_of p c LetStated) (nodes_of p c Shallow) (ap passes (sym u.1) ∙ ap passes (sym r.1) ∙ t) in
    (r.0, u.0, l.0, ap passes (sym l.1) ∙ ap passes (sym u.1) ∙ ap passes (sym r.1) ∙ t)

body_is : (p : List ℕ) (c : Counts) → passes (body_of p c) ≡ true → body_of p c ≡ Ok c
unfolding body_of trees_of
body_is p c t =
    let q = parts p c t in
    sym (follows passes (rows_of p c) (trees_of p c) q.0 refl)
    ∙ sym (follows passes (nodes_of p c UsedOnce) (after passes (nodes_of p c LetStated) (nodes_of p c Shallow)) q.1 refl)
    ∙ sym (follows passes (nodes_of p c LetStated) (nodes_of p c Shallow) q.2 refl)
    ∙ node_is p c Shallow q.3

let_stated_lem : (p : List ℕ) (c : Counts) (e : ℕ) → node_fits p c LetStated e ≡ true → (expression_row p c e).kind ≡ 3 → 1 ≤ stated_of p c e
unfolding node_fits pick
let_stated_lem p c e t k = leb-true 1 (stated_of p c e) (rw (eq-eqb (expression_row p c e).kind 3 k) at t)

not_deep : (p : List ℕ) (c : Counts) (e : ℕ) → node_fits p c Shallow e ≡ true → depth_of p c e ≤ max_depth
unfolding node_fits
not_deep p c e t = leb-true (depth_of p c e) max_depth t

body_named : (p : List ℕ) (c : Counts) (r : ℕ) → r < c.roots → In (root_row p c r).body (bodies_of p c)
unfolding bodies_of
body_named p c r l =
    in_gather (root_row p c r).body (λ k. (root_row p c k).body ∷ []) 0 r c.roots (omega arith) (omega arith)
    (omega (arith, count_same (root_row p c r).body (root_row p c r).body [] refl))

-- a pack that was not refused is well-formed, with the counts that the answer has
pub well_formed : (p : List ℕ) (c : Counts) → formed_of p ≡ Ok c → WellFormed p c
unfolding formed_of
well_formed p c e =
    record {
      headed = h;
      rows_passed = q.0;
      trees = t;
      lets = λ i l k. let_stated_lem p c i (node_passed p c LetStated q.2 i l) k;
      deep = λ i l. not_deep p c i (node_passed p c Shallow q.3 i l);
      kid_depth = λ i k l m. depth_kid p c t k i (omega (arith, t.smaller i k l m)) l m;
      body_depth =
          λ r l.
          let b = (root_inside p c q.0 r l).body in
          depth_body p c t (root_row p c r).body b (omega (arith, t.once (root_row p c r).body b, uses_split p c (root_row p c r).body, body_named p c r l));
    }
  where
    -- the header passed, and so did what follows it
    a : (passes (header_of p) ≡ true) × (after passes (header_of p) (body_of p (counts_of p)) ≡ body_of p (counts_of p))
    a = passed passes (header_of p) (body_of p (counts_of p)) (ap passes e)

    b : passes (body_of p (counts_of p)) ≡ true
    b = ap passes (sym a.1 ∙ e)

    -- so the counts are the header's
    same : counts_of p ≡ c
    same = pack_same (sym (body_is p (counts_of p) b) ∙ sym a.1 ∙ e)

    h : Headed p c
    h = rw same at (header_passed p a.0).1

    q : (passes (rows_of p c) ≡ true) × (passes (nodes_of p c UsedOnce) ≡ true) × (passes (nodes_of p c LetStated) ≡ true) × (passes (nodes_of p c Shallow) ≡ true)
    q = parts p c (rw same at b)

    t : Trees p c
    t = grown p c q.0 q.1

-- past the header the answer is that of the rows and trees (5 and 6 are asked between the two)
pub after_header : (p : List ℕ) (c : Counts) → header_of p ≡ Ok c → formed_of p ≡ body_of p c
unfolding formed_of
after_header p c e =
    let h = header_passed p (ap passes e) in
    sym (follows passes (header_of p) (body_of p (counts_of p)) (ap passes e) refl) ∙ ap (body_of p) (pack_same (sym h.0 ∙ e))

-- two answers that meet the contract of `formed` are equal
pub formed_unique : (p : List ℕ) (a b : Reading) → a ≡ formed_of p → b ≡ formed_of p → a ≡ b
formed_unique p a b s t = s ∙ sym t
