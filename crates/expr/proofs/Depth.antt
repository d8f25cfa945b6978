-- In plain words: on a well-formed pack the checker never runs out of depth. "13: depth over 64" and "15: let that isn't a block statement"
-- are refusals of the pack's form; module 4 itself gives neither, since no expression lies deeper than 64 and each let is a statement.
--     Enough          an expression of the pack, with more levels left than may lie below it: 64 at a root's body
--     Plain           and no let: what the checker is called for
--     never_deep      the checker is never refused by 13
--     never_stray     nor by 15
--     same_depth      and with more depth left its answer is the same, whole state included
--     root_plain      64 levels are enough for a root's body, which is no let
-- Assumes nothing.
use mathlib.Core.Path.{◌≡◌, refl, ap, subst, ◌∙◌}
use mathlib.Core.Logic.{◌⊎◌, ⊎_elim}
use mathlib.Core.List.{List, []}
use Prim.Native.Nat.{ℕ, zero, suc, ◌+◌, ◌≤◌, ◌<◌}
use native.Mathlib.Omega.{arith}
use Rattle.laws.specs.Lists.{In}
use Rattle.laws.proofs.Members.{in_self}
use Rattle.pack.specs.Rows.{expression_row, root_row}
use Rattle.pack.specs.Named.{statements_of, operands_of, kids_of}
use Rattle.laws.specs.Faults.{number_of}
use Rattle.laws.specs.declared.refusal.Refusal.{Refusal}
use Rattle.rows.proofs.Promises.{root_inside}
use Rattle.trees.specs.Nodes.{depth_of, max_depth}
use Rattle.trees.proofs.TreeLaws.{stated_body}
use Rattle.formed.proofs.Promises.{WellFormed}
use Rattle.expr.specs.State.{Env, State, Ans, cont, ◌then◌, Step}
use Rattle.expr.specs.Rules.{expr_rule}
use Rattle.expr.specs.declared.answer.Outcome.{Outcome}
use Rattle.expr.proofs.Numbers.{least}
use Rattle.expr.proofs.Walk.{Laws, Each, Runs, Statements}
use Rattle.expr.proofs.Walks.{node_holds}
use Rattle.expr.proofs.Nodes.{each_in, statement_kid, operand_kid, kid_inside, operand_plain, let_value, kind_known_lem, body_free}
use Rattle.std.proofs.Common.{Ok, Err}

-- ---- what an answer says

-- a step that is not refused by that number
abbrev pub NotBy : ℕ → Step → Type 0
NotBy number (Ok o) = Unit {0}
NotBy number (Err f) = number_of f.fault ≡ number → ⊥

pub record Avoids (number n : ℕ) (w : List ℕ) (a b : Ans) : Type 0 where
  pub avoids : NotBy number a.step

-- nothing is counted
abbrev pub nothing : ℕ → ℕ
nothing id = 0

avoids_then : {number n m : ℕ} {w : List ℕ} {a b : Ans} {j k : Outcome → State → Ans} → Avoids number n w a b → ((o : Outcome) (s : State) → Avoids number m s.notes (j o s) (k o s))
    → Avoids number (n + m) w (a then j) (b then k)
unfolding ◌then◌
avoids_then {number = number} {a = a} {j = j} h f = record { avoids = go a.step h.avoids }
  where
    go : (r : Step) → NotBy number r → NotBy number (cont r a.st j).step
    go (Ok o) h = (f o a.st).avoids
    go (Err e) h = h

-- no rule refuses by a number below 20 by itself
avoids_laws : (number : ℕ) → number < least → Laws (Avoids number) nothing
avoids_laws number l = record {
  counts = λ f g h. record { avoids = h.avoids };
  ends = λ o s. record { avoids = tt };
  refuses = λ f s h. record { avoids = λ q. omega (arith, l, h, q) };
  thens = λ h f. avoids_then h f;
  notes = λ id x h. record { avoids = h.avoids };
  seals = λ id d call h. record { avoids = h.avoids };
}

-- one answer is the other
pub record Alike (n : ℕ) (w : List ℕ) (a b : Ans) : Type 0 where
  pub same : a ≡ b

alike_then : {n m : ℕ} {w : List ℕ} {a b : Ans} {j k : Outcome → State → Ans} → Alike n w a b → ((o : Outcome) (s : State) → Alike m s.notes (j o s) (k o s)) → Alike (n + m) w (a then j) (b then k)
unfolding ◌then◌
alike_then {b = b} {j = j} {k = k} h f = record { same = ap (λ (a : Ans). cont a.step a.st j) h.same ∙ go b.step }
  where
    go : (r : Step) → cont r b.st j ≡ cont r b.st k
    go (Ok o) = (f o b.st).same
    go (Err e) = refl

alike_laws : Laws Alike nothing
alike_laws = record {
  counts = λ f g h. record { same = h.same };
  ends = λ o s. record { same = refl };
  refuses = λ f s h. record { same = refl };
  thens = λ h f. alike_then h f;
  notes = λ id x h. record { same = h.same };
  seals = λ id d call h. record { same = h.same };
}

-- ---- depth

module _ (e : Env) (f : WellFormed e.p e.c) where
  -- an expression with enough levels left
  pub record Enough (left id : ℕ) : Type 0 where
    pub inside : id < e.c.expressions
    pub enough : max_depth < depth_of e.p e.c id + left

  -- and no let: a part that is no statement
  pub record Plain (left id : ℕ) : Type 0 where
    pub enough : Enough left id
    pub plain : (expression_row e.p e.c id).kind ≡ 3 → ⊥

  -- some are left, since no expression lies deeper than 64
  left_some : {id : ℕ} → Enough 0 id → ⊥
  left_some {id = id} h = omega (arith, h.enough, f.deep id h.inside)

  kid_enough : {left id : ℕ} → Enough (suc left) id → (k : ℕ) → In k (kids_of e.p e.c id) → Enough left k
  kid_enough {id = id} h k m =
      record { inside = kid_inside e.p e.c f id h.inside k m; enough = omega (arith, h.enough, f.kid_depth id k h.inside m) }

  operand_enough : {left id : ℕ} → Enough (suc left) id → (k : ℕ) → In k (operands_of e.p e.c id) → Enough left k
  operand_enough {id = id} h k m = kid_enough h k (operand_kid e.p e.c f id h.inside k m)

  operand_fine : {left id : ℕ} → Enough (suc left) id → (k : ℕ) → In k (operands_of e.p e.c id) → Plain left k
  operand_fine {id = id} h k m = record { enough = operand_enough h k m; plain = operand_plain e.p e.c f id h.inside k m }

  -- a let's value lies below the let, and has as many levels left as the let itself
  value_of : {left id : ℕ} → Enough left id → (expression_row e.p e.c id).kind ≡ 3
      → Enough (suc left) id × In (expression_row e.p e.c id).b (operands_of e.p e.c id)
  value_of {id = id} h q =
      let v = (expression_row e.p e.c id).b in
      (record { inside = h.inside; enough = omega (arith, h.enough) }, rw (let_value e.p e.c f id h.inside q) (in_self v []))

  statements : (left : ℕ) → Statements e nothing nothing (Enough left) (Enough left)
  statements left = record { value = λ id q h. let v = value_of h q in (refl, operand_enough v.0 _ v.1); other = λ id q h. h }

  plain_statements : (left : ℕ) → Statements e nothing nothing (Plain left) (Enough left)
  plain_statements left = record { value = λ id q h. let v = value_of h q in (refl, operand_fine v.0 _ v.1); other = λ id q h. record { enough = h; plain = q } }

  module _ {left id : ℕ} (h : Enough (suc left) id) where
    stated_kids : Each (Enough left) (statements_of e.p e.c id)
    stated_kids = each_in (Enough left) (statements_of e.p e.c id) (λ k m. kid_enough h k (statement_kid e.p e.c f id h.inside k m))

    other_kids : Each (Enough left) (operands_of e.p e.c id)
    other_kids = each_in (Enough left) (operands_of e.p e.c id) (operand_enough h)

    plain_kids : Each (Plain left) (operands_of e.p e.c id)
    plain_kids = each_in (Plain left) (operands_of e.p e.c id) (operand_fine h)

  no_stray : {left id : ℕ} → Plain left id → ((expression_row e.p e.c id).kind ≡ 3) ⊎ (9 ≤ (expression_row e.p e.c id).kind) → ⊥
  no_stray {id = id} h s = ⊎_elim (λ q. h.plain q) (λ q. omega (arith, q, kind_known_lem e.p e.c f id h.enough.inside)) s

  -- ---- the checker

  -- never 13
  expr_deep : (left : ℕ) → Runs (Avoids 13) nothing (Enough left) (expr_rule left e) (expr_rule left e)
  unfolding expr_rule
  expr_deep zero = record { holds = λ id want vars s h. absurd (left_some h) }
  expr_deep (suc left) = record {
    holds =
        λ id want vars s h.
        record {
          avoids = (node_holds (avoids_laws 13 (omega arith)) e nothing (Enough left) (Enough left) (statements left) _ _ (expr_deep left) id want vars s (stated_kids h) (other_kids h)
              (λ m t q. record { avoids = λ q. omega (arith, q) })).avoids;
        };
  }

  -- never 15
  expr_stray : (left : ℕ) → Runs (Avoids 15) nothing (Plain left) (expr_rule left e) (expr_rule left e)
  unfolding expr_rule
  expr_stray zero = record { holds = λ id want vars s h. absurd (left_some h.enough) }
  expr_stray (suc left) = record {
    holds =
        λ id want vars s h.
        record {
          avoids = (node_holds (avoids_laws 15 (omega arith)) e nothing (Plain left) (Enough left) (plain_statements left) _ _ (expr_stray left) id want vars s (stated_kids h.enough) (plain_kids h.enough)
              (λ m t q. absurd (no_stray h q))).avoids;
        };
  }

  -- more depth changes nothing
  expr_alike : (left more : ℕ) → left ≤ more → Runs Alike nothing (Enough left) (expr_rule more e) (expr_rule left e)
  unfolding expr_rule
  expr_alike zero more l = record { holds = λ id want vars s h. absurd (left_some h) }
  expr_alike (suc left) zero l = absurd (omega (arith, l))
  expr_alike (suc left) (suc more) l = record {
    holds =
        λ id want vars s h.
        record {
          same = (node_holds alike_laws e nothing (Enough left) (Enough left) (statements left) _ _ (expr_alike left more (omega (arith, l))) id want vars s (stated_kids h) (other_kids h)
              (λ m t q. record { same = refl })).same;
        };
  }

  -- ---- as it is used

  module _ (left id want vars : ℕ) (s : State) where
    pub never_deep : Enough left id → (r : Refusal) → (expr_rule left e id want vars s).step ≡ Err r → number_of r.fault ≡ 13 → ⊥
    never_deep h r q = let k : NotBy 13 (Err r) = subst (NotBy 13) q ((expr_deep left).holds id want vars s h).avoids in k

    pub never_stray : Plain left id → (r : Refusal) → (expr_rule left e id want vars s).step ≡ Err r → number_of r.fault ≡ 15 → ⊥
    never_stray h r q = let k : NotBy 15 (Err r) = subst (NotBy 15) q ((expr_stray left).holds id want vars s h).avoids in k

    pub same_depth : (more : ℕ) → Enough left id → expr_rule (left + more) e id want vars s ≡ expr_rule left e id want vars s
    same_depth more h = ((expr_alike left (left + more) (omega arith)).holds id want vars s h).same

  -- 64 levels are enough for a root's body, which is no let
  pub root_plain : (r : ℕ) → r < e.c.roots → Plain max_depth (root_row e.p e.c r).body
  root_plain r l =
      let body = (root_row e.p e.c r).body in
      let b = (root_inside e.p e.c f.rows_passed r l).body in
      record {
        enough = record { inside = b; enough = omega (arith, f.body_depth r l) };
        plain = λ q. omega (arith, f.lets body b q, stated_body e.p e.c f.trees body (body_free e.p e.c f r l));
      }
