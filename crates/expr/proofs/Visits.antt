-- In plain words: on a well-formed pack the checker of a node notes the nodes of its tree and no others, and where it accepts it has noted
-- all of them. So after a root that was accepted the seen notes are exactly those of the root's tree, each met once (Trees, `tree_once`).
--     Visits          what an answer says of one node y: n is 0 where y is not met
--     expr_visits     the checker, whatever depth is left
--     untouched       a note outside the tree is as it was, whatever the answer
--     all_seen        an accepted tree is seen, node by node
--     never_unseen    what was seen stays seen
-- Assumes nothing.
use mathlib.Core.Path.{◌≡◌, refl, sym, ap, subst, ◌∙◌}
use mathlib.Core.List.{List, []}
use mathlib.Core.Bool.{Bool, true, false}
use Prim.Native.Nat.{ℕ, zero, suc, ◌+◌, ◌<◌}
use native.Mathlib.Omega.{arith}
use lib.Dec.{eqb}
use lib.ListN.{length}
use borrow.Author.Tests.{ne_eqb}
use Rattle.laws.specs.Bounded.{get, put}
use Rattle.laws.specs.Lists.{bit, count, In}
use Rattle.laws.proofs.Bounded.{put_length, get_same, get_other}
use Rattle.laws.proofs.Choice.{by_eq}
use Rattle.laws.proofs.Lists.{count_same}
use Rattle.laws.proofs.Members.{in_self, by_le}
use Rattle.pack.specs.Rows.{expression_row}
use Rattle.pack.specs.Named.{statements_of, operands_of}
use Rattle.pack.proofs.CountLaws.{limited}
use Rattle.trees.specs.Nodes.{max_depth}
use Rattle.formed.proofs.Promises.{WellFormed}
use Rattle.words.specs.Notes.{nodes, note_of, code_noted, is_seen}
use Rattle.words.proofs.Noting.{seen_noted}
use Rattle.laws.specs.declared.fault.Fault.{Fault}
use Rattle.laws.specs.declared.fault.Fault.TheVariants.{TooDeep, StrayLet}
use Rattle.expr.specs.State.{Env, State, Ans, cont, ◌then◌, refuse, Step}
use Rattle.expr.specs.Rules.{recorded, sealed, expr_rule}
use Rattle.report.specs.Visits.{sum, tree_of}
use Rattle.expr.specs.declared.answer.Outcome.{Outcome}
use Rattle.expr.proofs.Walk.{Laws, Runs, Statements}
use Rattle.expr.proofs.Walks.{node_holds}
use Rattle.expr.proofs.Nodes.{each_in, statement_kid, operand_kid, kid_inside, let_kids}
use Rattle.expr.proofs.Trees.{tree_at, tree_below}
use Rattle.std.proofs.Common.{Ok, Err}

-- ---- one node

abbrev Accepted : Step → Type 0
Accepted (Ok o) = Unit {0}
Accepted (Err f) = ⊥

-- y is seen in the notes
abbrev pub SeenIn : ℕ → List ℕ → Type 0
SeenIn y w = is_seen (get nodes w y) ≡ true

-- y is a node, and the notes have room for all
pub record Room (y : ℕ) (w : List ℕ) : Type 0 where
  pub node : y < nodes
  pub long : length w ≡ nodes

pub record Visits (y n : ℕ) (w : List ℕ) (a b : Ans) : Type 0 where
  -- the notes have room as before
  pub room : Room y w → Room y a.st.notes
  -- where y is not met its note is as it was
  pub away : n ≡ 0 → get nodes a.st.notes y ≡ get nodes w y
  -- y is not unseen
  pub keeps : Room y w → SeenIn y w → SeenIn y a.st.notes
  -- where y is met and the answer accepted, y is seen
  pub sees : Room y w → (n ≡ 0 → ⊥) → Accepted a.step → SeenIn y a.st.notes

module _ (y : ℕ) where
  -- a node counts as itself
  abbrev pub itself : ℕ → ℕ
  itself id = bit (eqb y id)

  visits_then : {n m : ℕ} {w : List ℕ} {a b : Ans} {j k : Outcome → State → Ans} → Visits y n w a b → ((o : Outcome) (s : State) → Visits y m s.notes (j o s) (k o s)) → Visits y (n + m) w (a then j) (b then k)
  unfolding ◌then◌
  visits_then {n = n} {m = m} {w = w} {a = a} {b = b} {j = j} {k = k} h f = go a.step h.sees
    where
      go : (r : Step) → (Room y w → (n ≡ 0 → ⊥) → Accepted r → SeenIn y a.st.notes) → Visits y (n + m) w (cont r a.st j) (cont b.step b.st k)
      go (Ok o) g =
          let q = f o a.st in
          record {
            room = λ x. q.room (h.room x);
            away = λ z. q.away (omega (arith, z)) ∙ h.away (omega (arith, z));
            keeps = λ x t. q.keeps (h.room x) (h.keeps x t);
            sees = λ x z d. by_eq n 0 (λ e. q.sees (h.room x) (λ v. z (omega (arith, e, v))) d) (λ v. q.keeps (h.room x) (g x v tt));
          }
      go (Err e) g = record { room = h.room; away = λ z. h.away (omega (arith, z)); keeps = h.keeps; sees = λ x z d. absurd d }

  -- a note that is stored at id
  stored_room : (w : List ℕ) (id v : ℕ) → Room y w → Room y (put nodes w id v)
  stored_room w id v x = record { node = x.node; long = put_length nodes w id v ∙ x.long }

  stored_seen : (w : List ℕ) (id v : ℕ) → is_seen v ≡ true → Room y w → y ≡ id → SeenIn y (put nodes w id v)
  stored_seen w id v t x e = subst (λ (i : ℕ). SeenIn y (put nodes w i v)) e (rw (get_same nodes w y v x.long x.node) t)

  stored : {n : ℕ} {w : List ℕ} {a b : Ans} (id v : ℕ) → is_seen v ≡ true → Visits y n (put nodes w id v) a b → Visits y (itself id + n) w a b
  stored {n = n} {w = w} id v t h = record {
    room = λ x. h.room (stored_room w id v x);
    away = λ z. h.away (omega (arith, z)) ∙ get_other nodes w id v y (λ e. omega (arith, z, count_same y id [] e));
    keeps = λ x s. h.keeps (stored_room w id v x) (by_eq y id (stored_seen w id v t x) (λ o. rw (get_other nodes w id v y o) s));
    sees =
        λ x z d.
        by_eq n 0
        (λ e. by_eq y id (λ q. h.keeps (stored_room w id v x) (stored_seen w id v t x q)) (λ o. absurd (z (rw (ne_eqb y id o) (omega (arith, e))))))
        (λ o. h.sees (stored_room w id v x) o d);
  }

  visits_notes : {n : ℕ} {w : List ℕ} {a b : Ans} (id x : ℕ) → Visits y n (recorded w id x) a b → Visits y (itself id + n) w a b
  unfolding recorded
  visits_notes id x h = stored id (note_of false 0 x) (seen_noted false 0 x) h

  visits_seals : {n : ℕ} {w : List ℕ} {a b : Ans} (id : ℕ) (d : Bool) (call : ℕ) → Visits y n (sealed w id d call) a b → Visits y (itself id + n) w a b
  unfolding sealed
  visits_seals {w = w} id d call h = stored id _ (seen_noted d call (code_noted (get nodes w id))) h

  visits_laws : Laws (Visits y) itself
  visits_laws = record {
    counts = λ f g h. record { room = h.room; away = λ z. h.away (g z); keeps = h.keeps; sees = λ x z d. h.sees x (λ e. z (f e)) d };
    ends = λ o s. record { room = λ x. x; away = λ z. refl; keeps = λ x t. t; sees = λ x z d. absurd (z refl) };
    refuses = λ f s h. record { room = λ x. x; away = λ z. refl; keeps = λ x t. t; sees = λ x z d. absurd d };
    thens = λ h f. visits_then h f;
    notes = visits_notes;
    seals = visits_seals;
  }

  -- refused, where the step began
  refused_visits : {n : ℕ} (fault : Fault) (place : ℕ) (s : State) → Visits y n s.notes (refuse fault place s) (refuse fault place s)
  refused_visits fault place s = record { room = λ x. x; away = λ z. refl; keeps = λ x t. t; sees = λ x z d. absurd d }

-- ---- the checker

module _ (e : Env) (f : WellFormed e.p e.c) (y : ℕ) where
  -- how often y stands in the tree of a node
  abbrev pub times : ℕ → ℕ
  times id = count y (tree_of max_depth e.p e.c id)

  abbrev pub Inside : ℕ → Type 0
  Inside id = id < e.c.expressions

  -- a let is met with its value
  statements : Statements e (itself y) times Inside Inside
  statements = record {
    value =
        λ id q l.
        let v = (expression_row e.p e.c id).b in
        let k = let_kids e.p e.c f id l q in
        (omega (arith, tree_at e.p e.c f y id l, ap (sum times) k), kid_inside e.p e.c f id l v (rw k (in_self v [])));
    other = λ id q l. l;
  }

  pub expr_visits : (left : ℕ) → Runs (Visits y) times Inside (expr_rule left e) (expr_rule left e)
  unfolding expr_rule
  expr_visits zero = record { holds = λ id want vars s l. refused_visits y TooDeep id s }
  expr_visits (suc left) = record {
    holds =
        λ id want vars s l.
        rw (tree_at e.p e.c f y id l)
        (node_holds (visits_laws y) e times Inside Inside statements _ _ (expr_visits left) id want vars s
        (each_in Inside (statements_of e.p e.c id) (λ k m. kid_inside e.p e.c f id l k (statement_kid e.p e.c f id l k m)))
        (each_in Inside (operands_of e.p e.c id) (λ k m. kid_inside e.p e.c f id l k (operand_kid e.p e.c f id l k m)))
        (λ m t q. refused_visits y StrayLet id t));
  }

  -- ---- as it is used

  module _ (left id want vars : ℕ) (s : State) (l : id < e.c.expressions) where
    abbrev answer : Ans
    answer = expr_rule left e id want vars s

    visited : Visits y (times id) s.notes answer answer
    visited = (expr_visits left).holds id want vars s l

    pub untouched : count y (tree_of max_depth e.p e.c id) ≡ 0 → get nodes answer.st.notes y ≡ get nodes s.notes y
    untouched z = visited.away z

    pub never_unseen : y < nodes → length s.notes ≡ nodes → is_seen (get nodes s.notes y) ≡ true → is_seen (get nodes answer.st.notes y) ≡ true
    never_unseen m x t = visited.keeps (record { node = m; long = x }) t

    pub all_seen : {o : Outcome} → length s.notes ≡ nodes → answer.step ≡ Ok o → In y (tree_of max_depth e.p e.c id) → is_seen (get nodes answer.st.notes y) ≡ true
    all_seen x d i = visited.sees (record { node = below; long = x }) (λ z. omega (arith, z, i)) (subst Accepted (sym d) tt)
      where
        below : y < nodes
        below =
            by_le y id (λ u. omega (arith, u, l, (limited e.c f.headed.limits).expressions))
            (λ u. absurd (omega (arith, i, tree_below e.p e.c f max_depth y id l u)))

-- the notes are as many as before
pub notes_long : (e : Env) → WellFormed e.p e.c → (left id want vars : ℕ) (s : State) → id < e.c.expressions → length s.notes ≡ nodes → length (expr_rule left e id want vars s).st.notes ≡ nodes
notes_long e f left id want vars s l x = (((expr_visits e f 0 left).holds id want vars s l).room (record { node = omega arith; long = x })).long
