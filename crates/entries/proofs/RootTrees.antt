-- In plain words: which bytes the report of a root changes, and which numbers its refusal never has, told by the root's tree of nodes: the
-- nodes from its body down (`tree_of` of module 4), each of them once.
--     Way              the two ways of a root: refused before its body (35, 34), or its body's answer, from notes where nothing is seen
--     root_words       after a report each node of the tree has its word, and every other byte is as it was
--     root_avoids      module 4 never refuses a root of a well-formed pack by 13 or by 15
-- Assumes nothing.
use Prim.Native.Nat.{ℕ, ◌+◌, ◌*◌, ◌/◌, ◌≤◌, ◌<◌}
use mathlib.Core.Path.{◌≡◌, refl, sym, ap, subst, ◌∙◌}
use mathlib.Core.Bool.{Bool, true, false}
use mathlib.Core.List.{List}
use native.Mathlib.Omega.{arith}
use lib.ListN.{length, get_or}
use Rattle.laws.specs.Choice.{pick, letting}
use Rattle.laws.specs.Bounded.{get}
use Rattle.laws.specs.Lists.{count, In}
use Rattle.laws.proofs.Choice.{by_eq}
use Rattle.pack.specs.Rows.{root_row}
use Rattle.pack.specs.declared.counts.Counts.{Counts}
use Rattle.laws.specs.Faults.{number_of}
use Rattle.laws.specs.declared.refusal.Refusal.{Refusal}
use Rattle.rows.proofs.Promises.{root_inside}
use Rattle.trees.specs.Nodes.{max_depth}
use Rattle.formed.proofs.Promises.{WellFormed}
use Rattle.words.specs.Notes.{nodes}
use Rattle.words.specs.Words.{word_byte, word_of, words_area}
use Rattle.expr.specs.State.{Env, env, State, Ans, Step}
use Rattle.expr.specs.Rules.{expr_rule}
use Rattle.expr.specs.Root.{start, root_rule, checked_as, written, root_answer_in, root_area_in}
use Rattle.report.specs.Visits.{tree_of}
use Rattle.expr.specs.declared.answer.Outcome.{Outcome}
use Rattle.expr.proofs.Reports.{report_there, report_else}
use Rattle.expr.proofs.Depth.{NotBy, never_deep, never_stray, root_plain}
use Rattle.entries.proofs.RootAreas.{no_report, one_number}
use Rattle.std.proofs.Common.{Ok, Err}

-- the nodes of a root: those from its body down
abbrev pub root_tree : List ℕ → Counts → ℕ → List ℕ
root_tree p c root = tree_of max_depth p c (root_row p c root).body

-- ---- the ways of a root

data Way (p : List ℕ) (c : Counts) (same marks : List ℕ) (body : ℕ) (a : Ans) : Type 0 where
  stops : (f : Refusal) → a.step ≡ Err f → 16 ≤ (number_of f.fault) → Way p c same marks body a
  goes : (ret : ℕ) (slots : List ℕ) → a ≡ expr_rule max_depth (env p c same marks ret) body ret 0 (start slots) → Way p c same marks body a

module _ (p : List ℕ) (c : Counts) (same marks : List ℕ) (body : ℕ) where
  way_pick : (b : Bool) (x y : Ans) → Way p c same marks body x → Way p c same marks body y → Way p c same marks body (pick b x y)
  unfolding pick
  way_pick true x y g h = g
  way_pick false x y g h = h

  way_letting : {A : Type 0} (a : A) (k : A → Ans) → Way p c same marks body (k a) → Way p c same marks body (letting a k)
  unfolding letting
  way_letting a k g = g

root_way : (p : List ℕ) (c : Counts) (same marks : List ℕ) (root : ℕ) → Way p c same marks (root_row p c root).body (root_rule p c same marks root)
unfolding root_rule
root_way p c same marks root =
    way_letting p c same marks (root_row p c root).body _ _
    (way_pick p c same marks (root_row p c root).body _ _ _
    (stops _ refl (omega arith))
    (way_letting p c same marks (root_row p c root).body _ _
    (way_letting p c same marks (root_row p c root).body _ _
    (way_pick p c same marks (root_row p c root).body _ _ _ (goes _ _ refl) (stops _ refl (omega arith))))))

-- ---- what a report writes

-- The area after a report, by the cells and the notes that the answer leaves.
pub record Words (p : List ℕ) (c : Counts) (root : ℕ) (s : State) (area after : List ℕ) : Type 0 where
  -- the four bytes of each node of the tree are its word's
  pub there : (id j : ℕ) → In id (root_tree p c root) → j < 4 → get_or after (4 * id + j) 0 ≡ word_byte (word_of s.cells (get nodes s.notes id)) j
  -- every other byte is as it was
  pub others : (b : ℕ) → (In (b / 4) (root_tree p c root) → ⊥) → get_or after b 0 ≡ get_or area b 0

-- a step that was accepted
accepted : (t : Step) → checked_as t ≡ Ok tt → (o : Outcome) × (t ≡ Ok o)
accepted (Ok o) e = (o, refl)
accepted (Err f) e = absurd (no_report e)

-- a step that was refused
refused_by : (number : ℕ) (t : Step) (r : Refusal) → checked_as t ≡ Err r → NotBy number t → (number_of r.fault) ≡ number → ⊥
refused_by number (Ok o) r e h q = no_report (sym e)
refused_by number (Err f) r e h q = h (one_number e ∙ q)

module _ (p : List ℕ) (c : Counts) (f : WellFormed p c) (same marks : List ℕ) (root : ℕ) (l : root < c.roots) where
  abbrev body : ℕ
  body = (root_row p c root).body

  inside : body < c.expressions
  inside = (root_inside p c f.rows_passed root l).body

  module _ (area : List ℕ) (long : 4 * c.expressions ≤ length area) where
    abbrev Wrote : Ans → Type 0
    Wrote a = Words p c root a.st area (words_area a.st.cells a.st.notes c.expressions area)

    way_words : (a : Ans) (o : Outcome) → a.step ≡ Ok o → Way p c same marks body a → Wrote a
    way_words a o d (stops r e n) = absurd (no_report (ap checked_as (sym e ∙ d)))
    way_words a o d (goes ret slots q) =
        let k : Env = env p c same marks ret in
        let h : (expr_rule max_depth k body ret 0 (start slots)).step ≡ Ok o = ap (λ (z : Ans). z.step) (sym q) ∙ d in
        subst Wrote (sym q)
        (record {
          there = λ id j i m. report_there k f max_depth body ret 0 (start slots) inside refl h area id j i m long;
          others = λ b n. report_else k f max_depth body ret 0 (start slots) inside refl h area b (by_eq (count (b / 4) (root_tree p c root)) 0 (λ z. z) (λ z. absurd (n (omega (arith, z)))));
        })

    pub root_words : root_answer_in p c same marks root ≡ Ok tt → Words p c root (root_rule p c same marks root).st area (root_area_in p c same marks root area)
    unfolding root_answer_in root_area_in
    root_words e =
        let a = root_rule p c same marks root in
        let d = accepted a.step e in
        subst (Words p c root a.st area) (sym (ap (λ (t : Step). written c t a.st area) d.1)) (way_words a d.0 d.1 (root_way p c same marks root))

  -- ---- the numbers that a refusal never has

  not_by : (number : ℕ) (t : Step) → ((r : Refusal) → t ≡ Err r → (number_of r.fault) ≡ number → ⊥) → NotBy number t
  not_by number (Ok o) h = tt
  not_by number (Err r) h = h r refl

  way_avoids : (a : Ans) → Way p c same marks body a → NotBy 13 a.step × NotBy 15 a.step
  way_avoids a (stops r e n) = (subst (NotBy 13) (sym e) (λ q. omega (arith, q, n)), subst (NotBy 15) (sym e) (λ q. omega (arith, q, n)))
  way_avoids a (goes ret slots q) =
      let k : Env = env p c same marks ret in
      let h = root_plain k f root l in
      subst (λ (z : Ans). NotBy 13 z.step × NotBy 15 z.step) (sym q)
      (not_by 13 _ (never_deep k f max_depth body ret 0 (start slots) h.enough), not_by 15 _ (never_stray k f max_depth body ret 0 (start slots) h))

  pub root_avoids : (r : Refusal) → root_answer_in p c same marks root ≡ Err r → ((number_of r.fault) ≡ 13 → ⊥) × ((number_of r.fault) ≡ 15 → ⊥)
  unfolding root_answer_in
  root_avoids r e =
      let h = way_avoids (root_rule p c same marks root) (root_way p c same marks root) in
      (refused_by 13 (root_rule p c same marks root).step r e h.0, refused_by 15 (root_rule p c same marks root).step r e h.1)
