-- In plain words: what the report of an accepted tree writes, from notes where nothing is seen: at each node of the tree its word, and
-- nothing else. "A root's report writes 4 bytes at 4·id for each node of that root".
--     seen_exactly     a node is seen exactly if it stands in the tree
--     report_there     the four bytes of each node of the tree are its word's
--     report_else      every other byte is as it was
--     tree_area, tree_notes    written along the tree: the same area, and no note is left
-- Assumes nothing.
use mathlib.Core.Path.{◌≡◌, sym, ap, ◌∙◌}
use mathlib.Core.List.{List}
use mathlib.Core.Bool.{true, false}
use Prim.Native.Nat.{ℕ, ◌+◌, ◌*◌, ◌/◌, ◌≤◌, ◌<◌}
use native.Mathlib.Omega.{arith}
use lib.ListN.{length, get_or, replicate, length-replicate}
use Rattle.laws.specs.Bounded.{get}
use Rattle.laws.specs.Lists.{count, In}
use Rattle.laws.proofs.Choice.{fails}
use Rattle.laws.proofs.Members.{by_le}
use Rattle.unionfind.specs.Cells.{Knows, Live}
use Rattle.structure.proofs.Arrays.{zeros_get}
use Rattle.trees.specs.Nodes.{max_depth}
use Rattle.formed.proofs.Promises.{WellFormed}
use Rattle.words.specs.Notes.{nodes, code_noted, is_seen}
use Rattle.words.specs.Words.{word_byte, word_of, words_area}
use Rattle.words.proofs.Noting.{nothing_seen}
use Rattle.words.proofs.Promises.{word_there, word_else}
use Rattle.expr.specs.State.{Env, State, Ans}
use Rattle.expr.specs.Rules.{expr_rule}
use Rattle.report.specs.Visits.{tree_of}
use Rattle.report.specs.Report.{Report, rep, write_all}
use Rattle.report.proofs.Whole.{words_area_lem, notes_blank}
use Rattle.expr.specs.declared.answer.Outcome.{Outcome}
use Rattle.expr.proofs.Trees.{tree_below, tree_once}
use Rattle.expr.proofs.Visits.{untouched, all_seen, notes_long}
use Rattle.std.proofs.Common.{Ok}

module _ (e : Env) (f : WellFormed e.p e.c) (left id want vars : ℕ) (s : State) (l : id < e.c.expressions) (new : s.notes ≡ replicate nodes 0) where
  abbrev tree : List ℕ
  tree = tree_of max_depth e.p e.c id

  abbrev answer : Ans
  answer = expr_rule left e id want vars s

  -- whatever the answer
  unseen_else : (y : ℕ) → count y tree ≡ 0 → is_seen (get nodes answer.st.notes y) ≡ false
  unseen_else y z = ap is_seen (untouched e f y left id want vars s l z) ∙ rw new (nothing_seen y)

  module _ {o : Outcome} (d : answer.step ≡ Ok o) where
    seen_there : (y : ℕ) → In y tree → is_seen (get nodes answer.st.notes y) ≡ true
    seen_there y i = all_seen e f y left id want vars s l (rw new (length-replicate {A = ℕ} nodes 0)) d i

    pub seen_exactly : (y : ℕ) → (In y tree → is_seen (get nodes answer.st.notes y) ≡ true) × (count y tree ≡ 0 → is_seen (get nodes answer.st.notes y) ≡ false)
    seen_exactly y = (seen_there y, unseen_else y)

    -- written along the tree: the area is that of the report, and no note is left
    module _ {n : ℕ} (live : Live n answer.st.cells) (known : (i : ℕ) → Knows n (code_noted (get nodes answer.st.notes i))) (area : List ℕ) (long : 4 * e.c.expressions ≤ length area) where
      below_top : (y : ℕ) → In y tree → y < e.c.expressions
      below_top y i = by_le y id (λ u. omega (arith, u, l)) (λ u. absurd (omega (arith, i, tree_below e.p e.c f max_depth y id l u)))

      abbrev walked : Report
      walked = write_all tree (rep answer.st.cells answer.st.notes area)

      pub tree_area : walked.area ≡ words_area answer.st.cells answer.st.notes e.c.expressions area
      tree_area =
          words_area_lem live answer.st.notes known tree area e.c.expressions (λ y. tree_once e.p e.c f max_depth y id l) seen_there
          (λ y t. by_le 1 (count y tree) (λ i. i) (λ o. absurd (fails (sym t ∙ unseen_else y (omega (arith, o))))))
          below_top long

      pub tree_notes : walked.notes ≡ replicate nodes 0
      tree_notes =
          notes_blank tree (rep answer.st.cells answer.st.notes area) (λ y i. omega (arith, long, below_top y i))
          (notes_long e f left id want vars s l (rw new (length-replicate {A = ℕ} nodes 0)))
          (λ y z. untouched e f y left id want vars s l z ∙ rw new (zeros_get nodes y))

    module _ (area : List ℕ) where
      abbrev after : List ℕ
      after = words_area answer.st.cells answer.st.notes e.c.expressions area

      pub report_there : (y j : ℕ) → In y tree → j < 4 → 4 * e.c.expressions ≤ length area → get_or after (4 * y + j) 0 ≡ word_byte (word_of answer.st.cells (get nodes answer.st.notes y)) j
      report_there y j i h long = word_there answer.st.cells answer.st.notes e.c.expressions area y j below (seen_there y i) h long
        where
          below : y < e.c.expressions
          below = by_le y id (λ u. omega (arith, u, l)) (λ u. absurd (omega (arith, i, tree_below e.p e.c f max_depth y id l u)))

      pub report_else : (b : ℕ) → count (b / 4) tree ≡ 0 → get_or after b 0 ≡ get_or area b 0
      report_else b z = word_else answer.st.cells answer.st.notes e.c.expressions area b (λ u. unseen_else (b / 4) z)
