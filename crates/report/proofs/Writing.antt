-- The steps of the walk that writes the words of a tree: what is left of a node's children leaves what the whole leaves.
--     one_written, one_passed      one node, with room for its word or without
--     TreeLeft                     the children of a node from place k on are left
--     tree_starts, tree_absent, tree_kid, tree_ends     its steps
--     written_length               the area is as long as it was
-- Assumes nothing.
use Prim.Native.Nat.{ℕ, zero, suc, ◌+◌, ◌-◌, ◌*◌, ◌<◌, ◌≤◌}
use mathlib.Core.Path.{◌≡◌, refl, sym, ap, subst, ◌∙◌}
use mathlib.Core.Bool.{Bool, true, false}
use mathlib.Core.List.{List, [], ◌∷◌, ◌++◌}
use native.Mathlib.Numerals.{add-one}
use native.Mathlib.Omega.{arith}
use lib.Dec.{leb}
use lib.ListN.{length, get_or, set}
use borrow.Author.Tests.{le-leb, lt-leb}
use Rattle.laws.specs.Choice.{pick}
use Rattle.laws.specs.Bounded.{get, put}
use Rattle.laws.specs.Lists.{gather}
use Rattle.laws.proofs.Bounded.{get_in, get_out, get_other, put_in, by_bound}
use Rattle.laws.proofs.Choice.{yes, no, by_eq, by_test, fails}
use Rattle.pack.specs.Rows.{expression_row}
use Rattle.pack.specs.declared.counts.Counts.{Counts}
use Rattle.pack.specs.declared.rows.ExpressionRow.{ExpressionRow}
use Rattle.unionfind.specs.Codes.{is_var}
use Rattle.unionfind.specs.Cells.{Knows}
use Rattle.words.specs.Notes.{nodes, code_noted, is_seen}
use Rattle.words.specs.Words.{word_of, NodeWritten}
use Rattle.words.proofs.Writing.{put_length}
use Rattle.report.specs.Kids.{kid_at, kids_room}
use Rattle.report.specs.Visits.{together, tree_of}
use Rattle.report.specs.Report.{Report, rep, noted, write_one, write_all, kids_trees, Held, Wrote}
use Rattle.report.proofs.KidLaws.{kids_placed}

-- ---- lengths

-- a choice keeps a length that both sides have
pick_length : (b : Bool) (xs ys : List ℕ) → length xs ≡ length ys → length (pick b xs ys) ≡ length ys
unfolding pick
pick_length true xs ys e = e
pick_length false xs ys e = refl

noted_length : (id note : ℕ) (s : Report) → length (noted id note s).area ≡ length s.area
noted_length id note s = pick_length (is_seen note) _ s.area (put_length s.area id (word_of s.cells note))

pub node_length : {n : ℕ} {xs : List ℕ} {note id : ℕ} {before ys after : List ℕ} → NodeWritten n xs note id before ys after → length after ≡ length before
node_length {xs = xs} {note = note} {id = id} {before = before} w = ap length w.area ∙ pick_length (is_seen note) _ before (put_length before id (word_of xs note))

pub one_length : (id : ℕ) (s : Report) → length (write_one id s).area ≡ length s.area
unfolding write_one
one_length id s =
    by_test (leb (4 * id + 4) (length s.area))
    (λ t. ap (λ (r : Report). length r.area) (sym (yes _ _ _ t refl)) ∙ noted_length id (get nodes s.notes id) s)
    (λ f. ap (λ (r : Report). length r.area) (sym (no _ _ _ f refl)))

pub written_length : (ids : List ℕ) (s : Report) → length (write_all ids s).area ≡ length s.area
unfolding write_all
written_length [] s = refl
written_length (id ∷ ids) s = written_length ids (write_one id s) ∙ one_length id s

-- ---- one node

-- a note that is cleared is known
zero_known : (n : ℕ) → Knows n (code_noted 0)
unfolding code_noted is_var
zero_known n = record { var = λ e. absurd (fails (sym e)) }

set_zero : (l : List ℕ) (i : ℕ) → get_or (set l i 0) i 0 ≡ 0
set_zero [] i = refl
set_zero (x ∷ xs) zero = refl
set_zero (x ∷ xs) (suc i) = set_zero xs i

pub put_zero : (notes : List ℕ) (id : ℕ) → get nodes (put nodes notes id 0) id ≡ 0
put_zero notes id =
    by_bound nodes notes id
    (λ h. sym (get_in nodes (put nodes notes id 0) id h) ∙ ap (λ (l : List ℕ). get_or l id 0) (sym (put_in nodes notes id 0 h)) ∙ set_zero notes id)
    (λ h. sym (get_out nodes (put nodes notes id 0) id h))

cleared_known : {n : ℕ} (notes : List ℕ) (id : ℕ) → ((i : ℕ) → Knows n (code_noted (get nodes notes i))) → (i : ℕ) → Knows n (code_noted (get nodes (put nodes notes id 0) i))
cleared_known {n = n} notes id k i = by_eq i id (λ e. subst (λ (x : ℕ). Knows n (code_noted x)) (sym (rw e (put_zero notes id))) (zero_known n)) (λ o. subst (λ (x : ℕ). Knows n (code_noted x)) (sym (get_other nodes notes id 0 i o)) (k i))

module _ {n : ℕ} {cells notes : List ℕ} (h : Held n cells notes) (id : ℕ) (area : List ℕ) where
  pub one_written : 4 * id + 4 ≤ length area → {note : ℕ} {cells' notes' area' : List ℕ} → note ≡ get nodes notes id → NodeWritten n cells note id area cells' area' → notes' ≡ put nodes notes id 0
      → Wrote n (write_one id (rep cells notes area)) cells' notes' area'
  unfolding write_one
  one_written l {note} {cells'} {notes'} {area'} e w q = record {
    same = yes _ _ _ (le-leb (4 * id + 4) (length area) l) (rw (← e, w.cells, w.area, q) refl);
    held = record { live = w.live; known = rw q (cleared_known notes id h.known) };
  }

  pub one_passed : length area < 4 * id + 4 → Wrote n (write_one id (rep cells notes area)) cells notes area
  unfolding write_one
  one_passed l = record { same = no _ _ _ (lt-leb (4 * id + 4) (length area) l) refl; held = h }

-- what is written is as long as what was promised
pub wrote_long : {n : ℕ} (ids : List ℕ) (s : Report) {cells notes area : List ℕ} → Wrote n (write_all ids s) cells notes area → length area ≡ length s.area
wrote_long ids s w = ap (λ (r : Report). length r.area) w.same ∙ written_length ids s

-- ---- several nodes

write_append : (xs ys : List ℕ) (s : Report) → write_all (xs ++ ys) s ≡ write_all ys (write_all xs s)
unfolding write_all
write_append [] ys s = refl
write_append (x ∷ xs) ys s = write_append xs ys (write_one x s)

-- the lists from place k on, the first of them apart
gather_first : (f : ℕ → List ℕ) (k n : ℕ) → k < n → gather f k (n - k) ≡ f k ++ gather f (k + 1) (n - (k + 1))
unfolding gather
gather_first f k n h = let e : n - k ≡ suc (n - (k + 1)) = omega arith in rw (e, add-one) refl

gather_none : (f : ℕ → List ℕ) (k n : ℕ) → n ≤ k → gather f k (n - k) ≡ []
unfolding gather
gather_none f k n h = let e : n - k ≡ 0 = omega arith in rw e refl

-- the trees f of the children that lists has from place k on are left
pub record TreeLeft (n : ℕ) (f lists : ℕ → List ℕ) (k room : ℕ) (whole : Report) (cells notes area : List ℕ) : Type 0 where
  pub held : Held n cells notes
  pub says : write_all (together f (gather lists k (room - k))) (rep cells notes area) ≡ whole

module _ (p : List ℕ) (c : Counts) (depth : ℕ) where
  pub tree_starts : (row : ExpressionRow) {n room : ℕ} → room ≡ kids_room p c row → {cells notes : List ℕ} → Held n cells notes → (area : List ℕ)
      → TreeLeft n (tree_of depth p c) (kid_at p c row) 0 room (write_all (kids_trees depth p c row) (rep cells notes area)) cells notes area
  unfolding kids_trees
  tree_starts row {n} {room} q {cells} {notes} h area = let z : room - 0 ≡ room = omega arith in record { held = h; says = rw (z, q) refl }

  tree_opens : (id : ℕ) → (depth ≡ 0 → ⊥) → tree_of depth p c id ≡ id ∷ kids_trees (depth - 1) p c (expression_row p c id)
  unfolding tree_of kids_trees
  tree_opens id d = go depth d
    where
      go : (m : ℕ) → (m ≡ 0 → ⊥) → tree_of m p c id ≡ id ∷ together (tree_of (m - 1) p c) (gather (kid_at p c (expression_row p c id)) 0 (kids_room p c (expression_row p c id)))
      go zero d = absurd (d refl)
      go (suc m) d = let e : suc m - 1 ≡ m = omega arith in rw (e, kids_placed p c id) refl

  -- a node, then the trees of its children
  pub tree_written : (id : ℕ) (s : Report) {n : ℕ} → (depth ≡ 0 → ⊥) → {cells notes area cells' notes' area' : List ℕ} → Wrote n (write_one id s) cells notes area
      → {row : ExpressionRow} → row ≡ expression_row p c id → Wrote n (write_all (kids_trees (depth - 1) p c row) (rep cells notes area)) cells' notes' area'
      → Wrote n (write_all (tree_of depth p c id) s) cells' notes' area'
  unfolding write_all
  tree_written id s d w e v = record {
    same = v.same ∙ rw (e, w.same, tree_opens id d) refl;
    held = v.held;
  }

  -- no level is left
  pub tree_none : (id : ℕ) {n : ℕ} {cells notes : List ℕ} → Held n cells notes → (area : List ℕ) → depth ≡ 0 → Wrote n (write_all (tree_of depth p c id) (rep cells notes area)) cells notes area
  unfolding tree_of write_all
  tree_none id h area e = record { same = rw e refl; held = h }

module _ {n : ℕ} {f lists : ℕ → List ℕ} {k room : ℕ} {whole : Report} {cells notes area : List ℕ} (v : TreeLeft n f lists k room whole cells notes area) where
  pub tree_absent : k < room → lists k ≡ [] → TreeLeft n f lists (k + 1) room whole cells notes area
  tree_absent h e = record { held = v.held; says = rw (gather_first lists k room h, e) at v.says }

  pub tree_kid : k < room → (x : ℕ) → lists k ≡ x ∷ [] → {cells' notes' area' : List ℕ} → Wrote n (write_all (f x) (rep cells notes area)) cells' notes' area'
      → TreeLeft n f lists (k + 1) room whole cells' notes' area'
  unfolding together
  tree_kid h x e w = record {
    held = w.held;
    says = ap (write_all (together f (gather lists (k + 1) (room - (k + 1))))) w.same
        ∙ sym (write_append (f x) (together f (gather lists (k + 1) (room - (k + 1)))) (rep cells notes area))
        ∙ (rw (gather_first lists k room h, e) at v.says);
  }

  pub tree_long : length area ≡ length whole.area
  tree_long = sym (written_length (together f (gather lists k (room - k))) (rep cells notes area)) ∙ ap (λ (r : Report). length r.area) v.says

  pub tree_ends : room ≤ k → Wrote n whole cells notes area
  unfolding together write_all
  tree_ends h = record { same = rw (gather_none lists k room h) at v.says; held = v.held }
