-- A root: the type table is that of the pack, what the body is given, and the way to each answer.
--     table-is         the table that `number_rows` fills is the one that the definitions read
--     root_ready       the state in which the body is checked
--     at_variable, at_slot, at_body     35, 34, and the body's answer
--     checks_one       two results that meet one contract are equal
--     tells_refused, tells_report       the contract of `check_root`, from the step and the arrays that the rule leaves
-- Assumes nothing.
use mathlib.Core.Path.{◌≡◌, refl, sym, ap, subst, ◌∙◌}
use mathlib.Core.List.{List, [], ◌∷◌}
use mathlib.Core.Bool.{Bool, true, false, ◌||◌}
use Prim.Native.Nat.{ℕ, zero, suc, ◌+◌, ◌*◌, ◌<◌, ◌≤◌}
use native.Mathlib.Nat.{zero-add}
use native.Mathlib.Omega.{arith}
use lib.Dec.{ltb}
use lib.ListN.{length, get_or, replicate}
use lib.Seq.{ext_get_or}
use borrow.Author.Tests.{ltb-true, ltb-false}
use Rattle.laws.specs.Choice.{pick}
use Rattle.laws.specs.Lists.{bit, gather}
use Rattle.laws.proofs.Choice.{yes, no, lets, by_test, fails}
use Rattle.pack.specs.Rows.{root_row}
use Rattle.pack.specs.Lists.{list_item}
use Rattle.pack.specs.declared.counts.Counts.{Counts}
use Rattle.pack.specs.declared.rows.RootRow.{RootRow}
use Rattle.laws.specs.declared.refusal.Refusal.{Refusal}
use Rattle.laws.specs.Bounded.{get}
use Rattle.rows.proofs.Promises.{root_inside}
use Rattle.formed.proofs.Promises.{well_formed}
use Rattle.unionfind.specs.Cells.{capacity, Knows, Live}
use Rattle.unionfind.proofs.States.{selves_empty}
use Rattle.report.specs.Visits.{tree_of}
use Rattle.report.specs.Report.{Held, Report, rep, reported, write_all}
use Rattle.unionfind.specs.Answers.{selves}
use Rattle.structure.specs.Structure.{rows, row_number, holds}
use Rattle.structure.specs.Types.{code_in}
use Rattle.members.specs.Marks.{is_marked, any_field_marked}
use Rattle.members.proofs.Counts.{any_none}
use Rattle.slots.specs.Slots.{slots, Opening, opening, open_pairs}
use Rattle.structure.proofs.Arrays.{zeros_get}
use Rattle.slots.proofs.Promises.{slots_none}
use Rattle.words.specs.Notes.{nodes, code_noted}
use Rattle.words.specs.Words.{words_area}
use Rattle.laws.specs.declared.fault.Fault.TheVariants.{SlotBoundBefore, HoldsVariable}
use Rattle.expr.specs.State.{env, State, Ans, st, ran, refuse, Step}
use Rattle.expr.specs.Rules.{expr_rule}
use Rattle.expr.specs.Ready.{Coded, Marked, Ready, Ran}
use Rattle.expr.proofs.Kept.{held_after}
use Rattle.trees.specs.Nodes.{max_depth}
use Rattle.expr.specs.Root.{same_of, marks_of, start, root_rule, checked_as, written, root_answer_in, root_area_in, root_answer, root_area, Blank, cells_after, notes_after, root_cells_in, root_notes_in, root_cells, root_notes, Checks, Checked}
use Rattle.expr.specs.declared.answer.Outcome.{Outcome}
use Rattle.expr.proofs.Coding.{never_coded, open_pairs_ready}
use Rattle.expr.proofs.Marking.{table_marked}
use Rattle.expr.proofs.Reports.{tree_area, tree_notes}
use Rattle.std.proofs.Common.{Ok, Err}

neither : (a b : Bool) → (a || b) ≡ false → (a ≡ false) × (b ≡ false)
neither true b e = absurd (fails e)
neither false b e = (refl, e)

-- the contract of `check_root`
abbrev pub Told : List ℕ → Counts → ℕ → List ℕ → Checked → List ℕ → List ℕ → List ℕ → Type 0
Told p c root area x after cells notes = ((x ≡ root_answer p c root) × (after ≡ root_area p c root area)) × ((cells ≡ root_cells p c root) × (notes ≡ root_notes p c root))

-- what a report writes, and the tables after it
pub record Written (c : Counts) (xs ws before after xs' ws' : List ℕ) : Type 0 where
  pub area : after ≡ words_area xs ws c.expressions before
  pub cells : xs' ≡ selves 0 capacity
  pub notes : ws' ≡ replicate nodes 0

-- ---- the table

-- a list put together from one number a place
module _ (f : ℕ → ℕ) where
  placed_length : (n i : ℕ) → length (gather (λ k. f k ∷ []) i n) ≡ n
  unfolding gather
  placed_length zero i = refl
  placed_length (suc n) i = ap suc (placed_length n (suc i))

  placed_at : (n i k : ℕ) → k < n → get_or (gather (λ k. f k ∷ []) i n) k 0 ≡ f (i + k)
  unfolding gather
  placed_at zero i k l = absurd (omega arith)
  placed_at (suc n) i zero l = ap f (omega arith)
  placed_at (suc n) i (suc k) l = placed_at n (suc i) k (omega arith) ∙ ap f (omega arith)

  -- is any list as long that has the same numbers
  placed : (n : ℕ) (xs : List ℕ) → length xs ≡ n → ((k : ℕ) → k < n → get_or xs k 0 ≡ f k) → xs ≡ gather (λ k. f k ∷ []) 0 n
  placed n xs l e =
      ext_get_or 0 xs (gather (λ k. f k ∷ []) 0 n) (l ∙ sym (placed_length n 0))
      (λ k a. let b : k < n = omega (arith, l) in e k b ∙ sym (placed_at n 0 k b ∙ ap f (zero-add k)))

module _ {p : List ℕ} {c : Counts} {same marks area : List ℕ} {root : ℕ} (h : Checks p c same marks root area) where
  -- what the table has for a row, and 0 past the rows
  listed : (f : ℕ → ℕ) (xs : List ℕ) → ((k : ℕ) → k < c.types → k < rows → get_or xs k 0 ≡ f k) → ((k : ℕ) → c.types ≤ k → get_or xs k 0 ≡ 0)
      → (k : ℕ) → k < rows → get_or xs k 0 ≡ pick (ltb k c.types) (f k) 0
  listed f xs a b k r =
      by_test (ltb k c.types) (λ t. yes _ _ _ t (a k (ltb-true k c.types t) r)) (λ n. no _ _ _ n (b k (ltb-false k c.types n)))

  pub same_is : same ≡ same_of p c
  unfolding same_of
  same_is = placed _ rows same h.table.size (listed (row_number p c) same (h.table.number h.small) h.table.rest)

  pub marks_is : marks ≡ marks_of p c
  unfolding marks_of
  marks_is = placed _ rows marks h.table.size_marks (listed (λ k. bit (holds p c k)) marks (h.table.mark h.small) h.table.rest_marks)

  -- ---- the answer

  tells : {r : Step} {s : State} → record { step = r; st = s } ≡ root_rule p c same marks root → {x : Checked} {after cells notes : List ℕ} → x ≡ checked_as r → after ≡ written c r s area
      → cells ≡ cells_after r s → notes ≡ notes_after r s → Told p c root area x after cells notes
  unfolding root_answer_in root_area_in root_cells_in root_notes_in
  tells {r = r} {s = s} q a b d e =
      let w : record { step = r; st = s } ≡ root_rule p c (same_of p c) (marks_of p c) root = q ∙ ap (λ (l : List ℕ). root_rule p c l marks root) same_is ∙ ap (λ (l : List ℕ). root_rule p c (same_of p c) l root) marks_is in (
        (a ∙ ap (λ (z : Ans). checked_as z.step) w, b ∙ ap (λ (z : Ans). written c z.step z.st area) w),
        (d ∙ ap (λ (z : Ans). cells_after z.step z.st) w, e ∙ ap (λ (z : Ans). notes_after z.step z.st) w),
      )

  module _ {r : Step} {cells slots notes : List ℕ} (q : ran r cells slots notes ≡ root_rule p c same marks root) where
    pub tells_refused : {f : Refusal} → r ≡ Err f → {x : Checked} {cells' notes' : List ℕ} → x ≡ Err f → cells' ≡ cells → notes' ≡ notes → Told p c root area x area cells' notes'
    tells_refused g e u v =
        tells q (e ∙ sym (ap checked_as g)) (sym (ap (λ (r : Step). written c r (st cells slots notes) area) g))
        (u ∙ sym (ap (λ (r : Step). cells_after r (st cells slots notes)) g)) (v ∙ sym (ap (λ (r : Step). notes_after r (st cells slots notes)) g))

    pub tells_report : {o : Outcome} → r ≡ Ok o → {after cells' notes' : List ℕ} → Written c cells notes area after cells' notes' → Told p c root area (Ok tt) after cells' notes'
    tells_report g w =
        tells q (sym (ap checked_as g)) (w.area ∙ sym (ap (λ (r : Step). written c r (st cells slots notes) area) g))
        (w.cells ∙ sym (ap (λ (r : Step). cells_after r (st cells slots notes)) g)) (w.notes ∙ sym (ap (λ (r : Step). notes_after r (st cells slots notes)) g))

  pub marked : Marked p c same marks
  marked = table_marked h.table h.small h.room

  -- ---- the way to each answer

  module _ {row : RootRow} (q : row ≡ root_row p c root) {held : Bool} (m : held ≡ (is_marked marks row.returns || any_field_marked p c marks row.list)) where
    pub at_variable : held ≡ true → refuse HoldsVariable row.body (start (replicate slots 0)) ≡ root_rule p c same marks root
    unfolding root_rule
    at_variable t = lets _ q (yes _ _ _ (sym m ∙ t) refl)

    module _ (f : held ≡ false) {ret : ℕ} (e : ret ≡ code_in p c same row.returns) {xs l : List ℕ} {ok : Bool} (z : xs ≡ replicate slots 0) (o : opening ok l ≡ open_pairs p c same row.list xs) where
      opens : opening ok l ≡ open_pairs p c same row.list (replicate slots 0)
      opens = o ∙ ap (open_pairs p c same row.list) z

      pub at_slot : ok ≡ false → refuse SlotBoundBefore row.body (start l) ≡ root_rule p c same marks root
      unfolding root_rule
      at_slot n = lets _ q (no _ _ _ (sym m ∙ f) (lets _ e (lets _ opens (no _ _ _ n refl))))

      pub at_body : ok ≡ true → {cells notes : List ℕ} → Blank cells notes → {a : Ans} → a ≡ expr_rule max_depth (env p c same marks ret) row.body ret 0 (st cells l notes)
          → a ≡ root_rule p c same marks root
      unfolding root_rule
      at_body t {cells = cells} {notes = notes} b a =
          lets _ q (no _ _ _ (sym m ∙ f) (lets _ e (lets _ opens (yes _ _ _ t
          (a ∙ ap (λ (c1 : List ℕ). expr_rule max_depth (env p c same marks ret) row.body ret 0 (st c1 l notes)) b.cells
          ∙ ap (λ (w : List ℕ). expr_rule max_depth (env p c same marks ret) row.body ret 0 (st (selves 0 capacity) l w)) b.notes)))))

      -- ---- what the body is given

      pub ret_coded : Coded 0 ret
      ret_coded = rw e (marked.each row.returns (neither (is_marked marks row.returns) _ (sym m ∙ f)).0 0)

      -- no slot is bound and no node seen
      empty_ready : {cells notes : List ℕ} → Blank cells notes → Ready 0 (st cells (replicate slots 0) notes)
      unfolding code_noted
      empty_ready b =
          record {
            live = rw b.cells selves_empty.live;
            slots = record { each = slots_none (Coded 0) (never_coded 0) };
            notes = record { each = λ i. rw (b.notes, zeros_get nodes i) (never_coded 0) };
          }

      pub root_ready : {cells notes : List ℕ} → Blank cells notes → Ready 0 (st cells l notes)
      unfolding any_field_marked
      root_ready b =
          rw (ap (λ (z : Opening). z.slots) opens)
          (open_pairs_ready p c same row.list
          (λ k a. marked.each (list_item p c row.list (2 * k + 1)) (any_none _ _ (neither (is_marked marks row.returns) _ (sym m ∙ f)).1 k a) 0)
          (empty_ready b))

      -- ---- what a report leaves

      pub at_report : ok ≡ true → {cells notes : List ℕ} → Blank cells notes → {r : Step} {cells' slots' notes' : List ℕ}
          → (q : ran r cells' slots' notes' ≡ expr_rule max_depth (env p c same marks ret) row.body ret 0 (st cells l notes))
          → {o : Outcome} → r ≡ Ok o → {n : ℕ} → Live n cells' → ((i : ℕ) → Knows n (code_noted (get nodes notes' i))) → {after cells'' notes'' : List ℕ}
          → rep cells'' notes'' after ≡ reported (write_all (tree_of max_depth p c row.body) (rep cells' notes' area)) → Written c cells' notes' area after cells'' notes''
      at_report t {cells = cells} {notes = notes} b {r} {cells'} {slots'} {notes'} w {o} d {n} live known u =
          let f = well_formed p c h.formed in
          let within : row.body < c.expressions = rw q (root_inside p c f.rows_passed root h.inside).body in
          let e = env p c same marks ret in
          let s = st cells l notes in
          let d' : (expr_rule max_depth e row.body ret 0 s).step ≡ Ok o = ap (λ (a : Ans). a.step) (sym w) ∙ d in
          let live' = subst (λ (a : Ans). Live n a.st.cells) w live in
          let known' = subst (λ (a : Ans). (i : ℕ) → Knows n (code_noted (get nodes a.st.notes i))) w known in
          record {
            area = ap (λ (z : Report). z.area) u ∙ subst (λ (a : Ans). (write_all (tree_of max_depth p c row.body) (rep a.st.cells a.st.notes area)).area ≡ words_area a.st.cells a.st.notes c.expressions area) (sym w) (tree_area e f max_depth row.body ret 0 s within b.notes d' live' known' area h.long);
            cells = ap (λ (z : Report). z.cells) u;
            notes = ap (λ (z : Report). z.notes) u ∙ subst (λ (a : Ans). (write_all (tree_of max_depth p c row.body) (rep a.st.cells a.st.notes area)).notes ≡ replicate nodes 0) (sym w) (tree_notes e f max_depth row.body ret 0 s within b.notes d' live' known' area h.long);
          }

      -- the body was checked, from tables that came back as ys' and vs'
      module _ (t : ok ≡ true) {cells notes : List ℕ} (b : Blank cells notes) {r : Step} {ys us vs : List ℕ}
          (i : Ran 0 (expr_rule max_depth (env p c same marks ret) row.body ret 0 (st cells l notes)) r ys us vs) {ys' vs' : List ℕ} (u : ys' ≡ ys) (v : vs' ≡ vs) where
        back : Ran 0 (expr_rule max_depth (env p c same marks ret) row.body ret 0 (st cells l notes)) r ys' us vs'
        back = rw (u, v) i

        pub body_refused : {f : Refusal} → r ≡ Err f → {x : Checked} → x ≡ Err f → Told p c root area x area ys' vs'
        body_refused g e = tells_refused (at_body t b back.same) g e refl refl

        module _ {accepted : Outcome} (d : r ≡ Ok accepted) where
          pub body_held : Held accepted.vars ys' vs'
          body_held = held_after back d

          module _ {after ys'' vs'' : List ℕ} (w : rep ys'' vs'' after ≡ reported (write_all (tree_of max_depth p c row.body) (rep ys' vs' area))) where
            pub body_written : Written c ys' vs' area after ys'' vs''
            body_written = at_report t b back.same d body_held.live body_held.known w

            pub body_told : Told p c root area (Ok tt) after ys'' vs''
            body_told = tells_report (at_body t b back.same) d body_written

-- two results that meet the contract of `check_root` are equal
pub checks_one : (p : List ℕ) (c : Counts) (root : ℕ) (area : List ℕ) {x y : Checked} {xs ys cells notes cells' notes' : List ℕ} → Told p c root area x xs cells notes
    → Told p c root area y ys cells' notes' → ((x ≡ y) × (xs ≡ ys)) × ((cells ≡ cells') × (notes ≡ notes'))
checks_one p c root area a b = ((a.0.0 ∙ sym b.0.0, a.0.1 ∙ sym b.0.1), (a.1.0 ∙ sym b.1.0, a.1.1 ∙ sym b.1.1))

abbrev is_report : Checked → Bool
is_report (Ok u) = true
is_report (Err f) = false

-- after a report the tables are ready for the next root
pub report_blank : (p : List ℕ) (c : Counts) (root : ℕ) → Ok tt ≡ root_answer p c root → {cells notes : List ℕ} → cells ≡ root_cells p c root → notes ≡ root_notes p c root → Blank cells notes
unfolding root_answer_in root_cells_in root_notes_in
report_blank p c root e {cells} {notes} u v = go (root_rule p c (same_of p c) (marks_of p c) root).step e u v
  where
    go : (r : Step) → Ok tt ≡ checked_as r → cells ≡ cells_after r (root_rule p c (same_of p c) (marks_of p c) root).st → notes ≡ notes_after r (root_rule p c (same_of p c) (marks_of p c) root).st → Blank cells notes
    go (Ok o) e u v = record { cells = u; notes = v }
    go (Err f) e u v = absurd (fails (ap is_report e))
