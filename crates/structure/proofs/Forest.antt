-- The trees of lists are right: the walk of each list that stands in one ends at its own row. So a list that looks like an earlier one
-- walks to that one's row.
--     one_end        a list has one walk
--     Forest         what is known of the trees of the rows below i
--     forest_none    at the start
--     forest_same    a row whose list is not new
--     forest_root, forest_member, forest_fork    a row that is put into a tree
-- Assumes nothing.
use mathlib.Core.Path.{◌≡◌, refl, sym, ap, ◌∙◌}
use mathlib.Core.List.{List}
use mathlib.Core.Logic.{◌⊎◌, inl, inr, ⊎_elim}
use mathlib.Core.Bool.{Bool}
use Prim.Native.Nat.{ℕ, ◌+◌, ◌-◌, ◌*◌, ◌/◌, ◌%◌, ◌<◌, ◌≤◌}
use native.Mathlib.Omega.{arith}
use lib.Dec.{eqb}
use lib.ListN.{length, set, length-set, replicate, length-replicate}
use borrow.Author.Tests.{eq-eqb, ne_eqb}
use Rattle.laws.specs.Bounded.{get}
use Rattle.laws.specs.Choice.{pick}
use Rattle.laws.proofs.Choice.{yes, no, by_eq}
use Rattle.pack.specs.declared.counts.Counts.{Counts}
use Rattle.structure.specs.Structure.{rows}
use Rattle.structure.specs.Lists.{Spot}
use Rattle.structure.specs.Table.{entry}
use Rattle.structure.specs.Buckets.{buckets, bucket_of, Chained}
use Rattle.structure.specs.Tree.{cells_len, cell_at, sorts, place_of, own_of, member_key, Step, passes, turns, Leads, here, more, New, Walked, old, fork, ended, missed, first, below, Shape, RootsLow, Sound, Bare, Storable, roots_with, cells_with, key_in, Grown}
use Rattle.structure.specs.Facts.{Finds, used, walked, searched}
use Rattle.structure.specs.declared.tree.Stop.{Stop}
use Rattle.structure.specs.declared.finding.Found.{Found}
use Rattle.structure.specs.declared.finding.Found.TheVariants.{Same, Loose, Root, Member, Fork}
use Rattle.structure.specs.declared.facts.KnownLists.{KnownLists}
use Rattle.structure.specs.declared.tree.ListTrees.{ListTrees}
use Rattle.structure.proofs.Arrays.{zeros_get, set_here, set_there}
use Rattle.structure.proofs.Walking.{key_fork, leads_on}

key_parts : (g x h y : ℕ) → g < rows → h < rows → member_key g x ≡ member_key h y → (g ≡ h) × (x ≡ y)
unfolding member_key
key_parts g x h y a b e = (omega arith, omega arith)

test_place : (o own : ℕ) → own < 65536 → (o * 65536 + own) / 65536 ≡ o
test_place o own h = omega arith

test_own : (o own : ℕ) → own < 65536 → (o * 65536 + own) % 65536 ≡ own
test_own o own h = omega arith

-- ---- one walk

-- keys of forks belong to one member each
abbrev Unique : List ℕ → Type 0
Unique keys = (g x l m : ℕ) → l < rows → m < rows → entry keys l ≡ member_key g x → entry keys m ≡ member_key g x → 0 < g → g < rows → l ≡ m

-- cells hold rows after the first
abbrev Rows : List ℕ → Type 0
Rows cells = (d g : ℕ) → cell_at cells d ≡ g + 1 → (0 < g) × (g < rows)

module _ (v : ℕ → ℕ) (cells tests keys : List ℕ) where
  abbrev pub Stuck : ℕ → Type 0
  Stuck d = (k e l : ℕ) → Step v cells tests keys d k e l → ⊥

  module _ (unique : Unique keys) (inside : Rows cells) where
    one_step : {d k e l f m : ℕ} → Step v cells tests keys d k e l → Step v cells tests keys d k f m → (e ≡ f) × (l ≡ m)
    one_step (passes g a b x y) (passes h a' b' x' y') = (omega arith, omega arith)
    one_step (passes g a b x y) (turns h a' b' c' d' x') = absurd (b' (let q : g ≡ h = omega arith in rw q at b))
    one_step (turns g a b c d x) (passes h a' b' x' y') = absurd (b (let q : h ≡ g = omega arith in rw q at b'))
    one_step {d = d} {l = l} {m = m} (turns g a b c e x) (turns h a' b' c' e' x') =
        let q : h ≡ g = omega arith in
        let w : l ≡ m = unique g (v (place_of tests g)) l m c c' e (rw q at e') (inside d g a).0 (inside d g a).1 in
        (omega arith, w)

    pub one_end : {d k e l f m : ℕ} → Leads v cells tests keys d k e l → Leads v cells tests keys d k f m → Stuck e → Stuck f → (e ≡ f) × (l ≡ m)
    one_end here here a b = (refl, refl)
    one_end here (more s r) a b = absurd (a _ _ _ s)
    one_end (more s r) here a b = absurd (b _ _ _ s)
    one_end {f = f} {m = m} (more s r) (more t q) a b =
        let w = one_step s t in
        one_end r (rw (← w.0, ← w.1) at q) a b

-- an empty cell, and a fork where the value is new
pub stuck_empty : {v : ℕ → ℕ} {cells tests keys : List ℕ} {d : ℕ} → cell_at cells d ≡ 0 → Stuck v cells tests keys d
stuck_empty z k e l (passes g a b x y) = omega arith
stuck_empty z k e l (turns g a b c q x) = omega arith

stuck_new : {v : ℕ → ℕ} {cells tests keys : List ℕ} {i d g : ℕ} → New v cells tests keys i d g
    → ((l : ℕ) → l < rows → entry keys l ≡ member_key g (v (place_of tests g)) → l < i) → Stuck v cells tests keys d
stuck_new {g = g} n low k e l (passes h a b x y) = let q : h ≡ g = omega (arith, a, n.fork) in n.other (rw q at b)
stuck_new {g = g} n low k e l (turns h a b c z x) = let q : h ≡ g = omega (arith, a, n.fork) in let w = rw q at z in n.none l (low l c w) w

-- ---- the trees

module _ (sort : ℕ → ℕ) (view : ℕ → ℕ → ℕ) (Kept : ℕ → Type 0) where
  -- the walk of row r's list ends at row r
  pub record Stands (roots cells tests keys : List ℕ) (r : ℕ) : Type 0 where
    pub root : ℕ
    pub at : get sorts roots (sort r) ≡ root + 1
    pub end : ℕ
    pub leads : Leads (view r) cells tests keys (2 * root) root end r
    pub empty : cell_at cells end ≡ 0

  pub record Forest (i : ℕ) (roots cells tests keys : List ℕ) : Type 0 where
    pub size_roots : length roots ≡ sorts
    pub size_cells : length cells ≡ cells_len
    pub size_tests : length tests ≡ rows
    pub size_keys : length keys ≡ rows
    pub root_is : (b k : ℕ) → get sorts roots b ≡ k + 1 → (k < i) × (sort k ≡ b)
    pub cell_is : (d g : ℕ) → cell_at cells d ≡ g + 1 → (0 < g) × (g < i) × (sort g ≡ sort (d / 2))
    pub spot : (d g : ℕ) → cell_at cells d ≡ g + 1 → Spot (sort g) (place_of tests g)
    pub free : (d : ℕ) → i ≤ d / 2 → cell_at cells d ≡ 0
    pub key_is : (g x l : ℕ) → l < rows → entry keys l ≡ member_key g x → 0 < g → g < rows → (l < i) × (sort l ≡ sort g)
    pub unique : (g x l m : ℕ) → l < rows → m < rows → entry keys l ≡ member_key g x → entry keys m ≡ member_key g x → 0 < g → g < rows → l ≡ m
    pub owner : ℕ → ℕ
    pub own_even : (l : ℕ) → owner (2 * l) ≡ l
    pub own_odd : (d g : ℕ) → cell_at cells d ≡ g + 1 → owner (2 * g + 1) ≡ owner d
    pub stands : (r : ℕ) → r < i → Kept r → Stands roots cells tests keys r

  pub forest_none : Forest 0 (replicate sorts 0) (replicate cells_len 0) (replicate rows 0) (replicate rows 0)
  unfolding member_key
  forest_none = record {
    size_roots = length-replicate {A = ℕ} sorts 0;
    size_cells = length-replicate {A = ℕ} cells_len 0;
    size_tests = length-replicate {A = ℕ} rows 0;
    size_keys = length-replicate {A = ℕ} rows 0;
    root_is = λ b k e. absurd (omega (arith, e, zeros_get sorts b));
    cell_is = λ d g e. absurd (omega (arith, e, zeros_get cells_len d));
    spot = λ d g e. absurd (omega (arith, e, zeros_get cells_len d));
    free = λ d h. zeros_get cells_len d;
    key_is = λ g x l h e u w. absurd (omega (arith, e, zeros_get rows l, u));
    unique = λ g x l m h k e f u w. absurd (omega (arith, e, zeros_get rows l, u));
    owner = λ d. d / 2;
    own_even = λ l. omega arith;
    own_odd = λ d g e. absurd (omega (arith, e, zeros_get cells_len d));
    stands = λ r h. absurd (omega arith);
  }

  module _ {i : ℕ} {roots cells tests keys : List ℕ} (F : Forest i roots cells tests keys) (most : i ≤ rows) where
    -- a list with other values that are the same at the places of the sort
    turned_view : (v w : ℕ → ℕ) (s : ℕ) → ((o : ℕ) → Spot s o → v o ≡ w o) → {d k e l : ℕ} → sort (d / 2) ≡ s
        → Leads v cells tests keys d k e l → Leads w cells tests keys d k e l × (sort (e / 2) ≡ s)
    turned_view v w s q z here = (here, z)
    turned_view v w s q {d = d} z (more (passes g a b x y) r) =
        let c = F.cell_is d g a in
        let p : v (place_of tests g) ≡ w (place_of tests g) = q _ (rw (c.2 ∙ z) at (F.spot d g a)) in
        let n : (2 * g + 1) / 2 ≡ g = omega arith in
        let m = turned_view v w s q (rw (x, n) (c.2 ∙ z)) r in
        (more (passes g a (sym p ∙ b) x y) m.0, m.1)
    turned_view v w s q {d = d} z (more {l = l} (turns g a b c u x) r) =
        let h = F.cell_is d g a in
        let p : v (place_of tests g) ≡ w (place_of tests g) = q _ (rw (h.2 ∙ z) at (F.spot d g a)) in
        let k = F.key_is g _ l c u h.0 (omega (arith, h.1)) in
        let n : 2 * l / 2 ≡ l = omega arith in
        let m = turned_view v w s q (rw (x, n) (k.1 ∙ h.2 ∙ z)) r in
        (more (turns g a (λ e. b (p ∙ e)) c (u ∙ ap (member_key g) p) x) m.0, m.1)

    -- the row of a cell
    owned : {v : ℕ → ℕ} {d k e l : ℕ} → F.owner d ≡ k → Leads v cells tests keys d k e l → F.owner e ≡ l
    owned z here = z
    owned {d = d} z (more (passes g a b x y) r) = owned (rw (x, y) (F.own_odd d g a ∙ z)) r
    owned z (more {l = l} (turns g a b c u x) r) = owned (rw x (F.own_even l)) r

    row_kept : {v : ℕ → ℕ} {s d k e l : ℕ} → sort (d / 2) ≡ s → sort k ≡ s → Leads v cells tests keys d k e l → sort l ≡ s
    row_kept z y here = y
    row_kept {s = s} {d = d} z y (more (passes g a b x q) r) =
        let n : (2 * g + 1) / 2 ≡ g = omega arith in
        row_kept {s = s} (rw (x, n) ((F.cell_is d g a).2 ∙ z)) (rw q y) r
    row_kept {s = s} {d = d} z y (more {l = l} (turns g a b c u x) r) =
        let h = F.cell_is d g a in
        let m : sort l ≡ s = (F.key_is g _ l c u h.0 (omega (arith, h.1))).1 ∙ h.2 ∙ z in
        let n : 2 * l / 2 ≡ l = omega arith in
        row_kept {s = s} (rw (x, n) m) m r

    -- ---- what the walk of row i's list finds

    module _ (v : ℕ → ℕ) (agree : (o : ℕ) → Spot (sort i) o → v o ≡ view i o) {k : ℕ} (rooted : get sorts roots (sort i) ≡ k + 1) {z : Stop} (w : Walked v cells tests keys i k z) where
      root_sort : sort (2 * k / 2) ≡ sort i
      root_sort = let n : 2 * k / 2 ≡ k = omega arith in rw n (F.root_is (sort i) k rooted).1

      pub walk_view : Leads (view i) cells tests keys (2 * k) k z.cell z.row
      walk_view = (turned_view v (view i) (sort i) agree root_sort w.leads).0

      pub cell_sort : sort (z.cell / 2) ≡ sort i
      cell_sort = (turned_view v (view i) (sort i) agree root_sort w.leads).1

      pub fork_view : (g : ℕ) → cell_at cells z.cell ≡ g + 1 → v (place_of tests g) ≡ view i (place_of tests g)
      fork_view g e = agree _ (rw ((F.cell_is z.cell g e).2 ∙ cell_sort) at (F.spot z.cell g e))

      pub row_is_lem : F.owner z.cell ≡ z.row
      row_is_lem = owned (F.own_even k) walk_view

      pub row_sort : sort z.row ≡ sort i
      row_sort = row_kept root_sort (F.root_is (sort i) k rooted).1 walk_view

      new_view : (g : ℕ) → cell_at cells z.cell ≡ g + 1 → New (view i) cells tests keys i z.cell g
      new_view g e =
          let n = w.ends (λ q. omega arith) g e in
          let p = fork_view g e in
          record {
            fork = e;
            other = λ q. n.other (p ∙ q);
            none = λ l h q. n.none l h (q ∙ ap (member_key g) (sym p));
          }

      stuck : Stuck (view i) cells tests keys z.cell
      stuck =
          by_eq (cell_at cells z.cell) 0
          (λ e. stuck_empty e)
          (λ e.
          let f : cell_at cells z.cell ≡ cell_at cells z.cell - 1 + 1 = omega (arith, e) in
          let c = F.cell_is z.cell _ f in
          stuck_new (new_view _ f) (λ l h q. (F.key_is _ _ l h q c.0 (omega (arith, c.1))).0))

      -- a list that stands in the tree and looks the same is where the walk ends
      pub met : (r : ℕ) → r < i → Kept r → sort r ≡ sort i → ((o : ℕ) → Spot (sort i) o → view r o ≡ view i o) → (cell_at cells z.cell ≡ 0) × (z.row ≡ r)
      met r h kept e same =
          let s = F.stands r h kept in
          let a : s.root ≡ k = let q = s.at in let p = rw e at q in omega (arith, p, rooted) in
          let l = (turned_view (view r) (view i) (sort i) same root_sort (rw a at s.leads)).0 in
          let o = one_end (view i) cells tests keys F.unique (λ d g q. ((F.cell_is d g q).0, omega (arith, (F.cell_is d g q).1))) walk_view l stuck (stuck_empty s.empty) in
          (rw o.0 s.empty, o.1)

    -- ---- row i

    module _ (room : i < rows) (t key : ℕ) where
      old_test : (g : ℕ) → g < i → entry (set tests i t) g ≡ entry tests g
      old_test g h = set_there rows tests i t g (λ e. omega arith)

      new_test : entry (set tests i t) i ≡ t
      new_test = set_here rows tests i t F.size_tests room

      old_key : (l : ℕ) → (l ≡ i → ⊥) → entry (set keys i key) l ≡ entry keys l
      old_key l n = set_there rows keys i key l n

      new_key : entry (set keys i key) i ≡ key
      new_key = set_here rows keys i key F.size_keys room

      -- how the cells and roots change, and where the lists stand afterwards
      pub record Growth (roots' cells' : List ℕ) : Type 0 where
        pub roots_size : length roots' ≡ sorts
        pub cells_size : length cells' ≡ cells_len
        pub roots_new : (b k : ℕ) → get sorts roots' b ≡ k + 1 → (get sorts roots b ≡ k + 1) ⊎ ((k ≡ i) × (sort i ≡ b))
        pub cells_new : (d g : ℕ) → cell_at cells' d ≡ g + 1 → (cell_at cells d ≡ g + 1) ⊎ ((g ≡ i) × (0 < i) × (sort i ≡ sort (d / 2)) × Spot (sort i) (t / 65536))
        pub still_free : (d : ℕ) → i + 1 ≤ d / 2 → cell_at cells' d ≡ 0
        pub key_new : (g x : ℕ) → key ≡ member_key g x → 0 < g → g < rows → (sort i ≡ sort g) × ((l : ℕ) → l < i → entry keys l ≡ member_key g x → ⊥)
        pub owners : ℕ → ℕ
        pub even : (l : ℕ) → owners (2 * l) ≡ l
        pub odd : (d g : ℕ) → cell_at cells' d ≡ g + 1 → owners (2 * g + 1) ≡ owners d
        pub stands_old : (r : ℕ) → r < i → Kept r → Stands roots' cells' (set tests i t) (set keys i key) r
        pub stands_new : Kept i → Stands roots' cells' (set tests i t) (set keys i key) i

      module _ {roots' cells' : List ℕ} (G : Growth roots' cells') where
        keys_below : (g x l : ℕ) → l < rows → entry (set keys i key) l ≡ member_key g x → 0 < g → g < rows → (l ≡ i → ⊥) → l < i
        keys_below g x l h e u w n = (F.key_is g x l h (sym (old_key l n) ∙ e) u w).0

        no_other : (g x l : ℕ) → l < rows → entry (set keys i key) l ≡ member_key g x → entry (set keys i key) i ≡ member_key g x → 0 < g → g < rows → (l ≡ i → ⊥) → ⊥
        no_other g x l h e f u w n = (G.key_new g x (sym new_key ∙ f) u w).1 l (keys_below g x l h e u w n) (sym (old_key l n) ∙ e)

        pub forest_grown : Forest (i + 1) roots' cells' (set tests i t) (set keys i key)
        forest_grown = record {
          size_roots = G.roots_size;
          size_cells = G.cells_size;
          size_tests = length-set tests i t ∙ F.size_tests;
          size_keys = length-set keys i key ∙ F.size_keys;
          root_is = λ b k e.
              ⊎_elim
              (λ o. let q = F.root_is b k o in (omega (arith, q.0), q.1))
              (λ n. let q = n.0 in (omega (arith, q), rw q n.1))
              (G.roots_new b k e);
          cell_is = λ d g e.
              ⊎_elim
              (λ o. let q = F.cell_is d g o in (q.0, omega (arith, q.1), q.2))
              (λ n. let q = n.0 in (rw q n.1, omega (arith, q), rw q n.2))
              (G.cells_new d g e);
          spot = λ d g e.
              ⊎_elim
              (λ o. rw (old_test g (F.cell_is d g o).1) (F.spot d g o))
              (λ n. rw (n.0, new_test) n.3)
              (G.cells_new d g e);
          free = G.still_free;
          key_is = λ g x l h e u w.
              by_eq l i
              (λ q. (omega (arith, q), rw q (G.key_new g x (sym new_key ∙ rw q at e) u w).0))
              (λ n. let k = F.key_is g x l h (sym (old_key l n) ∙ e) u w in (omega (arith, k.0), k.1));
          unique = λ g x l m h k e f u w.
              by_eq l i
              (λ q.
              by_eq m i
              (λ y. q ∙ sym y)
              (λ n. absurd (no_other g x m k f (rw q at e) u w n)))
              (λ n.
              by_eq m i
              (λ y. absurd (no_other g x l h e (rw y at f) u w n))
              (λ y. F.unique g x l m h k (sym (old_key l n) ∙ e) (sym (old_key m y) ∙ f) u w));
          owner = G.owners;
          own_even = G.even;
          own_odd = G.odd;
          stands = λ r h kept. by_eq r i (λ q. rw q (G.stands_new (rw q at kept))) (λ n. G.stands_old r (omega (arith, h, n)) kept);
        }

      -- the steps that there were are there still
      kept_leads : {cells' : List ℕ} → ((d g : ℕ) → cell_at cells d ≡ g + 1 → cell_at cells' d ≡ g + 1) → {v : ℕ → ℕ} {d k e l : ℕ}
          → Leads v cells tests keys d k e l → Leads v cells' (set tests i t) (set keys i key) d k e l
      kept_leads m here = here
      kept_leads m {d = d} (more (passes g a b x y) r) =
          let q = old_test g (F.cell_is d g a).1 in
          more (passes g (m d g a) (rw q b) x y) (kept_leads m r)
      kept_leads m {d = d} (more {l = l} (turns g a b c u x) r) =
          let h = F.cell_is d g a in
          let q = old_test g h.1 in
          let k = F.key_is g _ l c u h.0 (omega (arith, h.1)) in
          more (turns g (m d g a) (rw q b) c (rw (q, old_key l (λ e. omega (arith, k.0, e))) u) x) (kept_leads m r)

      stands_still : (r : ℕ) → r < i → Kept r → Stands roots cells (set tests i t) (set keys i key) r
      stands_still r h kept =
          let s = F.stands r h kept in
          record { root = s.root; at = s.at; end = s.end; leads = kept_leads (λ d g e. e) s.leads; empty = s.empty }

    -- a row whose list is not new
    pub forest_same : (room : i < rows) → (Kept i → ⊥) → Forest (i + 1) roots cells (set tests i 0) (set keys i 0)
    unfolding member_key
    forest_same room not-kept =
        forest_grown room 0 0
        (record {
          roots_size = F.size_roots;
          cells_size = F.size_cells;
          roots_new = λ b k e. inl e;
          cells_new = λ d g e. inl e;
          still_free = λ d h. F.free d (omega arith);
          key_new = λ g x e u w. absurd (omega (arith, e, u));
          owners = F.owner;
          even = F.own_even;
          odd = F.own_odd;
          stands_old = stands_still room 0 0;
          stands_new = λ k. absurd (not-kept k);
        })

    twice : 2 * i / 2 ≡ i
    twice = omega arith

    -- the first list of its sort
    pub forest_root : (room : i < rows) → sort i < sorts → get sorts roots (sort i) ≡ 0 → Forest (i + 1) (set roots (sort i) (i + 1)) cells (set tests i 0) (set keys i 0)
    unfolding member_key
    forest_root room small z =
        forest_grown room 0 0
        (record {
          roots_size = length-set roots (sort i) (i + 1) ∙ F.size_roots;
          cells_size = F.size_cells;
          roots_new = λ b k e.
              by_eq b (sort i)
              (λ q. inr (let w = sym here_root ∙ rw q at e in omega (arith, w), sym q))
              (λ n. inl (sym (there_root b n) ∙ e));
          cells_new = λ d g e. inl e;
          still_free = λ d h. F.free d (omega arith);
          key_new = λ g x e u w. absurd (omega (arith, e, u));
          owners = F.owner;
          even = F.own_even;
          odd = F.own_odd;
          stands_old = λ r h kept.
              let s = stands_still room 0 0 r h kept in
              let n : sort r ≡ sort i → ⊥ = λ q. (let w = s.at in let y = rw q at w in omega (arith, y, z)) in
              record { root = s.root; at = there_root (sort r) n ∙ s.at; end = s.end; leads = s.leads; empty = s.empty };
          stands_new = λ kept. record { root = i; at = here_root; end = 2 * i; leads = here; empty = F.free (2 * i) (omega (arith, twice)) };
        })
      where
        here_root : get sorts (set roots (sort i) (i + 1)) (sort i) ≡ i + 1
        here_root = set_here sorts roots (sort i) (i + 1) F.size_roots small

        there_root : (b : ℕ) → (b ≡ sort i → ⊥) → get sorts (set roots (sort i) (i + 1)) b ≡ get sorts roots b
        there_root b n = set_there sorts roots (sort i) (i + 1) b n

    -- a list that differs from the row where its walk ends
    module _ (room : i < rows) (v : ℕ → ℕ) (agree : (o : ℕ) → Spot (sort i) o → v o ≡ view i o) {k : ℕ} (rooted : get sorts roots (sort i) ≡ k + 1)
        {z : Stop} (w : Walked v cells tests keys i k z) where
      pub forest_member : (g : ℕ) → cell_at cells z.cell ≡ g + 1 → Forest (i + 1) roots cells (set tests i 0) (set keys i (member_key g (view i (place_of tests g))))
      forest_member g e =
          let c = F.cell_is z.cell g e in
          let n = new_view v agree rooted w g e in
          let x = view i (place_of tests g) in
          let q = old_test room 0 (member_key g x) g c.1 in
          forest_grown room 0 (member_key g x)
          (record {
            roots_size = F.size_roots;
            cells_size = F.size_cells;
            roots_new = λ b y u. inl u;
            cells_new = λ d y u. inl u;
            still_free = λ d h. F.free d (omega arith);
            key_new = λ h y u a b.
                let m = key_parts g x h y (omega (arith, c.1)) b u in
                (rw (← m.0) (sym (c.2 ∙ cell_sort v agree rooted w)), λ l o t. n.none l o (t ∙ sym u));
            owners = F.owner;
            even = F.own_even;
            odd = F.own_odd;
            stands_old = stands_still room 0 (member_key g x);
            stands_new = λ kept. record {
              root = k;
              at = rooted;
              end = 2 * i;
              leads = leads_on (kept_leads room 0 (member_key g x) (λ d y u. u) (walk_view v agree rooted w)) (turns g e (rw q n.other) room (rw q (new_key room 0 (member_key g x))) refl);
              empty = F.free (2 * i) (omega (arith, twice));
            };
          })

      module _ (empty : cell_at cells z.cell ≡ 0) (o own : ℕ) (place : Spot (sort i) o) (small : own < 65536) (same : view z.row o ≡ own)
          (other : view i o ≡ own → ⊥) (low : (l : ℕ) → l < i → bucket_of (entry keys l) ≤ l) where
        here_cell : cell_at (set cells z.cell (i + 1)) z.cell ≡ i + 1
        here_cell = set_here cells_len cells z.cell (i + 1) F.size_cells w.inside

        there_cell : (d : ℕ) → (d ≡ z.cell → ⊥) → cell_at (set cells z.cell (i + 1)) d ≡ cell_at cells d
        there_cell d n = set_there cells_len cells z.cell (i + 1) d n

        still : (d g : ℕ) → cell_at cells d ≡ g + 1 → cell_at (set cells z.cell (i + 1)) d ≡ g + 1
        still d g e = there_cell d (λ q. let u = rw q at e in omega (arith, u, empty)) ∙ e

        far : (d : ℕ) → i ≤ d / 2 → cell_at (set cells z.cell (i + 1)) d ≡ 0
        far d h = there_cell d (λ q. let u = rw q at h in omega (arith, u, w.low)) ∙ F.free d h

        abbrev t : ℕ
        t = o * 65536 + own

        abbrev key : ℕ
        key = member_key i (view i o)

        place_is : place_of (set tests i t) i ≡ o
        place_is = rw (new_test room t key) (test_place o own small)

        own_is : own_of (set tests i t) i ≡ own
        own_is = rw (new_test room t key) (test_own o own small)

        half : (2 * i + 1) / 2 ≡ i
        half = omega arith

        abbrev owners' : ℕ → ℕ
        owners' e = pick (eqb e (2 * i + 1)) (F.owner z.cell) (F.owner e)

        other_owner : (e : ℕ) → (e ≡ 2 * i + 1 → ⊥) → owners' e ≡ F.owner e
        other_owner e n = sym (no (eqb e (2 * i + 1)) _ _ (ne_eqb e (2 * i + 1) n) refl)

        new_owner : owners' (2 * i + 1) ≡ F.owner z.cell
        new_owner = sym (yes (eqb (2 * i + 1) (2 * i + 1)) _ _ (eq-eqb (2 * i + 1) (2 * i + 1) refl) refl)

        stands_on : (r : ℕ) → r < i → Kept r → Stands roots (set cells z.cell (i + 1)) (set tests i t) (set keys i key) r
        stands_on r h kept =
            let s = F.stands r h kept in
            let l = kept_leads room t key still s.leads in
            by_eq s.end z.cell
            (λ q.
            let a : r ≡ z.row = sym (owned (F.own_even s.root) s.leads) ∙ ap F.owner q ∙ row_is_lem v agree rooted w in
            let b : view r (place_of (set tests i t) i) ≡ own_of (set tests i t) i = rw (place_is, own_is, a) same in
            record {
              root = s.root;
              at = s.at;
              end = 2 * i + 1;
              leads = leads_on l (passes i (rw q here_cell) b refl refl);
              empty = far (2 * i + 1) (omega (arith, half));
            })
            (λ n. record { root = s.root; at = s.at; end = s.end; leads = l; empty = there_cell s.end n ∙ s.empty })

        pub forest_fork : Forest (i + 1) roots (set cells z.cell (i + 1)) (set tests i (o * 65536 + own)) (set keys i (member_key i (view i o)))
        forest_fork =
            forest_grown room t key
            (record {
              roots_size = F.size_roots;
              cells_size = length-set cells z.cell (i + 1) ∙ F.size_cells;
              roots_new = λ b y u. inl u;
              cells_new = λ d g u.
                  by_eq d z.cell
                  (λ q.
                  let e = sym here_cell ∙ rw q at u in
                  inr (omega (arith, e), omega (arith, w.below), rw q (sym (cell_sort v agree rooted w)), rw (test_place o own small) place))
                  (λ n. inl (sym (there_cell d n) ∙ u));
              still_free = λ d h. far d (omega arith);
              key_new = λ g x u a b.
                  let m = key_parts i (view i o) g x room b u in (
                    ap sort m.0,
                    λ l h e.
                        let y = low l h in
                        let c : bucket_of (entry keys l) ≡ g = ap bucket_of e ∙ key_fork g x (omega (arith, b)) in
                        omega (arith, c, m.0, y, h),
                  );
              owners = owners';
              even = λ l. other_owner (2 * l) (λ q. omega (arith, q)) ∙ F.own_even l;
              odd = λ d g u.
                  by_eq d z.cell
                  (λ q.
                  let e = sym here_cell ∙ rw q at u in
                  let g-is : g ≡ i = omega (arith, e) in
                  rw (g-is, q) (new_owner ∙ sym (other_owner z.cell (λ y. omega (arith, y, w.low)))))
                  (λ n.
                  let e = sym (there_cell d n) ∙ u in
                  let c = F.cell_is d g e in
                  other_owner (2 * g + 1) (λ y. omega (arith, y, c.1)) ∙ F.own_odd d g e ∙ sym (other_owner d (λ y. (let f = F.free d (rw y (omega (arith, half))) in omega (arith, f, e)))));
              stands_old = stands_on;
              stands_new = λ kept. record {
                root = k;
                at = rooted;
                end = 2 * i;
                leads = leads_on (kept_leads room t key still (walk_view v agree rooted w))
                    (turns i here_cell (λ q. other (rw (place_is, own_is) at q)) room (rw place_is (new_key room t key)) refl);
                empty = far (2 * i) (omega (arith, twice));
              };
            })

-- ---- the shape of the arrays

-- what is found can be stored
no_key : bucket_of 0 ≡ 0
unfolding bucket_of
no_key = refl

key_low : (g x : ℕ) {key i : ℕ} → key ≡ member_key g x → g < buckets → g ≤ i → bucket_of key ≤ i
key_low g x e h l = rw (e, key_fork g x h) l

same_storable : {r : Found} {k : ℕ} (i : ℕ) → r ≡ Same k → Storable r i
same_storable i e = rw e tt

pub storable : {p : List ℕ} {c : Counts} {same look : List ℕ} {q : KnownLists} {fit : Bool} {i s sort : ℕ} (r : Found)
    → Sound q.trees i → i < rows → Finds p c same look q fit i s sort r → Storable r i
storable r h room (used k e says) = same_storable _ says
storable r h room (walked t (first e says)) = rw says tt
storable r h room (walked t (below k e (ended z w x (old q says)))) = same_storable _ says
storable r h room (walked t (below k e (ended z w x (fork o q b says)))) = rw says (w.inside, w.low, key_low _ _ refl (omega (arith, room)) (omega arith))
storable r h room (walked t (below k e (missed z g w x says))) = rw says (key_low _ _ refl (omega (arith, room, h.shape.below z.cell, x)) (omega (arith, h.shape.below z.cell, x)))
storable (Same row) h room (searched t q u) = tt
storable Loose h room (searched t q u) = tt
storable Root h room (searched t q u) = absurd u
storable (Member key) h room (searched t q u) = absurd u
storable (Fork cell test key) h room (searched t q u) = absurd u

-- ---- the trees stay sound

low_same : {roots : List ℕ} {i : ℕ} → RootsLow roots i → RootsLow roots (i + 1)
low_same l = record { size = l.size; low = λ b. omega (arith, l.low b) }

roots_low : (r : Found) (sort : ℕ) {roots : List ℕ} {i : ℕ} → RootsLow roots i → RootsLow (roots_with r roots sort i) (i + 1)
roots_low (Same row) sort l = low_same l
roots_low Loose sort l = low_same l
roots_low Root sort {roots = roots} {i = i} l = record {
  size = length-set roots (sort % sorts) (i + 1) ∙ l.size;
  low = λ b.
      by_eq b (sort % sorts)
      (λ q. rw (q, set_here sorts roots (sort % sorts) (i + 1) l.size (omega arith)) (omega arith))
      (λ q. rw (set_there sorts roots (sort % sorts) (i + 1) b q) (omega (arith, l.low b)));
}
roots_low (Member k) sort l = low_same l
roots_low (Fork cell test k) sort l = low_same l

module _ {cells keys : List ℕ} {i : ℕ} (room : i < rows) (size : length keys ≡ rows) (h : Shape cells keys i) where
  low_keys : (key : ℕ) → bucket_of key ≤ i → (l : ℕ) → l < i + 1 → bucket_of (entry (set keys i key) l) ≤ l
  low_keys key b l a =
      by_eq l i
      (λ q. rw (q, set_here rows keys i key size room) b)
      (λ q. rw (set_there rows keys i key l q) (h.low l (omega (arith, a, q))))

  shape_same : (key : ℕ) → bucket_of key ≤ i → Shape cells (set keys i key) (i + 1)
  shape_same key b = record { small = h.small; most = omega (arith, room); low = low_keys key b; below = λ d. omega (arith, h.below d) }

  shape_loose : Shape cells (set keys i 0) (i + 1)
  shape_loose = shape_same 0 (rw no_key (omega arith))

  shape_fork : (d key : ℕ) → d < cells_len → d / 2 < i → bucket_of key ≤ i → Shape (set cells d (i + 1)) (set keys i key) (i + 1)
  shape_fork d key inside a b =
      let there : (x : ℕ) → (x ≡ d → ⊥) → cell_at (set cells d (i + 1)) x ≡ cell_at cells x = λ x n. set_there cells_len cells d (i + 1) x n in
      let at : cell_at (set cells d (i + 1)) d ≡ i + 1 = set_here cells_len cells d (i + 1) h.small.size inside in
      let below : (x : ℕ) → cell_at (set cells d (i + 1)) x ≤ i + 1 = λ x. by_eq x d (λ q. rw (q, at) (omega arith)) (λ q. rw (there x q) (omega (arith, h.below x))) in
      record {
        small = record {
          size = length-set cells d (i + 1) ∙ h.small.size;
          high = λ x. omega (arith, below x, room);
          rise = λ x y l q.
              by_eq x d
              (λ w. let z = sym at ∙ rw w at q in rw w (omega (arith, z, a)))
              (λ w. h.small.rise x y l (sym (there x w) ∙ q));
        };
        most = omega (arith, room);
        low = low_keys key b;
        below = below;
      }

  shape_grown : (r : Found) → Storable r i → Shape (cells_with r cells i) (set keys i (key_in r)) (i + 1)
  shape_grown (Same row) s = shape_loose
  shape_grown Loose s = shape_loose
  shape_grown Root s = shape_loose
  shape_grown (Member key) s = shape_same key s
  shape_grown (Fork cell test key) s = shape_fork cell key s.0 s.1 s.2

-- what is stored leaves the trees sound
pub sound_grown : {t t' : ListTrees} {i sort : ℕ} {r : Found} → i < rows → Sound t i → Storable r i → Grown t i sort r t' → Chained t'.members (i + 1)
    → Grown t i sort r t' × Sound t' (i + 1)
sound_grown {sort = sort} {r = r} room h s g m = (
  g,
  record { roots = rw g.roots_set (roots_low r sort h.roots); shape = rw (g.cells_set, g.keys_set) (shape_grown room h.members.size h.shape r s); members = m },
)

shape_none : Shape (replicate cells_len 0) (replicate rows 0) 0
shape_none = record {
  small = record {
    size = length-replicate {A = ℕ} cells_len 0;
    high = λ d. omega (arith, zeros_get cells_len d);
    rise = λ d g h e. absurd (omega (arith, e, zeros_get cells_len d));
  };
  most = omega arith;
  low = λ l h. absurd (omega arith);
  below = λ d. omega (arith, zeros_get cells_len d);
}

roots_none : RootsLow (replicate sorts 0) 0
roots_none = record { size = length-replicate {A = ℕ} sorts 0; low = λ b. omega (arith, zeros_get sorts b) }

pub sound_bare : {t : ListTrees} → Bare t → Chained t.members 0 → Bare t × Sound t 0
sound_bare b m = (b, record { roots = rw b.roots_bare roots_none; shape = rw (b.cells_bare, b.keys_bare) shape_none; members = m })
