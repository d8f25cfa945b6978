-- The table is right, one row after the other.
--     Built         what is known when the rows below i are done
--     built_none    at the start
--     built_more    row i
--     built-kept    the same from what was kept of it
--     numbers       at the end
-- That the rows are right is known of a table where each row refers only to smaller ones; the rest of any.
-- Assumes nothing.
use mathlib.Core.Path.{◌≡◌, refl, sym, ap, ◌∙◌}
use mathlib.Core.List.{List}
use mathlib.Core.Bool.{Bool, true, false, not, ◌&&◌, ◌||◌, or_assoc}
use Prim.Native.Nat.{ℕ, ◌+◌, ◌-◌, ◌*◌, ◌/◌, ◌%◌, ◌<◌, ◌≤◌}
use native.Mathlib.Omega.{arith}
use lib.Dec.{eqb}
use lib.ListN.{length, get_or, set, length-set, replicate, length-replicate}
use lib.Seq.{get_or-set_same, get_or-set_other}
use borrow.Author.Tests.{eqb-true, eqb-false, eq-eqb, ne_eqb, leb-true, not-true}
use Rattle.laws.specs.First.{all}
use Rattle.laws.specs.Lists.{bit}
use Rattle.laws.specs.Bounded.{get, put}
use Rattle.laws.proofs.First.{all_true, all_each}
use Rattle.laws.proofs.Tests.{same_test, all_same, or_right}
use Rattle.laws.proofs.Bounded.{get_in, get_out, put_in, put_out, by_bound}
use Rattle.laws.proofs.Choice.{yes, no, by_test, by_eq, and_both, fails}
use Rattle.pack.specs.Rows.{type_row}
use Rattle.pack.specs.Lists.{list_word}
use Rattle.pack.specs.Named.{parts_of}
use Rattle.pack.specs.declared.counts.Counts.{Counts}
use Rattle.unionfind.proofs.Chains.{not_both}
use Rattle.structure.specs.Structure.{rows, PartsSmaller, equal, row_number, is_var_kind, any_of, holds}
use Rattle.structure.specs.Lists.{words, len_at, part_at, sort_of, Within, fits, part_place, Spot, part, name, seen}
use Rattle.structure.specs.Table.{Clear, entry, held_in, code_at, first_of, key_of, mark_of, has_key, Hit, entry_or, Numbers}
use Rattle.structure.specs.Facts.{slots, has_list, row_in, Unplaced, Finds, used, walked, searched, FactsTold, ListKept, RowKept}
use Rattle.structure.specs.Words.{looks, look_at, Read, Noted, WordsHeld}
use Rattle.structure.specs.Tree.{cell_at, sorts, root_at, place_of, member_key, Compared, Apart, Ended, old, fork, ended, missed, Finding, first, below, Sound, Bare, roots_with, cells_with, test_in, key_in, Grown, Walked, Shape}
use Rattle.structure.specs.declared.tree.Stop.{Stop}
use Rattle.structure.specs.declared.finding.Found.{Found}
use Rattle.structure.specs.declared.finding.Found.TheVariants.{Same, Loose, Root, Member, Fork}
use Rattle.std.specs.Prelude.{Option, None, Some}
use Rattle.std.proofs.lemmas.Option.{none-some}
use Rattle.structure.specs.declared.facts.ListFacts.{ListFacts}
use Rattle.structure.specs.declared.facts.KnownLists.{KnownLists}
use Rattle.structure.specs.declared.buckets.Chains.{Chains}
use Rattle.structure.specs.declared.table.TypeTable.{TypeTable}
use Rattle.structure.specs.declared.tree.ListTrees.{ListTrees}
use Rattle.structure.proofs.Arrays.{zeros_at, Filled, filled_none, filled_more, filled_entry, Empty, empty_more}
use Rattle.structure.proofs.Pairs.{both_true, bit_test, bit_zero}
use Rattle.structure.proofs.Flat.{part_in, return_in, AnyPart, any_part}
use Rattle.structure.proofs.Reps.{rep_le, rep_is, rep_same, rep_none}
use Rattle.structure.proofs.Equal.{equivalence, equal_number, number_equal, number_le, holds_step, holds_equal}
use Rattle.structure.proofs.Keys.{slot_at, Like, is_like, like_is, row_like, like_equivalence, Agree, like_agree, list_number, row_key, key_of_lem, equal_key, key_equal}
use Rattle.structure.proofs.Spots.{span_pairs, span_types, look_is, spot_small}
use Rattle.structure.proofs.Views.{sort_half, sort_odd, part_word, part_below, like_seen, seen_like, look_seen}
use Rattle.structure.proofs.Forest.{Forest, forest_none, forest_same, forest_root, forest_member, forest_fork, met, fork_view, row_sort}

-- three tests, of which the last two are others
three : (a : Bool) {b d x y : Bool} → b ≡ x → d ≡ y → (a || d || b) ≡ (a || (y || x))
three a {b = b} {d = d} {x = x} {y = y} e q = rw (e, q) (or_assoc a y x)

-- a number and a bit as one
pub bit_small : (b : Bool) → bit b < 2
bit_small true = omega arith
bit_small false = omega arith

half : (a b x y : ℕ) → x < 2 → y < 2 → 2 * a + x ≡ 2 * b + y → a ≡ b
half a b x y h l e = omega arith

odd_part : (a b x y : ℕ) → x < 2 → y < 2 → 2 * a + x ≡ 2 * b + y → x ≡ y
odd_part a b x y h l e = omega arith

odd_mark : (a x : ℕ) → x < 2 → (2 * a + x) % 2 ≡ x
odd_mark a x h = omega arith

-- what each array is to have for row k
module _ (p : List ℕ) (c : Counts) where
  abbrev pub mark : ℕ → ℕ
  mark k = bit (holds p c k)

  abbrev pub list_held : ℕ → ℕ
  list_held k = bit (held_in p c mark (slot_at p c k))

  -- what is known of type k in the words that name it
  abbrev pub coded : ℕ → ℕ
  coded k = 2 * row_number p c k + mark k

  -- the trees of lists: a list is new where its row is the first that has it
  abbrev pub sort_at : ℕ → ℕ
  sort_at k = sort_of p c (slot_at p c k)

  abbrev pub view_at : ℕ → ℕ → ℕ
  view_at k = seen p c coded (slot_at p c k)

  abbrev pub Trees : ℕ → ListTrees → Type 0
  Trees i t = Forest sort_at view_at (λ k. list_number p c k ≡ k) i t.roots t.cells t.tests t.members.keys

  pub record Right (fit : Bool) (i : ℕ) (q : KnownLists) (ks ss ms look : List ℕ) : Type 0 where
    pub numbers : Filled (list_number p c) q.numbers i
    pub helds : Filled list_held q.helds i
    pub keys : Filled (row_key p c) ks i
    pub same : Filled (row_number p c) ss i
    pub marks : Filled mark ms i
    pub typed : (k : ℕ) → k < words → list_word p c k < i → get looks look k ≡ coded (list_word p c k)
    pub trees : fit ≡ true → Trees i q.trees

  -- for each list, one more than a row below i that has it, or 0
  pub record Users (i : ℕ) (users : List ℕ) : Type 0 where
    pub size : length users ≡ slots
    pub row : (s : ℕ) → (get_or users s 0 ≡ 0 → ⊥) → get_or users s 0 - 1 < i
    pub slot : (s : ℕ) → (get_or users s 0 ≡ 0 → ⊥) → slot_at p c (get_or users s 0 - 1) ≡ s

  pub record Built (fit : Bool) (i : ℕ) (q : KnownLists) (ks ss ms look : List ℕ) : Type 0 where
    pub users : Users i q.users
    pub right : PartsSmaller p c → Right fit i q ks ss ms look
    pub size : length ss ≡ rows
    pub size_marks : length ms ≡ rows
    pub rest : Empty ss i
    pub rest_marks : Empty ms i
    pub read : Read p c look words

  users_set_lem : {i s : ℕ} {users : List ℕ} → Users i users → s < slots → s ≡ slot_at p c i → Users (i + 1) (set users s (i + 1))
  users_set_lem {i = i} {s = s} {users = users} u h e = record {
    size = length-set users s (i + 1) ∙ u.size;
    row = λ t n.
        by_eq t s
        (λ q. rw (q, same) (omega arith))
        (λ q. let o = get_or-set_other users s t (i + 1) 0 q in rw o (omega (arith, u.row t (λ z. n (o ∙ z)))));
    slot = λ t n.
        by_eq t s
        (λ q. let z : i + 1 - 1 ≡ i = omega arith in rw (q, same, z) (sym e))
        (λ q. let o = get_or-set_other users s t (i + 1) 0 q in rw o (u.slot t (λ z. n (o ∙ z))));
  }
    where
      same : get_or (set users s (i + 1)) s 0 ≡ i + 1
      same = get_or-set_same users s (i + 1) 0 (omega (arith, u.size))

  users_kept : {i : ℕ} {users : List ℕ} → Users i users → Users (i + 1) users
  users_kept u = record { size = u.size; row = λ t n. let h = u.row t n in omega arith; slot = u.slot }

  users_more : {i s : ℕ} {users : List ℕ} → Users i users → s ≡ slot_at p c i → Users (i + 1) (put slots users s (i + 1))
  users_more {i = i} {s = s} {users = users} u e =
      by_bound slots users s
      (λ h. rw (← put_in slots users s (i + 1) h) (users_set_lem u h e))
      (λ h. rw (← put_out slots users s (i + 1) h) (users_kept u))

  -- ---- row i, where each row refers only to smaller ones

  -- a list that fits has no places, or lies in the words that there is room for
  fit_within : (k : ℕ) → fits p c (slot_at p c k) ≡ true → (sort_at k ≡ 0 → ⊥) → Within (slot_at p c k) (sort_at k)
  unfolding fits
  fit_within k e n = leb-true _ _ (or_right (eqb (sort_at k) 0) _ e (ne_eqb (sort_at k) 0 n))

  no_spot : {o : ℕ} → Spot 0 o → ⊥
  no_spot (part m h e) = omega arith
  no_spot (name m h e q) = omega arith

  module _ (small : PartsSmaller p c) {fit : Bool} {i : ℕ} (inside : i < c.types) (room : i < rows)
      {known : KnownLists} {keys same marks look : List ℕ} (done : Right fit i known keys same marks look) where
    same_at_lem : (k : ℕ) → k < i → entry same k ≡ row_number p c k
    same_at_lem = filled_entry done.same (omega arith)

    marks_at : (k : ℕ) → k < i → entry marks k ≡ mark k
    marks_at = filled_entry done.marks (omega arith)

    part_low : (j m : ℕ) → j < c.types → m < len_at p c (slot_at p c j) → part_at p c (slot_at p c j) m < j
    part_low j m t h = small j _ t (part_in p c j m h)

    agree : (j : ℕ) → j ≤ i → Agree p c (entry same) (row_number p c) (slot_at p c j)
    agree j h m l = same_at_lem _ (omega (arith, part_low j m (omega arith) l))

    agree_back : (j : ℕ) → j ≤ i → Agree p c (row_number p c) (entry same) (slot_at p c j)
    agree_back j h m l = sym (agree j h m l)

    held_agree : (s : ℕ) → Agree p c (entry marks) mark s → held_in p c (entry marks) s ≡ held_in p c mark s
    unfolding held_in
    held_agree s q = ap not (all_same _ _ (len_at p c s) (λ m h. ap (λ (x : ℕ). eqb x 0) (q m h)))

    marks_agree : Agree p c (entry marks) mark (slot_at p c i)
    marks_agree m l = marks_at _ (part_low i m inside l)

    -- by number, and by number and mark
    to_coded : (j k : ℕ) → j ≤ i → k ≤ i → Like p c (row_number p c) (slot_at p c j) (slot_at p c k) → Like p c coded (slot_at p c j) (slot_at p c k)
    to_coded j k a b l = record {
      sorts = l.sorts;
      lens = l.lens;
      names = l.names;
      parts = λ m h.
          let e = l.parts m h in
          let x = part_low j m (omega arith) h in
          let y = part_low k m (omega arith) (rw l.lens at h) in
          let q = holds_equal p c small _ _ (omega (arith, x, inside)) (omega (arith, y, inside)) (number_equal p c small _ _ (omega (arith, x, inside)) (omega (arith, y, inside)) e) in
          rw (e, q) refl;
    }

    from_coded : {s t : ℕ} → Like p c coded s t → Like p c (row_number p c) s t
    from_coded l = record {
      sorts = l.sorts;
      lens = l.lens;
      names = l.names;
      parts = λ m h. half _ _ _ _ (bit_small (holds p c _)) (bit_small (holds p c _)) (l.parts m h);
    }

    -- lists that look the same hold the same
    held_like : (k : ℕ) → k ≤ i → Like p c coded (slot_at p c k) (slot_at p c i) → held_in p c mark (slot_at p c k) ≡ held_in p c mark (slot_at p c i)
    unfolding held_in
    held_like k a l =
        ap not
        (all_same _ _ (len_at p c (slot_at p c k))
        (λ m h. ap (λ (x : ℕ). eqb x 0) (odd_part _ _ _ _ (bit_small (holds p c _)) (bit_small (holds p c _)) (l.parts m h)))
        ∙ ap (λ (n : ℕ). all (λ m. eqb (mark (part_at p c (slot_at p c i) m)) 0) 0 n) l.lens)

    -- what is told of the list of row i is right
    pub record ListRight (l : ListFacts) : Type 0 where
      pub number : l.number ≡ list_number p c i
      pub held : l.held ≡ held_in p c mark (slot_at p c i)

    LikeRow : ℕ → Type 0
    LikeRow k = row_like p c (row_number p c) k i ≡ true

    number_like : (k : ℕ) → k < i → row_like p c (row_number p c) k i ≡ true → list_number p c k ≡ list_number p c i
    number_like k h e = rep_same (like_equivalence p c (row_number p c) c.types) k i (omega arith) inside e

    module _ {s sort : ℕ} {r : Found} {l : ListFacts} (told : FactsTold p c marks look known fit i s sort r l) where
      from_row : (k : ℕ) → k < i → row_in r ≡ Some k → row_like p c (row_number p c) k i ≡ true → ListRight l
      from_row k h e t =
          let f = rw e at told.told in
          record {
            number = f.0 ∙ filled_entry done.numbers (omega arith) k h ∙ number_like k h t;
            held = f.1
                ∙ ap (λ (x : ℕ). not (eqb x 0)) (filled_entry done.helds (omega arith) k h)
                ∙ bit_test _
                ∙ held_like k (omega arith) (to_coded k i (omega arith) (omega arith) (is_like p c (row_number p c) _ _ t));
          }

      words_held : s ≡ slot_at p c i → sort ≡ sort_at i → fits p c (slot_at p c i) ≡ true → {b : Bool} → WordsHeld look s sort b → b ≡ held_in p c mark (slot_at p c i)
      unfolding held_in
      words_held e q f {b = b} w =
          by_eq (sort_at i) 0
          (λ z.
          w.empty (q ∙ z)
          ∙ ap not (sym (all_true (λ m. eqb (mark (part_at p c (slot_at p c i) m)) 0) (len_at p c (slot_at p c i)) (λ m h. absurd (omega (arith, h, sort_half p c (slot_at p c i), z))))))
          (λ n.
          let y = fit_within i f n in
          let x = w.held (rw (e, q) y) in
          let v = rw (e, q) at x in
          v
          ∙ ap not
          (all_same _ _ (sort_at i / 2)
          (λ m h.
          let g : m < len_at p c (slot_at p c i) = omega (arith, h, sort_half p c (slot_at p c i)) in
          let o : sort_at i % 2 ≡ slot_at p c i % 2 = sort_odd p c (slot_at p c i) in
          let u = part_below p c (slot_at p c i) m y g in
          let d : get looks look (slot_at p c i / 2 + part_place (slot_at p c i % 2) m) ≡ coded (part_at p c (slot_at p c i) m) =
          done.typed _ u (rw (part_word p c (slot_at p c i) m) (part_low i m inside g)) ∙ ap coded (part_word p c (slot_at p c i) m)
          in
          rw (o, d) (ap (λ (k : ℕ). eqb k 0) (odd_mark _ _ (bit_small (holds p c _)))))
          ∙ ap (λ (k : ℕ). all (λ m. eqb (mark (part_at p c (slot_at p c i) m)) 0) 0 k) (sort_half p c (slot_at p c i))))

      from_none : row_in r ≡ None → s ≡ slot_at p c i → sort ≡ sort_at i → (fit ≡ true → fits p c (slot_at p c i) ≡ true)
          → ((k : ℕ) → k < i → row_like p c (row_number p c) k i ≡ false) → ListRight l
      from_none e q w f none =
          let n = rw e at told.told in
          record {
            number = n.0 ∙ sym (rep_none (like_equivalence p c (row_number p c) c.types) i inside none);
            held = by_test fit
                (λ t. words_held q w (f t) (n.1.words t))
                (λ t. n.1.pack t ∙ ap (held_in p c (entry marks)) q ∙ held_agree (slot_at p c i) marks_agree);
          }

    -- ---- what the walk finds

    module _ (read : Read p c look words) (fitted : (k : ℕ) → k ≤ i → fits p c (slot_at p c k) ≡ true) where
      look_view : (k : ℕ) → k ≤ i → (o : ℕ) → Spot (sort_at k) o → look_at look (slot_at p c k) o ≡ view_at k o
      look_view k h o q =
          by_eq (sort_at k) 0
          (λ z. absurd (no_spot (rw z at q)))
          (λ n. look_seen p c coded look i read.word done.typed (slot_at p c k) (fit_within k (fitted k h) n) (λ m l. omega (arith, part_low k m (omega arith) l)) o q)

      like_of_views : (k : ℕ) → k < i → sort_at k ≡ sort_at i → ((o : ℕ) → Spot (sort_at i) o → view_at k o ≡ view_at i o) → row_like p c (row_number p c) k i ≡ true
      like_of_views k h e q =
          like_is p c (row_number p c) _ _
          (by_eq (sort_at i) 0
          (λ z.
          let n : len_at p c (slot_at p c k) ≡ 0 = omega (arith, sort_half p c (slot_at p c k), e, z) in
          record { sorts = e; lens = omega (arith, n, sort_half p c (slot_at p c i), z); names = λ m l. absurd (omega (arith, l, n)); parts = λ m l. absurd (omega (arith, l, n)) })
          (λ n.
          from_coded
          (seen_like p c coded (slot_at p c k) (slot_at p c i) (fit_within k (fitted k (omega arith)) (λ z. n (sym e ∙ z))) (fit_within i (fitted i (omega arith)) n) e (λ o s. q o (rw e at s)))))

      views_of_like : (k : ℕ) → k < i → row_like p c (row_number p c) k i ≡ true → (sort_at k ≡ sort_at i) × ((o : ℕ) → Spot (sort_at i) o → view_at k o ≡ view_at i o)
      views_of_like k h t =
          let l = is_like p c (row_number p c) _ _ t in
          let e = l.sorts in (
            e,
            λ o q.
                by_eq (sort_at i) 0
                (λ z. absurd (no_spot (rw z at q)))
                (λ n.
                like_seen p c coded (slot_at p c k) (slot_at p c i) (fit_within k (fitted k (omega arith)) (λ z. n (sym e ∙ z))) (fit_within i (fitted i (omega arith)) n) (to_coded k i (omega arith) (omega arith) l) o (rw (← e) at q)),
          )

      -- no row looks the same where no first row does
      none_first : ((r : ℕ) → r < i → list_number p c r ≡ r → row_like p c (row_number p c) r i ≡ true → ⊥) → (k : ℕ) → k < i → row_like p c (row_number p c) k i ≡ false
      none_first no_row k h =
          by_test (row_like p c (row_number p c) k i)
          (λ t.
          let E = like_equivalence p c (row_number p c) c.types in
          let r = list_number p c k in
          let b : r ≤ k = rep_le (row_like p c (row_number p c)) k in
          let y : row_like p c (row_number p c) r k ≡ true = rep_is E k (omega arith) in
          absurd (no_row r (omega (arith, b, h)) (rep_same E r k (omega (arith, b, h)) (omega arith) y) (E.transitive r k i (omega (arith, b, h)) (omega arith) inside y t)))
          (λ t. t)

      sort_small : sort_at i < sorts
      sort_small =
          by_eq (sort_at i) 0
          (λ z. omega (arith, z))
          (λ n.
          let w = fit_within i (fitted i (omega arith)) n in
          by_eq (sort_at i % 2) 1
          (λ e. omega (arith, w, span_pairs (sort_at i) e))
          (λ e. omega (arith, w, span_types (sort_at i) e)))

      root_is_lem : root_at known.trees.roots (sort_at i) ≡ get sorts known.trees.roots (sort_at i)
      root_is_lem = let e : sort_at i % sorts ≡ sort_at i = omega (arith, sort_small) in ap (λ (b : ℕ). get sorts known.trees.roots b) e

      module _ (F : Trees i known.trees) (shape : Shape known.trees.cells known.trees.members.keys i)
          {l : ListFacts} {r : Found} (told : FactsTold p c marks look known fit i (slot_at p c i) (sort_at i) r l)
          {trees' : ListTrees} (grown : Grown known.trees i (sort_at i) r trees') where
        pub record Placed : Type 0 where
          pub right : ListRight l
          pub trees : Trees (i + 1) trees'

        roots_set_lem : roots_with Root known.trees.roots (sort_at i) i ≡ set known.trees.roots (sort_at i) (i + 1)
        roots_set_lem = let q : sort_at i % sorts ≡ sort_at i = omega (arith, sort_small) in ap (λ (b : ℕ). set known.trees.roots b (i + 1)) q

        -- the trees, with what was found stored
        stored : {f : Found} → r ≡ f
            → Forest sort_at view_at (λ k. list_number p c k ≡ k) (i + 1) (roots_with f known.trees.roots (sort_at i) i) (cells_with f known.trees.cells i) (set known.trees.tests i (test_in f))
            (set known.trees.members.keys i (key_in f))
            → Trees (i + 1) trees'
        stored e t = rw (grown.roots_set, grown.cells_set, grown.tests_set, grown.keys_set, e) t

        -- a row that looks the same: nothing is stored
        pub placed_old : (k : ℕ) → k < i → row_like p c (row_number p c) k i ≡ true → r ≡ Same k → Placed
        placed_old k h t says = record {
          right = from_row told k h (ap row_in says) t;
          trees = stored says
              (forest_same sort_at view_at (λ k. list_number p c k ≡ k) F (omega arith) room
              (λ e. let b = rep_le (row_like p c (row_number p c)) k in let q = number_like k h t in omega (arith, b, q, e, h)));
        }

        new_right : row_in r ≡ None → ((q : ℕ) → q < i → list_number p c q ≡ q → row_like p c (row_number p c) q i ≡ true → ⊥) → ListRight l
        new_right e no_row = from_none told e refl refl (λ t. fitted i (omega arith)) (none_first no_row)

        placed_root : root_at known.trees.roots (sort_at i) ≡ 0 → r ≡ Root → Placed
        placed_root z says = record {
          right = new_right (ap row_in says)
              (λ q h kept t.
              let s = (F.stands q h kept).at in
              let e = (views_of_like q h t).0 in
              let y = rw e at s in
              omega (arith, y, root_is_lem, z));
          trees = stored says
              (rw roots_set_lem
              (forest_root sort_at view_at (λ k. list_number p c k ≡ k) F (omega arith) room sort_small (sym root_is_lem ∙ z)));
        }

        module _ {k : ℕ} (rooted : root_at known.trees.roots (sort_at i) ≡ k + 1) {z : Stop} (w : Walked (look_at look (slot_at p c i)) known.trees.cells known.trees.tests known.trees.members.keys i k z) where
          at_root : get sorts known.trees.roots (sort_at i) ≡ k + 1
          at_root = sym root_is_lem ∙ rooted

          found_at : (q : ℕ) → q < i → list_number p c q ≡ q → row_like p c (row_number p c) q i ≡ true → (cell_at known.trees.cells z.cell ≡ 0) × (z.row ≡ q)
          found_at q h kept t =
              let v = views_of_like q h t in
              met sort_at view_at (λ k. list_number p c k ≡ k) F (omega arith) (look_at look (slot_at p c i)) (look_view i (omega arith)) at_root w q h kept v.0 v.1

          row_like_lem : sort_at z.row ≡ sort_at i
          row_like_lem = row_sort sort_at view_at (λ k. list_number p c k ≡ k) F (omega arith) (look_at look (slot_at p c i)) (look_view i (omega arith)) at_root w

          low_row : z.row ≤ i
          low_row = omega (arith, w.below)

          -- a place of the list is one of the row's
          row_view : (o : ℕ) → Spot (sort_at i) o → look_at look (slot_at p c z.row) o ≡ view_at z.row o
          row_view o q = look_view z.row low_row o (rw row_like_lem q)

          by_words : (sort_at i ≡ 0 → ⊥) → (q : ℕ) → Spot (sort_at i) q
              → (look_at look (slot_at p c i) q ≡ get looks look (slot_at p c i / 2 + q)) × (look_at look (slot_at p c z.row) q ≡ get looks look (slot_at p c z.row / 2 + q))
          by_words n q s =
              let y = fit_within z.row (fitted z.row low_row) (λ k. n (sym row_like_lem ∙ k)) in (
                look_is look (slot_at p c i) q (spot_small _ _ q (fit_within i (fitted i (omega arith)) n) s),
                look_is look (slot_at p c z.row) q (spot_small _ _ q (rw row_like_lem at y) s),
              )

          module _ {f : Option ℕ} (compared : Compared look (slot_at p c i) (slot_at p c z.row) (sort_at i) f) where
            apart : (sort_at i ≡ 0 → ⊥) → Apart look (slot_at p c i / 2) (slot_at p c z.row / 2) (sort_at i) f
            apart n =
                let y = fit_within z.row (fitted z.row low_row) (λ q. n (sym row_like_lem ∙ q)) in
                compared.apart (fit_within i (fitted i (omega arith)) n) (rw row_like_lem at y)

          alike : Compared look (slot_at p c i) (slot_at p c z.row) (sort_at i) None → (q : ℕ) → Spot (sort_at i) q → view_at z.row q ≡ view_at i q
          alike compared q s =
              by_eq (sort_at i) 0
              (λ y. absurd (no_spot (rw y at s)))
              (λ n.
              let b = by_words n q s in
              sym (row_view q s) ∙ b.1 ∙ sym ((apart compared n).told q s) ∙ sym b.0 ∙ look_view i (omega arith) q s)

          differs : {o : ℕ} → Compared look (slot_at p c i) (slot_at p c z.row) (sort_at i) (Some o) → Spot (sort_at i) o × (view_at i o ≡ look_at look (slot_at p c z.row) o → ⊥)
          differs {o = o} compared =
              let m : sort_at i ≡ 0 → ⊥ = λ y. none-some _ (sym (compared.empty y)) in
              let d = (apart compared m).told in
              let b = by_words m o d.1 in
              (d.1, λ q. d.2 (sym b.0 ∙ look_view i (omega arith) o d.1 ∙ q ∙ b.1))

          placed_end : cell_at known.trees.cells z.cell ≡ 0 → Ended p look i (slot_at p c i) (sort_at i) z.cell z.row r → Placed
          placed_end e (old q says) = placed_old z.row w.below (like_of_views z.row w.below row_like_lem (alike q)) says
          placed_end e (fork o q small says) =
              let d = differs q in
              let own = look_at look (slot_at p c z.row) o in
              let x = look_view i (omega arith) o d.0 in
              record {
                right = new_right (ap row_in says)
                    (λ m h kept t.
                    let f = (found_at m h kept t).1 in
                    let y = (views_of_like m h t).1 o d.0 in
                    d.1 (sym y ∙ ap (λ (k : ℕ). view_at k o) (sym f) ∙ sym (row_view o d.0)));
                trees = stored says
                    (rw x
                    (forest_fork sort_at view_at (λ k. list_number p c k ≡ k) F (omega arith) room (look_at look (slot_at p c i)) (look_view i (omega arith)) at_root w e o own d.0 small (sym (row_view o d.0)) d.1 shape.low));
              }

          placed_member : (g : ℕ) → cell_at known.trees.cells z.cell ≡ g + 1 → r ≡ Member (member_key g (look_at look (slot_at p c i) (place_of known.trees.tests g))) → Placed
          placed_member g e says =
              let x = fork_view sort_at view_at (λ k. list_number p c k ≡ k) F (omega arith) (look_at look (slot_at p c i)) (look_view i (omega arith)) at_root w g e in
              record {
                right = new_right (ap row_in says) (λ m h kept t. let y = (found_at m h kept t).0 in omega (arith, y, e));
                trees = stored says
                    (rw x
                    (forest_member sort_at view_at (λ k. list_number p c k ≡ k) F (omega arith) room (look_at look (slot_at p c i)) (look_view i (omega arith)) at_root w g e));
              }

        placed : Finding p look known.trees i (slot_at p c i) (sort_at i) r → Placed
        placed (first e says) = placed_root e says
        placed (below k e (ended z w x d)) = placed_end e w x d
        placed (below k e (missed z g w x says)) = placed_member e w g x says

    -- ---- what is found

    module _ (read : Read p c look words) (fitted : fit ≡ true → (k : ℕ) → k ≤ i → fits p c (slot_at p c k) ≡ true) (shape : Shape known.trees.cells known.trees.members.keys i)
        (u : Users i known.users) {s sort : ℕ} (slot_is : s ≡ slot_at p c i) (sort-is : sort ≡ sort_at i)
        {l : ListFacts} {r : Found} (told : FactsTold p c marks look known fit i s sort r l)
        {trees' : ListTrees} (grown : Grown known.trees i sort r trees') where
      pub record Outcome : Type 0 where
        pub right : ListRight l
        pub trees : fit ≡ true → Trees (i + 1) trees'

      told_i : FactsTold p c marks look known fit i (slot_at p c i) (sort_at i) r l
      told_i = rw (slot_is, sort-is) at told

      grown_i : Grown known.trees i (sort_at i) r trees'
      grown_i = rw sort-is at grown

      same_list : (k : ℕ) → slot_at p c k ≡ s → row_like p c (row_number p c) k i ≡ true
      same_list k e = rw (e ∙ slot_is) ((like_equivalence p c (row_number p c) c.types).reflexive i inside)

      hit_like : (k : ℕ) → k < i → has_list p c same s k ≡ true → row_like p c (row_number p c) k i ≡ true
      hit_like k h t =
          like_is p c (row_number p c) _ _
          (like_agree p c (entry same) (row_number p c) (slot_at p c k) (slot_at p c i) (agree k (omega arith)) (agree i (omega arith)) (is_like p c (entry same) _ _ (rw slot_is at t)))

      hit_none : (k : ℕ) → k < i → has_list p c same s k ≡ false → row_like p c (row_number p c) k i ≡ false
      hit_none k h f =
          by_test (row_like p c (row_number p c) k i)
          (λ t.
          absurd
          (not_both (rw slot_is at f)
          (like_is p c (entry same) _ _
          (like_agree p c (row_number p c) (entry same) (slot_at p c k) (slot_at p c i) (agree_back k (omega arith)) (agree_back i (omega arith)) (is_like p c (row_number p c) _ _ t)))))
          (λ t. t)

      searched_right : (f : Found) → FactsTold p c marks look known fit i (slot_at p c i) (sort_at i) f l → fit ≡ false → Unplaced f → Hit (has_list p c same s) i (row_in f) → ListRight l
      searched_right (Same k) o q u hit = from_row o k hit.0 refl (hit_like k hit.0 hit.1)
      searched_right Loose o q u hit = from_none o refl refl refl (λ y. absurd (not_both q y)) (λ m b. hit_none m b (hit m b))
      searched_right Root o q u hit = absurd u
      searched_right (Member key) o q u hit = absurd u
      searched_right (Fork cell test key) o q u hit = absurd u

      pub outcome : Finds p c same look known fit i s sort r → Outcome
      outcome (used k e says) =
          let small_slot : s < slots = by_bound slots known.users s (λ h. h) (λ h. absurd (omega (arith, e, get_out slots known.users s h))) in
          let g : get_or known.users s 0 ≡ k + 1 = get_in slots known.users s small_slot ∙ e in
          let n : get_or known.users s 0 ≡ 0 → ⊥ = λ q. omega (arith, q, g) in
          let y : get_or known.users s 0 - 1 ≡ k = omega (arith, g) in
          let h : k < i = rw y at (u.row s n) in
          let t = same_list k (rw y at (u.slot s n)) in
          record { right = from_row told_i k h (ap row_in says) t; trees = λ q. (placed_old read (fitted q) (done.trees q) shape told_i grown_i k h t says).trees }
      outcome (walked q f) =
          let x = placed read (fitted q) (done.trees q) shape told_i grown_i (rw (slot_is, sort-is) at f) in
          record { right = x.right; trees = λ y. x.trees }
      outcome (searched q hit u) = record { right = searched_right r told_i q u hit; trees = λ y. absurd (not_both q y) }

    -- ---- the key, the number and the mark of row i

    first_right : first_of (entry same) (type_row p i) ≡ first_of (row_number p c) (type_row p i)
    unfolding first_of
    first_right =
        by_eq (type_row p i).kind 6
        (λ k.
        let h : (type_row p i).a < i = small i _ inside (return_in p c i k) in
        sym (yes _ _ _ (eq-eqb _ _ k) refl) ∙ same_at_lem _ h ∙ yes _ _ _ (eq-eqb _ _ k) refl)
        (λ k. sym (no _ _ _ (ne_eqb _ _ k) refl) ∙ no _ _ _ (ne_eqb _ _ k) refl)

    pub key_right : {l : ListFacts} → ListRight l → {key : ℕ} → key ≡ key_of (type_row p i).kind (first_of (entry same) (type_row p i)) l.number → key ≡ row_key p c i
    key_right r e = e ∙ key_of_lem _ _ _ _ _ _ refl first_right r.number

    module _ {key : ℕ} (e : key ≡ row_key p c i) where
      apart_key : (k : ℕ) → k < i → eqb (entry keys k) key ≡ false → equal p c k i ≡ false
      apart_key k h f =
          by_test (equal p c k i)
          (λ t. absurd (eqb-false _ _ f (filled_entry done.keys (omega arith) k h ∙ equal_key p c small k i (omega arith) inside t ∙ sym e)))
          (λ t. t)

      number_found : (r : Option ℕ) → Hit (has_key keys key) i r → entry_or same r i ≡ row_number p c i
      unfolding row_number
      number_found None hit = sym (rep_none (equivalence p c small) i inside (λ k h. apart_key k h (hit k h)))
      number_found (Some r) hit =
          let h : r < i = hit.0 in
          let k : row_key p c r ≡ row_key p c i = sym (filled_entry done.keys (omega arith) r h) ∙ eqb-true _ _ hit.1 ∙ e in
          same_at_lem r h ∙ equal_number p c small r i (omega arith) inside (key_equal p c small r i (omega arith) inside (omega arith) room k)

    pub number_right : {key : ℕ} → key ≡ row_key p c i → (r : Option ℕ) {x : ℕ} → Hit (has_key keys key) i r → x ≡ entry_or same r i → x ≡ row_number p c i
    number_right e r hit q = q ∙ number_found e r hit

    -- the parts of row i that hold a variable
    held_parts : ((eqb (type_row p i).kind 6 && holds p c (type_row p i).a) || held_in p c mark (slot_at p c i)) ≡ any_of (holds p c) (parts_of p c i)
    unfolding held_in
    held_parts = same_test _ _ there back
      where
        any : AnyPart p c (holds p c) i (any_of (holds p c) (parts_of p c i))
        any = any_part p c (holds p c) i

        six : Bool
        six = eqb (type_row p i).kind 6 && holds p c (type_row p i).a

        listless : ℕ → Bool
        listless m = eqb (mark (part_at p c (slot_at p c i) m)) 0

        none : Bool
        none = all listless 0 (len_at p c (slot_at p c i))

        -- where no part does, the list has none
        quiet : any_of (holds p c) (parts_of p c i) ≡ false → (m : ℕ) → m < len_at p c (slot_at p c i) → eqb (mark (part_at p c (slot_at p c i) m)) 0 ≡ true
        quiet f m h =
            bit_zero (holds p c (part_at p c (slot_at p c i) m))
            ∙ by_test (holds p c (part_at p c (slot_at p c i) m)) (λ t. absurd (not_both f (any.listed m h t))) (λ t. ap not t)

        there : (six || not none) ≡ true → any_of (holds p c) (parts_of p c i) ≡ true
        there t =
            by_test (any_of (holds p c) (parts_of p c i))
            (λ y. y)
            (λ f.
            let a : none ≡ true = all_true listless (len_at p c (slot_at p c i)) (quiet f) in
            by_test six
            (λ y.
            let q = and_both (eqb (type_row p i).kind 6) (holds p c (type_row p i).a) y in
            any.returned (eqb-true (type_row p i).kind 6 q.0) q.1)
            (λ y. absurd (fails (sym (rw (y, a) at t)))))

        back : any_of (holds p c) (parts_of p c i) ≡ true → (six || not none) ≡ true
        back t =
            by_test six
            (λ y. rw y)
            (λ y.
            by_test none
            (λ z.
            absurd
            (not_both
            (any.none
            (λ k.
            by_test (holds p c (type_row p i).a) (λ w. absurd (not_both y (both_true (eq-eqb (type_row p i).kind 6 k) w))) (λ w. w))
            (λ m h. not-true (holds p c (part_at p c (slot_at p c i) m)) (sym (bit_zero (holds p c (part_at p c (slot_at p c i) m))) ∙ all_each listless (len_at p c (slot_at p c i)) z m h)))
            t))
            (λ z. rw (y, z)))

    pub mark_right : {l : ListFacts} → ListRight l → {x : ℕ} → x ≡ mark_of (entry marks) (type_row p i) l.held → x ≡ mark i
    unfolding mark_of
    mark_right {l = l} r {x = x} e =
        let six : (eqb (type_row p i).kind 6 && not (eqb (entry marks (type_row p i).a) 0)) ≡ (eqb (type_row p i).kind 6 && holds p c (type_row p i).a) =
        by_eq (type_row p i).kind 6
        (λ k. ap (λ (b : Bool). eqb (type_row p i).kind 6 && b) (ap (λ (y : ℕ). not (eqb y 0)) (marks_at _ (small i _ inside (return_in p c i k))) ∙ bit_test _))
        (λ k. rw (ne_eqb _ _ k))
        in
        e ∙ ap bit (three (is_var_kind (type_row p i).kind) r.held six ∙ ap (λ (b : Bool). is_var_kind (type_row p i).kind || b) held_parts ∙ sym (holds_step p c small i inside))

  -- ---- the whole

  code_is : {i : ℕ} (ss ms : List ℕ) → PartsSmaller p c → i < rows → entry ss i ≡ row_number p c i → entry ms i ≡ mark i → code_at ss ms i ≡ coded i
  unfolding code_at
  code_is {i = i} ss ms small room a b =
      let n : row_number p c i ≤ i = number_le p c small i in
      let h = bit_small (holds p c i) in
      rw (a, b) (omega (arith, n, h, room))

  typed_more : {i x : ℕ} {look look' : List ℕ} → Read p c look words → ((k : ℕ) → k < words → list_word p c k < i → get looks look k ≡ coded (list_word p c k))
      → Noted look look' i x → x ≡ coded i → (k : ℕ) → k < words → list_word p c k < i + 1 → get looks look' k ≡ coded (list_word p c k)
  typed_more {i = i} {x = x} {look = look} r t n e k h l =
      let y = n.type k h in
      let z = rw (r.word k h) at y in
      by_eq (list_word p c k) i
      (λ q. z ∙ sym (yes (eqb (list_word p c k) i) x (get looks look k) (eq-eqb _ _ q) refl) ∙ e ∙ ap coded (sym q))
      (λ q. z ∙ sym (no (eqb (list_word p c k) i) x (get looks look k) (ne_eqb _ _ q) refl) ∙ t k h (omega (arith, l, q)))

  module _ {fit : Bool} {i : ℕ} {q q' : KnownLists} {t t' : TypeTable} {keys keys' : Chains} {look look' : List ℕ} (b : Built fit i q keys.keys t.same t.marks look)
      (inside : i < c.types) (room : i < rows) (fitted : fit ≡ true → (k : ℕ) → k ≤ i → fits p c (slot_at p c k) ≡ true) (sound : Sound q.trees i)
      {l : ListFacts} (kept : ListKept p c t look q fit i l q') (row : RowKept p t keys i l t' keys') {x : ℕ} (noted : Noted look look' i x) (coding : x ≡ code_at t'.same t'.marks i) where
    slot_i : kept.slot ≡ slot_at p c i
    slot_i = kept.read

    sort_i : kept.sort ≡ sort_at i
    sort_i = kept.sorted ∙ ap (sort_of p c) slot_i

    pub built_more : Built fit (i + 1) q' keys'.keys t'.same t'.marks look'
    built_more = record {
      users = rw kept.users_set (users_more b.users slot_i);
      right = λ small.
          let done = b.right small in
          let o = outcome small inside room done b.read fitted sound.shape b.users slot_i sort_i kept.told kept.grown kept.finds in
          let list = o.right in
          let k = key_right small inside room done list row.keyed in
          let same' : Filled (row_number p c) t'.same (i + 1) = rw row.same_set (filled_more done.same room (number_right small inside room done k row.row row.hit row.numbered)) in
          let marks' : Filled mark t'.marks (i + 1) = rw row.marks_set (filled_more done.marks room (mark_right small inside room done list row.marked)) in
          record {
            numbers = rw kept.numbers_set (filled_more done.numbers room list.number);
            helds = rw kept.helds_set (filled_more done.helds room (ap bit list.held));
            keys = rw row.keys_set (filled_more done.keys room k);
            same = same';
            marks = marks';
            typed = typed_more b.read done.typed noted
                (coding ∙ code_is t'.same t'.marks small room (filled_entry same' (omega (arith, room)) i (omega arith)) (filled_entry marks' (omega (arith, room)) i (omega arith)));
            trees = o.trees;
          };
      size = rw row.same_set (length-set t.same i _ ∙ b.size);
      size_marks = rw row.marks_set (length-set t.marks i _ ∙ b.size_marks);
      rest = rw row.same_set (empty_more _ b.rest);
      rest_marks = rw row.marks_set (empty_more _ b.rest_marks);
      read = record { size = noted.size; word = λ k h. noted.word k ∙ b.read.word k h };
    }

  -- where all rows' lists fit, those up to row i do
  pub fit_rows : {n i : ℕ} {fit : Bool} → fit ≡ all (λ k. fits p c (slot_at p c k)) 0 n → i < n → fit ≡ true → (k : ℕ) → k ≤ i → fits p c (slot_at p c k) ≡ true
  fit_rows {n = n} e h t k l = all_each (λ j. fits p c (slot_at p c j)) n (sym e ∙ t) k (omega arith)

  pub built_none : {fit : Bool} {q : KnownLists} {ks ss ms look : List ℕ} → q.users ≡ replicate slots 0 → Clear q.numbers → Clear q.helds → Bare q.trees → Clear ks → Clear ss → Clear ms
      → Read p c look words → Built fit 0 q ks ss ms look
  built_none u l h b k s m r = record {
    users = rw u (record {
      size = length-replicate {A = ℕ} slots 0;
      row = λ t n. absurd (n (zeros_at slots t));
      slot = λ t n. absurd (n (zeros_at slots t));
    });
    right = λ small. record {
      numbers = filled_none _ l;
      helds = filled_none _ h;
      keys = filled_none _ k;
      same = filled_none _ s;
      marks = filled_none _ m;
      typed = λ k a b. absurd (omega arith);
      trees = λ t. rw (b.roots_bare, b.cells_bare, b.tests_bare, b.keys_bare) (forest_none sort_at view_at (λ k. list_number p c k ≡ k));
    };
    size = s.size;
    size_marks = m.size;
    rest = record { from = λ j t. s.zero j };
    rest_marks = record { from = λ j t. m.zero j };
    read = r;
  }

  -- n rows are done: all of the table, or all that there is room for
  pub numbers : {fit : Bool} {n : ℕ} {q : KnownLists} {ks ss ms look : List ℕ} → Built fit n q ks ss ms look
      → n ≤ c.types → ((k : ℕ) → k < c.types → k < rows → k < n) → Numbers p c ss ms
  numbers b h all = record {
    size = b.size;
    size_marks = b.size_marks;
    number = λ small k t r. (b.right small).same.at k (all k t r);
    mark = λ small k t r. (b.right small).marks.at k (all k t r);
    rest = λ k t. b.rest.from k (omega arith);
    rest_marks = λ k t. b.rest_marks.from k (omega arith);
  }
