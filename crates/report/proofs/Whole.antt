-- In plain words: where the nodes of a list are those that were seen, each once, writing along the list leaves the area that a report leaves,
-- and clears every note.
--     words_area_lem      the area is `words_area`
--     notes_blank     no note is left
-- Assumes nothing.
use Prim.Native.Nat.{ℕ, ◌+◌, ◌*◌, ◌<◌, ◌≤◌}
use mathlib.Core.Path.{◌≡◌, refl, sym, ap, ◌∙◌}
use mathlib.Core.Bool.{true}
use mathlib.Core.List.{List, [], ◌∷◌}
use native.Mathlib.Omega.{arith}
use lib.Dec.{leb}
use lib.ListN.{length, replicate, length-replicate}
use lib.Seq.{ext_get_or}
use borrow.Author.Tests.{le-leb}
use Rattle.laws.specs.Choice.{pick}
use Rattle.laws.specs.Bounded.{get, put}
use Rattle.laws.specs.Lists.{count, In}
use Rattle.laws.proofs.Bounded.{get_in, get_other, put_length as put-size}
use Rattle.laws.proofs.Choice.{by_eq, pick_all}
use Rattle.laws.proofs.Lists.{count_same, count_other}
use Rattle.laws.proofs.Members.{in_self, by_le}
use Rattle.unionfind.specs.Cells.{Kept, Knows, Live}
use Rattle.unify.specs.Unify.{settled}
use Rattle.unify.proofs.Resolving.{resolves, kept_both}
use Rattle.structure.proofs.Arrays.{zeros_get}
use Rattle.words.specs.Notes.{nodes, code_noted, is_seen}
use Rattle.words.specs.Words.{put_word, word_of, seen_ids, put_words, words_area}
use Rattle.words.proofs.Writing.{put_length, word_same}
use Rattle.words.proofs.Promises.{puts_same, seen_in, in_seen}
use Rattle.report.specs.Report.{Report, rep, write_one, write_all}
use Rattle.report.proofs.Writing.{put_zero, one_length}

-- each number at most once in a list
abbrev pub Once : List ℕ → Type 0
Once ids = (y : ℕ) → count y ids ≤ 1

-- the words of a list's nodes have room
abbrev pub Roomy : List ℕ → List ℕ → Type 0
Roomy ids area = (y : ℕ) → In y ids → 4 * y + 4 ≤ length area

-- ---- the words

written_is : (id note : ℕ) (cells left area : List ℕ) → 4 * id + 4 ≤ length area → get nodes left id ≡ note → is_seen note ≡ true
    → write_one id (rep cells left area) ≡ rep (settled cells (code_noted note)) (put nodes left id 0) (put_word area id (word_of cells note))
unfolding write_one pick
written_is id note cells left area l e t = rw (le-leb (4 * id + 4) (length area) l, e, t) refl

module _ {n : ℕ} {xs : List ℕ} (l : Live n xs) (notes : List ℕ) (known : (i : ℕ) → Knows n (code_noted (get nodes notes i))) where
  abbrev word : ℕ → ℕ
  word id = word_of xs (get nodes notes id)

  -- from a state that still has the notes of the nodes that are left
  words_written : (ids : List ℕ) → Once ids → (cells left area : List ℕ) → Live n cells → Kept xs cells → ((y : ℕ) → In y ids → get nodes left y ≡ get nodes notes y)
      → ((y : ℕ) → In y ids → is_seen (get nodes notes y) ≡ true) → Roomy ids area → (write_all ids (rep cells left area)).area ≡ put_words word ids area
  unfolding write_all put_words
  words_written [] once cells left area live kept same seen room = refl
  words_written (id ∷ ids) once cells left area live kept same seen room =
      let note = get nodes notes id in
      let r = resolves live (known id) in
      ap (λ (s : Report). (write_all ids s).area) (written_is id note cells left area (room id (in_self id ids)) (same id (in_self id ids)) (seen id (in_self id ids)))
      ∙ ap (λ (w : ℕ). (write_all ids (rep (settled cells (code_noted note)) (put nodes left id 0) (put_word area id w))).area) (word_same l note (known id) kept)
      ∙ words_written ids (λ y. omega (arith, once y)) (settled cells (code_noted note)) (put nodes left id 0) (put_word area id (word id)) r.live (kept_both kept r.kept)
      (λ y i. get_other nodes left id 0 y (λ e. omega (arith, i, once y, count_same y id ids e)) ∙ same y (omega (arith, i)))
      (λ y i. seen y (omega (arith, i)))
      (λ y i. rw (put_length area id (word id)) (room y (omega (arith, i))))

  module _ (ids area : List ℕ) (top : ℕ) (once : Once ids) (there : (y : ℕ) → In y ids → is_seen (get nodes notes y) ≡ true) (back : (y : ℕ) → is_seen (get nodes notes y) ≡ true → In y ids)
      (below : (y : ℕ) → In y ids → y < top) (long : 4 * top ≤ length area) where
    pub words_area_lem : (write_all ids (rep xs notes area)).area ≡ words_area xs notes top area
    unfolding words_area
    words_area_lem =
        words_written ids once xs notes area l (record { loopfree = l.loopfree; same = λ u h. refl }) (λ y i. refl) there (λ y i. omega (arith, long, below y i))
        ∙ puts_same word ids (seen_ids notes top) area
        (λ y i. seen_in xs notes top area y (below y i) (there y i))
        (λ y i. back y (in_seen xs notes top area y i).1)
        (λ y i. omega (arith, long, below y i))

-- ---- the notes

one_else : (id : ℕ) (s : Report) (y : ℕ) → (y ≡ id → ⊥) → get nodes (write_one id s).notes y ≡ get nodes s.notes y
unfolding write_one
one_else id s y o =
    pick_all (λ (r : Report). get nodes r.notes y ≡ get nodes s.notes y) (leb (4 * id + 4) (length s.area))
    (get_other nodes s.notes id 0 y o) refl

one_there : (id : ℕ) (s : Report) → 4 * id + 4 ≤ length s.area → get nodes (write_one id s).notes id ≡ 0
unfolding write_one pick
one_there id s l = rw (le-leb (4 * id + 4) (length s.area) l) (put_zero s.notes id)

one_size : (id : ℕ) (s : Report) → length (write_one id s).notes ≡ length s.notes
unfolding write_one
one_size id s = pick_all (λ (r : Report). length r.notes ≡ length s.notes) (leb (4 * id + 4) (length s.area)) (put-size nodes s.notes id 0) refl

notes_size : (ids : List ℕ) (s : Report) → length (write_all ids s).notes ≡ length s.notes
unfolding write_all
notes_size [] s = refl
notes_size (id ∷ ids) s = notes_size ids (write_one id s) ∙ one_size id s

notes_else : (ids : List ℕ) (s : Report) (y : ℕ) → count y ids ≡ 0 → get nodes (write_all ids s).notes y ≡ get nodes s.notes y
unfolding write_all
notes_else [] s y z = refl
notes_else (id ∷ ids) s y z = notes_else ids (write_one id s) y (omega (arith, z)) ∙ one_else id s y (λ e. omega (arith, z, count_same y id ids e))

-- what is cleared stays so
one_zero : (id : ℕ) (s : Report) (y : ℕ) → get nodes s.notes y ≡ 0 → get nodes (write_one id s).notes y ≡ 0
unfolding write_one
one_zero id s y z =
    pick_all (λ (r : Report). get nodes r.notes y ≡ 0) (leb (4 * id + 4) (length s.area))
    (by_eq y id (λ e. rw e (put_zero s.notes id)) (λ o. get_other nodes s.notes id 0 y o ∙ z)) z

notes_zero : (ids : List ℕ) (s : Report) (y : ℕ) → get nodes s.notes y ≡ 0 → get nodes (write_all ids s).notes y ≡ 0
unfolding write_all
notes_zero [] s y z = z
notes_zero (id ∷ ids) s y z = notes_zero ids (write_one id s) y (one_zero id s y z)

notes_there : (ids : List ℕ) (s : Report) → Roomy ids s.area → (y : ℕ) → In y ids → get nodes (write_all ids s).notes y ≡ 0
unfolding write_all
notes_there [] s room y i = absurd (omega arith)
notes_there (id ∷ ids) s room y i =
    by_eq y id
    (λ e. notes_zero ids (write_one id s) y (rw e (one_there id s (room id (in_self id ids)))))
    (λ o. notes_there ids (write_one id s) (λ k m. rw (one_length id s) (room k (omega (arith, m)))) y (omega (arith, i, count_other y id ids o)))

pub notes_blank : (ids : List ℕ) (s : Report) → Roomy ids s.area → length s.notes ≡ nodes → ((y : ℕ) → count y ids ≡ 0 → get nodes s.notes y ≡ 0) → (write_all ids s).notes ≡ replicate nodes 0
notes_blank ids s room size zero-else =
    ext_get_or 0 (write_all ids s).notes (replicate nodes 0) (notes_size ids s ∙ size ∙ sym (length-replicate {A = ℕ} nodes 0))
    (λ y h.
    let m : y < nodes = omega (arith, h, notes_size ids s, size) in
    get_in nodes (write_all ids s).notes y m
    ∙ by_le 1 (count y ids) (notes_there ids s room y) (λ o. notes_else ids s y (omega (arith, o)) ∙ zero-else y (omega (arith, o)))
    ∙ sym (zeros_get nodes y)
    ∙ sym (get_in nodes (replicate nodes 0) y m))
