-- Lists by what they look like, and rows by their keys: two rows have the same key exactly if they are equal in structure.
--     Like, is_like, like_is       two lists look the same, item by item
--     like-part                    it is the same with another numbering that agrees on their types
--     key_equal, equal_key         rows by their keys
-- Assumes nothing.
use mathlib.Core.Path.{◌≡◌, refl, sym, ◌∙◌}
use mathlib.Core.List.{List}
use mathlib.Core.Bool.{Bool, true}
use Prim.Native.Nat.{ℕ, ◌+◌, ◌*◌, ◌%◌, ◌<◌}
use native.Mathlib.Omega.{arith}
use lib.Dec.{eqb}
use borrow.Author.Tests.{eqb-true, eq-eqb, ne_eqb}
use Rattle.laws.specs.Choice.{pick}
use Rattle.laws.specs.First.{all}
use Rattle.laws.proofs.First.{all_true, all_each}
use Rattle.laws.proofs.Choice.{yes, no, by_test, by_eq, and_both}
use Rattle.pack.specs.Rows.{type_row}
use Rattle.pack.specs.declared.counts.Counts.{Counts}
use Rattle.pack.specs.declared.rows.TypeRow.{TypeRow}
use Rattle.structure.specs.Structure.{rows, PartsSmaller, paired, numbered, number_of, equal, row_number}
use Rattle.structure.specs.Lists.{no_list, listed, slot_of, sort_of, len_at, name_at, part_at}
use Rattle.structure.specs.Table.{like_at, like, first_of, key_of}
use Rattle.structure.proofs.Pairs.{both_true}
use Rattle.structure.proofs.Reading.{number_small, number_of_small}
use Rattle.structure.proofs.Reps.{rep, Equivalence, rep_le, rep_same, rep_equal}
use Rattle.structure.proofs.Equal.{number_le, equal_flat, flat_equal}

-- ---- lists

-- lists of one sort are as long
pub sort_len : (p : List ℕ) (c : Counts) (s t : ℕ) → sort_of p c s ≡ sort_of p c t → len_at p c s ≡ len_at p c t
unfolding sort_of
sort_len p c s t e = omega arith

-- rows of one kind have lists of pairs, or not
slot_even : (r q : TypeRow) → r.kind ≡ q.kind → slot_of r % 2 ≡ slot_of q % 2
unfolding slot_of
slot_even r q e =
    by_test (paired q.kind)
    (λ t. rw (sym (yes (paired r.kind) (2 * r.b + 1) (pick (listed r.kind) (2 * r.b) no_list) (rw e t) refl), sym (yes (paired q.kind) (2 * q.b + 1) (pick (listed q.kind) (2 * q.b) no_list) t refl)) (omega arith))
    (λ f.
    by_test (listed q.kind)
    (λ t. rw (sym (no (paired r.kind) (2 * r.b + 1) _ (rw e f) (yes (listed r.kind) (2 * r.b) no_list (rw e t) refl)), sym (no (paired q.kind) (2 * q.b + 1) _ f (yes (listed q.kind) (2 * q.b) no_list t refl))) (omega arith))
    (λ g. rw (sym (no (paired r.kind) (2 * r.b + 1) _ (rw e f) (no (listed r.kind) (2 * r.b) no_list (rw e g) refl)), sym (no (paired q.kind) (2 * q.b + 1) _ f (no (listed q.kind) (2 * q.b) no_list g refl))) refl))

sort_of_kind : (p : List ℕ) (c : Counts) (i j : ℕ) → (type_row p i).kind ≡ (type_row p j).kind
    → len_at p c (slot_of (type_row p i)) ≡ len_at p c (slot_of (type_row p j)) → sort_of p c (slot_of (type_row p i)) ≡ sort_of p c (slot_of (type_row p j))
unfolding sort_of
sort_of_kind p c i j e q = rw (q, slot_even (type_row p i) (type_row p j) e) refl

module _ (p : List ℕ) (c : Counts) where
  -- the slot of a row
  abbrev pub slot_at : ℕ → ℕ
  slot_at i = slot_of (type_row p i)

  pub record Like (f : ℕ → ℕ) (s t : ℕ) : Type 0 where
    pub sorts : sort_of p c s ≡ sort_of p c t
    pub lens : len_at p c s ≡ len_at p c t
    pub names : (m : ℕ) → m < len_at p c s → name_at p c s m ≡ name_at p c t m
    pub parts : (m : ℕ) → m < len_at p c s → f (part_at p c s m) ≡ f (part_at p c t m)

  module _ (f : ℕ → ℕ) where
    pub is_like : (s t : ℕ) → like p c f s t ≡ true → Like f s t
    unfolding like
    is_like s t e =
        let q = and_both (eqb (sort_of p c s) (sort_of p c t)) (all (like_at p c f s t) 0 (len_at p c s)) e in
        let r : (m : ℕ) → m < len_at p c s → (eqb (name_at p c s m) (name_at p c t m) ≡ true) × (eqb (f (part_at p c s m)) (f (part_at p c t m)) ≡ true) =
        λ m h. and_both _ _ (all_each (like_at p c f s t) (len_at p c s) q.1 m h)
        in
        record {
          sorts = eqb-true _ _ q.0;
          lens = sort_len p c s t (eqb-true _ _ q.0);
          names = λ m h. eqb-true _ _ (r m h).0;
          parts = λ m h. eqb-true _ _ (r m h).1;
        }

    pub like_is : (s t : ℕ) → Like f s t → like p c f s t ≡ true
    unfolding like
    like_is s t l =
        both_true (eq-eqb _ _ l.sorts) (all_true (like_at p c f s t) (len_at p c s) (λ m h. both_true (eq-eqb _ _ (l.names m h)) (eq-eqb _ _ (l.parts m h))))

    -- the lists of rows
    abbrev pub row_like : ℕ → ℕ → Bool
    row_like i j = like p c f (slot_at i) (slot_at j)

    pub like_equivalence : (n : ℕ) → Equivalence row_like n
    like_equivalence n = record {
      reflexive = λ i h. like_is _ _ (record { sorts = refl; lens = refl; names = λ m l. refl; parts = λ m l. refl });
      symmetric = λ i j a b e.
          let l = is_like _ _ e in
          like_is _ _ (record { sorts = sym l.sorts; lens = sym l.lens; names = λ m h. sym (l.names m (rw l.lens h)); parts = λ m h. sym (l.parts m (rw l.lens h)) });
      transitive = λ i j k a b h d e.
          let l = is_like _ _ d in
          let r = is_like _ _ e in
          like_is _ _
          (record {
            sorts = l.sorts ∙ r.sorts;
            lens = l.lens ∙ r.lens;
            names = λ m h. l.names m h ∙ r.names m (rw l.lens at h);
            parts = λ m h. l.parts m h ∙ r.parts m (rw l.lens at h);
          });
    }

  -- two numberings that agree on the types of a list
  module _ (f g : ℕ → ℕ) where
    abbrev pub Agree : ℕ → Type 0
    Agree s = (m : ℕ) → m < len_at p c s → f (part_at p c s m) ≡ g (part_at p c s m)

    pub like_agree : (s t : ℕ) → Agree s → Agree t → Like f s t → Like g s t
    like_agree s t q r l = record {
      sorts = l.sorts;
      lens = l.lens;
      names = l.names;
      parts = λ m h. sym (q m h) ∙ l.parts m h ∙ r m (rw l.lens at h);
    }

-- ---- rows

-- a function has no number of its own
function_number : (r : TypeRow) → r.kind ≡ 6 → number_of r ≡ 0
unfolding number_of numbered pick
function_number r e = rw e

key_parts : (k f l k' f' l' : ℕ) → f < 16384 → f' < 16384 → l < 2048 → l' < 2048 → key_of k f l ≡ key_of k' f' l' → (k ≡ k') × (f ≡ f') × (l ≡ l')
unfolding key_of
key_parts k f l k' f' l' a b d g e = (omega arith, omega arith, omega arith)

pub key_of_lem : (k f l k' f' l' : ℕ) → k ≡ k' → f ≡ f' → l ≡ l' → key_of k f l ≡ key_of k' f' l'
key_of_lem k f l k' f' l' a b d = cc

-- the number of a row's list: the first row whose list looks the same
abbrev pub list_number : List ℕ → Counts → ℕ → ℕ
list_number p c i = rep (row_like p c (row_number p c)) i

abbrev pub row_key : List ℕ → Counts → ℕ → ℕ
row_key p c i = key_of (type_row p i).kind (first_of (row_number p c) (type_row p i)) (list_number p c i)

module _ (p : List ℕ) (c : Counts) (small : PartsSmaller p c) where
  first_function : (i : ℕ) → (type_row p i).kind ≡ 6 → row_number p c (type_row p i).a ≡ first_of (row_number p c) (type_row p i)
  unfolding first_of
  first_function i e = yes (eqb (type_row p i).kind 6) _ _ (eq-eqb _ _ e) refl

  first_other : (i : ℕ) → ((type_row p i).kind ≡ 6 → ⊥) → number_of (type_row p i) ≡ first_of (row_number p c) (type_row p i)
  unfolding first_of
  first_other i e = no (eqb (type_row p i).kind 6) _ _ (ne_eqb _ _ e) refl

  first_small : (i : ℕ) → first_of (row_number p c) (type_row p i) < 16384
  first_small i =
      by_eq (type_row p i).kind 6
      (λ e. rw (← first_function i e) (omega (arith, number_le p c small (type_row p i).a, number_small p i)))
      (λ e. rw (← first_other i e) (number_of_small p i))

  list_small : (i : ℕ) → i < rows → list_number p c i < rows
  list_small i h = omega (arith, rep_le (row_like p c (row_number p c)) i)

  pub equal_key : (i j : ℕ) → i < c.types → j < c.types → equal p c i j ≡ true → row_key p c i ≡ row_key p c j
  equal_key i j a b e =
      let f = equal_flat p c small i j a b e in
      let l : Like p c (row_number p c) (slot_at p c i) (slot_at p c j) = record { sorts = sort_of_kind p c i j f.kinds f.lens; lens = f.lens; names = f.names; parts = λ m h. eqb-true _ _ (f.parts m h) } in
      let x : first_of (row_number p c) (type_row p i) ≡ first_of (row_number p c) (type_row p j) =
      by_eq (type_row p i).kind 6
      (λ k. sym (first_function i k) ∙ eqb-true _ _ (f.returns k) ∙ first_function j (sym f.kinds ∙ k))
      (λ k. sym (first_other i k) ∙ f.numbers ∙ first_other j (λ q. k (f.kinds ∙ q)))
      in
      let y : list_number p c i ≡ list_number p c j = rep_same (like_equivalence p c (row_number p c) c.types) i j a b (like_is p c (row_number p c) _ _ l) in
      key_of_lem _ _ _ _ _ _ f.kinds x y

  pub key_equal : (i j : ℕ) → i < c.types → j < c.types → i < rows → j < rows → row_key p c i ≡ row_key p c j → equal p c i j ≡ true
  key_equal i j a b u v e =
      let q = key_parts _ _ _ _ _ _ (first_small i) (first_small j) (list_small i u) (list_small j v) e in
      let l = is_like p c (row_number p c) _ _ (rep_equal (like_equivalence p c (row_number p c) c.types) i j a b q.2) in
      flat_equal p c small i j a b
      (record {
        kinds = q.0;
        numbers = by_eq (type_row p i).kind 6
            (λ k. function_number (type_row p i) k ∙ sym (function_number (type_row p j) (sym q.0 ∙ k)))
            (λ k. first_other i k ∙ q.1 ∙ sym (first_other j (λ z. k (q.0 ∙ z))));
        returns = λ k. eq-eqb _ _ (first_function i k ∙ q.1 ∙ sym (first_function j (sym q.0 ∙ k)));
        lens = l.lens;
        names = l.names;
        parts = λ m h. eq-eqb _ _ (l.parts m h);
      })
