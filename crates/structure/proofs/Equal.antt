-- Equality in structure, where each row refers only to smaller ones: it is an equivalence, and it is what the rows look like one level down,
-- with the parts by their numbers.
--     equivalence      equal is one on the rows of the table
--     number_equal, equal_number     two rows have the same number exactly if they are equal
--     flat_equal, equal_flat         equal, one level down
--     holds_step, holds_equal        whether a row holds a variable, one level down, and of equal rows alike
-- Assumes nothing.
use mathlib.Core.Path.{◌≡◌, refl, sym, ap, ◌∙◌}
use mathlib.Core.List.{List}
use mathlib.Core.Bool.{Bool, true, ◌&&◌, ◌||◌}
use Prim.Native.Nat.{ℕ, zero, suc, ◌+◌, ◌<◌, ◌≤◌}
use native.Mathlib.Nat.{not-suc-le-zero}
use native.Mathlib.Omega.{arith}
use lib.Dec.{eqb}
use borrow.Author.Tests.{eqb-true, eq-eqb}
use Rattle.laws.specs.Lists.{In}
use Rattle.laws.proofs.Tests.{same_test}
use Rattle.laws.proofs.Choice.{by_test, and_both}
use Rattle.pack.specs.Rows.{type_row}
use Rattle.pack.specs.Named.{parts_of}
use Rattle.pack.specs.declared.counts.Counts.{Counts}
use Rattle.structure.specs.Structure.{PartsSmaller, number_of, names_of, pairwise, alike, equal_in, equal, row_number, is_var_kind, any_of, holds_in, holds}
use Rattle.structure.proofs.Pairs.{any_map, pairwise_any}
use Rattle.structure.proofs.Flat.{Flat, flat_of, of_flat, part_in, return_in}
use Rattle.structure.proofs.Reps.{Equivalence, rep_le, rep_same, rep_equal}

-- ---- rows alike, from one relation of parts to another

module _ (p : List ℕ) (c : Counts) {r s : ℕ → ℕ → Bool} where
  pub flat_map : {i j : ℕ} → ((k l : ℕ) → In k (parts_of p c i) → In l (parts_of p c j) → r k l ≡ true → s k l ≡ true) → Flat p c r i j → Flat p c s i j
  flat_map {i = i} {j = j} q f = record {
    kinds = f.kinds;
    numbers = f.numbers;
    returns = λ e. q _ _ (return_in p c i e) (return_in p c j (sym f.kinds ∙ e)) (f.returns e);
    lens = f.lens;
    names = f.names;
    parts = λ m h. q _ _ (part_in p c i m h) (part_in p c j m (rw f.lens at h)) (f.parts m h);
  }

  flat_turn : {i j : ℕ} → ((k l : ℕ) → r k l ≡ true → s l k ≡ true) → Flat p c r i j → Flat p c s j i
  flat_turn q f = record {
    kinds = sym f.kinds;
    numbers = sym f.numbers;
    returns = λ e. q _ _ (f.returns (f.kinds ∙ e));
    lens = sym f.lens;
    names = λ m h. sym (f.names m (rw f.lens h));
    parts = λ m h. q _ _ (f.parts m (rw f.lens h));
  }

  flat_join : {i j k : ℕ} → ((x y z : ℕ) → r x y ≡ true → r y z ≡ true → s x z ≡ true) → Flat p c r i j → Flat p c r j k → Flat p c s i k
  flat_join q f g = record {
    kinds = f.kinds ∙ g.kinds;
    numbers = f.numbers ∙ g.numbers;
    returns = λ e. q _ _ _ (f.returns e) (g.returns (sym f.kinds ∙ e));
    lens = f.lens ∙ g.lens;
    names = λ m h. f.names m h ∙ g.names m (rw f.lens at h);
    parts = λ m h. q _ _ _ (f.parts m h) (g.parts m (rw f.lens at h));
  }

module _ (p : List ℕ) (c : Counts) where
  flat_self : {s : ℕ → ℕ → Bool} (i : ℕ) → ((k : ℕ) → In k (parts_of p c i) → s k k ≡ true) → Flat p c s i i
  flat_self i q = record {
    kinds = refl;
    numbers = refl;
    returns = λ e. q _ (return_in p c i e);
    lens = refl;
    names = λ m h. refl;
    parts = λ m h. q _ (part_in p c i m h);
  }

  turn_in : (f i j : ℕ) → equal_in f p c i j ≡ true → equal_in f p c j i ≡ true
  unfolding equal_in
  turn_in zero i j e = e
  turn_in (suc f) i j e = of_flat p c (equal_in f p c) j i (flat_turn p c (λ k l. turn_in f k l) (flat_of p c (equal_in f p c) i j e))

  join_in : (f i j k : ℕ) → equal_in f p c i j ≡ true → equal_in f p c j k ≡ true → equal_in f p c i k ≡ true
  unfolding equal_in
  join_in zero i j k d e = d
  join_in (suc f) i j k d e =
      of_flat p c (equal_in f p c) i k (flat_join p c (λ x y z. join_in f x y z) (flat_of p c (equal_in f p c) i j d) (flat_of p c (equal_in f p c) j k e))

  module _ (small : PartsSmaller p c) where
    -- more steps than are needed say no more
    more_steps : (f g i j : ℕ) → i < c.types → i < f → i < g → equal_in f p c i j ≡ true → equal_in g p c i j ≡ true
    unfolding equal_in
    more_steps zero g i j t a b e = absurd (not-suc-le-zero a)
    more_steps (suc f) zero i j t a b e = absurd (not-suc-le-zero b)
    more_steps (suc f) (suc g) i j t a b e =
        of_flat p c (equal_in g p c) i j
        (flat_map p c (λ k l m n. let h = small i k t m in more_steps f g k l (omega arith) (omega arith) (omega arith)) (flat_of p c (equal_in f p c) i j e))

    self_in : (f i : ℕ) → i < c.types → i < f → equal_in f p c i i ≡ true
    unfolding equal_in
    self_in zero i t a = absurd (not-suc-le-zero a)
    self_in (suc f) i t a = of_flat p c (equal_in f p c) i i (flat_self i (λ k m. let h = small i k t m in self_in f k (omega arith) (omega arith)))

    pub equivalence : Equivalence (equal p c) c.types
    unfolding equal
    equivalence = record {
      reflexive = λ i h. self_in (suc i) i h (omega arith);
      symmetric = λ i j a b e. more_steps (suc i + suc j) (suc j) j i b (omega arith) (omega arith) (turn_in (suc i + suc j) i j (more_steps (suc i) (suc i + suc j) i j a (omega arith) (omega arith) e));
      transitive = λ i j k a b h d e.
          more_steps (suc i + suc j) (suc i) i k a (omega arith) (omega arith)
          (join_in (suc i + suc j) i j k (more_steps (suc i) (suc i + suc j) i j a (omega arith) (omega arith) d) (more_steps (suc j) (suc i + suc j) j k b (omega arith) (omega arith) e));
    }

    pub equal_number : (i j : ℕ) → i < c.types → j < c.types → equal p c i j ≡ true → row_number p c i ≡ row_number p c j
    unfolding row_number
    equal_number = rep_same equivalence

    pub number_equal : (i j : ℕ) → i < c.types → j < c.types → row_number p c i ≡ row_number p c j → equal p c i j ≡ true
    unfolding row_number
    number_equal = rep_equal equivalence

    pub number_le : (i : ℕ) → row_number p c i ≤ i
    unfolding row_number
    number_le i = rep_le (equal p c) i

    -- parts by their numbers
    abbrev pub by_number : ℕ → ℕ → Bool
    by_number k l = eqb (row_number p c k) (row_number p c l)

    pub equal_flat : (i j : ℕ) → i < c.types → j < c.types → equal p c i j ≡ true → Flat p c by_number i j
    unfolding equal equal_in
    equal_flat i j a b e =
        flat_map p c
        (λ k l m n h.
        let x = small i k a m in
        let y = small j l b n in
        eq-eqb _ _ (equal_number k l (omega arith) (omega arith) (more_steps i (suc k) k l (omega arith) (omega arith) (omega arith) h)))
        (flat_of p c (equal_in i p c) i j e)

    pub flat_equal : (i j : ℕ) → i < c.types → j < c.types → Flat p c by_number i j → equal p c i j ≡ true
    unfolding equal equal_in
    flat_equal i j a b f =
        of_flat p c (equal_in i p c) i j
        (flat_map p c
        (λ k l m n h.
        let x = small i k a m in
        let y = small j l b n in
        more_steps (suc k) i k l (omega arith) (omega arith) (omega arith) (number_equal k l (omega arith) (omega arith) (eqb-true _ _ h)))
        f)

    -- ---- what a row holds

    holds_more : (f g i : ℕ) → i < c.types → i < f → i < g → holds_in f p c i ≡ true → holds_in g p c i ≡ true
    unfolding holds_in
    holds_more zero g i t a b e = absurd (not-suc-le-zero a)
    holds_more (suc f) zero i t a b e = absurd (not-suc-le-zero b)
    holds_more (suc f) (suc g) i t a b e =
        by_test (is_var_kind (type_row p i).kind)
        (λ v. rw v)
        (λ v.
        let q : any_of (holds_in f p c) (parts_of p c i) ≡ true = rw v at e in
        rw (v, any_map (holds_in f p c) (holds_in g p c) (parts_of p c i) (λ k m. let h = small i k t m in holds_more f g k (omega arith) (omega arith) (omega arith)) q))

    -- one level down
    pub holds_step : (i : ℕ) → i < c.types → holds p c i ≡ (is_var_kind (type_row p i).kind || any_of (holds p c) (parts_of p c i))
    unfolding holds holds_in
    holds_step i t =
        ap (λ (b : Bool). is_var_kind (type_row p i).kind || b)
        (same_test (any_of (holds_in i p c) (parts_of p c i)) (any_of (holds p c) (parts_of p c i))
        (any_map (holds_in i p c) (holds p c) (parts_of p c i) (λ k m. let h = small i k t m in holds_more i (suc k) k (omega arith) (omega arith) (omega arith)))
        (any_map (holds p c) (holds_in i p c) (parts_of p c i) (λ k m. let h = small i k t m in holds_more (suc k) i k (omega arith) (omega arith) (omega arith))))

    holds_along : (f i j : ℕ) → equal_in f p c i j ≡ true → holds_in f p c i ≡ true → holds_in f p c j ≡ true
    unfolding equal_in alike holds_in
    holds_along zero i j d e = e
    holds_along (suc f) i j d e =
        let k : Bool = eqb (type_row p i).kind (type_row p j).kind in
        let a : Bool = eqb (number_of (type_row p i)) (number_of (type_row p j)) in
        let n : Bool = pairwise eqb (names_of p c (type_row p i)) (names_of p c (type_row p j)) in
        let q = and_both (k && a && n) _ d in
        let z : (type_row p i).kind ≡ (type_row p j).kind = eqb-true _ _ (and_both k a (and_both (k && a) n q.0).0).0 in
        by_test (is_var_kind (type_row p j).kind)
        (λ v. rw v)
        (λ v.
        let g : any_of (holds_in f p c) (parts_of p c i) ≡ true = rw (z, v) at e in
        rw (v, pairwise_any (equal_in f p c) (holds_in f p c) (holds_in f p c) (parts_of p c i) (parts_of p c j) q.1 (λ x y. holds_along f x y) g))

    -- equal rows hold the same
    holds_to : (i j : ℕ) → i < c.types → j < c.types → equal p c i j ≡ true → holds p c i ≡ true → holds p c j ≡ true
    unfolding equal holds
    holds_to i j a b d e =
        holds_more (suc i + suc j) (suc j) j b (omega arith) (omega arith)
        (holds_along (suc i + suc j) i j (more_steps (suc i) (suc i + suc j) i j a (omega arith) (omega arith) d) (holds_more (suc i) (suc i + suc j) i a (omega arith) (omega arith) e))

    pub holds_equal : (i j : ℕ) → i < c.types → j < c.types → equal p c i j ≡ true → holds p c i ≡ holds p c j
    holds_equal i j a b d = same_test (holds p c i) (holds p c j) (holds_to i j a b d) (holds_to j i b a (equivalence.symmetric i j a b d))
