-- Two codes are equal exactly if the types are, where each row refers only to smaller ones.
--     equal_code, code_equal     both ways
--     table_code                 the code from the table is the code of the row
--     code_held                  a side that holds a variable, seen from its code
--     quiet_code                 a row that holds none has no variable's code
-- Assumes nothing.
use mathlib.Core.Path.{◌≡◌, refl, sym, ap, ◌∙◌}
use mathlib.Core.List.{List, [], ◌∷◌}
use mathlib.Core.Bool.{true, false, not, ◌&&◌, ◌||◌}
use Prim.Native.Nat.{ℕ, zero, suc, ◌%◌, ◌<◌, ◌≤◌}
use native.Mathlib.Omega.{arith}
use lib.Dec.{eqb, ltb}
use lib.ListN.{get_or}
use borrow.Author.Tests.{eqb-true, eq-eqb, ne_eqb, lt-ltb}
use Rattle.laws.specs.Choice.{pick}
use Rattle.laws.specs.Lists.{bit}
use Rattle.laws.proofs.Bounded.{get_in}
use Rattle.laws.proofs.Choice.{yes, no, by_test, by_eq, and_both}
use Rattle.pack.specs.Rows.{type_row}
use Rattle.pack.specs.Lists.{list_len}
use Rattle.pack.specs.declared.counts.Counts.{Counts}
use Rattle.unionfind.specs.Codes.{numbers, code, tag, number, never_tag, unit_tag, primitive_tag, row_tag, any_tag, int_tag, float_tag, definition_tag, is_var}
use Rattle.unionfind.proofs.Chains.{not_both}
use Rattle.structure.specs.Structure.{rows, PartsSmaller, paired, numbered, number_of, equal, row_number, is_var_kind, holds}
use Rattle.structure.specs.Lists.{listed, slot_of, len_at}
use Rattle.structure.specs.Table.{entry, Numbers}
use Rattle.structure.specs.Types.{var_code, plain_code, is_bare, code_for, code_of, code_in, holds_var}
use Rattle.structure.proofs.Pairs.{bit_test}
use Rattle.structure.proofs.Reading.{number_of_small}
use Rattle.structure.proofs.Flat.{Flat, items_len, leaf_len, any_part}
use Rattle.structure.proofs.Equal.{equivalence, equal_number, number_equal, number_le, equal_flat, flat_equal, holds_step, holds_equal}
use Rattle.structure.proofs.Reps.{rep_is}

-- the kind of a row whose code has that tag
kind_for : ℕ → ℕ
kind_for t = get_or (0 ∷ 1 ∷ 2 ∷ 3 ∷ 7 ∷ 8 ∷ 9 ∷ 4 ∷ []) t 0

not_function : (t : ℕ) → t < 8 → kind_for t ≡ 6 → ⊥
unfolding kind_for
not_function zero h e = omega arith
not_function (suc zero) h e = omega arith
not_function (suc (suc zero)) h e = omega arith
not_function (suc (suc (suc zero))) h e = omega arith
not_function (suc (suc (suc (suc zero)))) h e = omega arith
not_function (suc (suc (suc (suc (suc zero))))) h e = omega arith
not_function (suc (suc (suc (suc (suc (suc zero)))))) h e = omega arith
not_function (suc (suc (suc (suc (suc (suc (suc zero))))))) h e = omega arith
not_function (suc (suc (suc (suc (suc (suc (suc (suc t)))))))) h e = omega arith

-- a row by its code: one that its kind and number make, or one of a structure
data Coded (p : List ℕ) (c : Counts) (i : ℕ) : Type 0 where
  plain : (t : ℕ) → (t ≡ row_tag → ⊥) → t < 8 → (type_row p i).kind ≡ kind_for t → (n : ℕ) → n ≡ number_of (type_row p i) → len_at p c (slot_of (type_row p i)) ≡ 0 → code_of p c i ≡ code t n → Coded p c i
  row : code_of p c i ≡ code row_tag (row_number p c i) → Coded p c i

no_number : (p : List ℕ) (i k : ℕ) → (type_row p i).kind ≡ k → numbered k ≡ false → 0 ≡ number_of (type_row p i)
unfolding number_of
no_number p i k e f = no _ _ _ (rw e f) refl

module _ (p : List ℕ) (c : Counts) (i : ℕ) where
  abbrev kind : ℕ
  kind = (type_row p i).kind

  abbrev named : ℕ
  named = number_of (type_row p i)

  abbrev other : ℕ
  other = code row_tag (row_number p c i)

  -- what the definition of a code comes to, a test after the other
  by_plain : {x : ℕ} → x ≡ plain_code kind named (is_bare p c (type_row p i)) (var_code kind named other) → code_of p c i ≡ x
  unfolding code_of code_for
  by_plain e = sym e

  code_never : kind ≡ 0 → code_of p c i ≡ code never_tag 0
  unfolding plain_code
  code_never e = by_plain (yes _ _ _ (eq-eqb _ _ e) refl)

  code_unit : (kind ≡ 0 → ⊥) → kind ≡ 1 → code_of p c i ≡ code unit_tag 0
  unfolding plain_code
  code_unit a e = by_plain (no _ _ _ (ne_eqb _ _ a) (yes _ _ _ (eq-eqb _ _ e) refl))

  code_primitive : (kind ≡ 0 → ⊥) → (kind ≡ 1 → ⊥) → kind ≡ 2 → code_of p c i ≡ code primitive_tag named
  unfolding plain_code
  code_primitive a b e = by_plain (no _ _ _ (ne_eqb _ _ a) (no _ _ _ (ne_eqb _ _ b) (yes _ _ _ (eq-eqb _ _ e) refl)))

  module _ (a : kind ≡ 0 → ⊥) (b : kind ≡ 1 → ⊥) (d : kind ≡ 2 → ⊥) where
    by_named : {x : ℕ} → x ≡ pick (is_bare p c (type_row p i)) (code definition_tag named) (var_code kind named other) → code_of p c i ≡ x
    unfolding plain_code
    by_named e = by_plain (no _ _ _ (ne_eqb _ _ a) (no _ _ _ (ne_eqb _ _ b) (no _ _ _ (ne_eqb _ _ d) e)))

    code_definition : is_bare p c (type_row p i) ≡ true → code_of p c i ≡ code definition_tag named
    code_definition e = by_named (yes _ _ _ e refl)

    module _ (g : is_bare p c (type_row p i) ≡ false) where
      code_any : kind ≡ 7 → code_of p c i ≡ code any_tag named
      unfolding var_code
      code_any e = by_named (no _ _ _ g (yes _ _ _ (eq-eqb _ _ e) refl))

      code_int : (kind ≡ 7 → ⊥) → kind ≡ 8 → code_of p c i ≡ code int_tag named
      unfolding var_code
      code_int x e = by_named (no _ _ _ g (no _ _ _ (ne_eqb _ _ x) (yes _ _ _ (eq-eqb _ _ e) refl)))

      code_float : (kind ≡ 7 → ⊥) → (kind ≡ 8 → ⊥) → kind ≡ 9 → code_of p c i ≡ code float_tag named
      unfolding var_code
      code_float x y e = by_named (no _ _ _ g (no _ _ _ (ne_eqb _ _ x) (no _ _ _ (ne_eqb _ _ y) (yes _ _ _ (eq-eqb _ _ e) refl))))

      code_row : (kind ≡ 7 → ⊥) → (kind ≡ 8 → ⊥) → (kind ≡ 9 → ⊥) → code_of p c i ≡ other
      unfolding var_code
      code_row x y z = by_named (no _ _ _ g (no _ _ _ (ne_eqb _ _ x) (no _ _ _ (ne_eqb _ _ y) (no _ _ _ (ne_eqb _ _ z) refl))))

  bare_kind : is_bare p c (type_row p i) ≡ true → (kind ≡ 4) × (len_at p c (slot_of (type_row p i)) ≡ 0)
  unfolding is_bare
  bare_kind e =
      let q = and_both (eqb kind 4) (eqb (list_len p c (type_row p i).b) 0) e in
      let k : kind ≡ 4 = eqb-true _ _ q.0 in
      (k, items_len p c i k ∙ eqb-true _ _ q.1)

  coded : Coded p c i
  unfolding kind_for numbered paired listed
  coded =
      by_eq kind 0 (λ e. plain 0 (λ q. omega arith) (omega arith) e 0 (no_number p i 0 e refl) (leaf_len p c i 0 e refl refl) (code_never e))
      (λ n0.
      by_eq kind 1 (λ e. plain 1 (λ q. omega arith) (omega arith) e 0 (no_number p i 1 e refl) (leaf_len p c i 1 e refl refl) (code_unit n0 e))
      (λ n1.
      by_eq kind 2 (λ e. plain 2 (λ q. omega arith) (omega arith) e named refl (leaf_len p c i 2 e refl refl) (code_primitive n0 n1 e))
      (λ n2.
      by_test (is_bare p c (type_row p i)) (λ e. plain 7 (λ q. omega arith) (omega arith) (bare_kind e).0 named refl (bare_kind e).1 (code_definition n0 n1 n2 e))
      (λ nb.
      by_eq kind 7 (λ e. plain 4 (λ q. omega arith) (omega arith) e named refl (leaf_len p c i 7 e refl refl) (code_any n0 n1 n2 nb e))
      (λ n7.
      by_eq kind 8 (λ e. plain 5 (λ q. omega arith) (omega arith) e named refl (leaf_len p c i 8 e refl refl) (code_int n0 n1 n2 nb n7 e))
      (λ n8.
      by_eq kind 9 (λ e. plain 6 (λ q. omega arith) (omega arith) e named refl (leaf_len p c i 9 e refl refl) (code_float n0 n1 n2 nb n7 n8 e))
      (λ n9. row (code_row n0 n1 n2 nb n7 n8 n9))))))))

-- two codes apart
code_parts : (t n s m : ℕ) → n < numbers → m < numbers → code t n ≡ code s m → (t ≡ s) × (n ≡ m)
code_parts t n s m a b e = (omega arith, omega arith)

code_tag : (t n : ℕ) → n < numbers → (tag (code t n) ≡ t) × (number (code t n) ≡ n)
code_tag t n h = (omega arith, omega arith)

module _ (p : List ℕ) (c : Counts) (small : PartsSmaller p c) where
  -- the row number of a row that there is room for
  number_below : (i : ℕ) → i < rows → row_number p c i < numbers
  number_below i h = omega (arith, number_le p c small i)

  module _ (i j : ℕ) (a : i < c.types) (b : j < c.types) where
    bare_same : Flat p c (λ k l. eqb (row_number p c k) (row_number p c l)) i j → is_bare p c (type_row p i) ≡ is_bare p c (type_row p j)
    unfolding is_bare
    bare_same f =
        by_eq (type_row p i).kind 4
        (λ e.
        let d : (type_row p j).kind ≡ 4 = sym f.kinds ∙ e in
        let n : list_len p c (type_row p i).b ≡ list_len p c (type_row p j).b = sym (items_len p c i e) ∙ f.lens ∙ items_len p c j d in
        rw (e, d, n))
        (λ e. rw (ne_eqb _ _ e, ne_eqb (type_row p j).kind 4 (λ q. e (f.kinds ∙ q))))

    pub equal_code : equal p c i j ≡ true → code_of p c i ≡ code_of p c j
    unfolding code_of code_for
    equal_code e =
        let f = equal_flat p c small i j a b e in
        let n : row_number p c i ≡ row_number p c j = equal_number p c small i j a b e in
        let q = bare_same f in
        let k = f.kinds in
        let m = f.numbers in
        cc

    pub code_equal : i < rows → j < rows → code_of p c i ≡ code_of p c j → equal p c i j ≡ true
    code_equal x y e = go (coded p c i) (coded p c j)
      where
        below : (k : ℕ) {n : ℕ} → n ≡ number_of (type_row p k) → n < numbers
        below k q = rw q (number_of_small p k)

        go : Coded p c i → Coded p c j → equal p c i j ≡ true
        go (plain t t3 t8 k n q l z) (plain s s3 s8 h m r o w) =
            let d = code_parts t n s m (below i q) (below j r) (sym z ∙ e ∙ w) in
            let kk : (type_row p i).kind ≡ (type_row p j).kind = k ∙ ap kind_for d.0 ∙ sym h in
            flat_equal p c small i j a b
            (record {
              kinds = kk;
              numbers = sym q ∙ d.1 ∙ r;
              returns = λ f. absurd (not_function t t8 (sym k ∙ f));
              lens = l ∙ sym o;
              names = λ m g. absurd (omega (arith, l));
              parts = λ m g. absurd (omega (arith, l));
            })
        go (plain t t3 t8 k n q l z) (row w) = absurd (t3 (code_parts t n row_tag (row_number p c j) (below i q) (number_below j y) (sym z ∙ e ∙ w)).0)
        go (row z) (plain s s3 s8 h m r o w) = absurd (s3 (sym (code_parts row_tag (row_number p c i) s m (number_below i x) (below j r) (sym z ∙ e ∙ w)).0))
        go (row z) (row w) = number_equal p c small i j a b (code_parts row_tag (row_number p c i) row_tag (row_number p c j) (number_below i x) (number_below j y) (sym z ∙ e ∙ w)).1

  -- the code that is made from the table
  pub table_code : {same marks : List ℕ} → Numbers p c same marks → (i : ℕ) → i < c.types → i < rows → code_in p c same i ≡ code_of p c i
  unfolding code_in code_of
  table_code {same = same} t i a r =
      let e : entry same i ≡ row_number p c i = sym (get_in rows same i r) ∙ t.number small i a r in
      let d : entry same i % numbers ≡ row_number p c i = omega (arith, number_below i r) in
      sym (yes (ltb i c.types) _ _ (lt-ltb i c.types a) refl) ∙ ap (code_for p c (type_row p i)) d

  -- ---- a side that holds a variable, seen from its code

  -- a row without parts whose kind is no variable's holds none
  quiet : (i : ℕ) → i < c.types → ((type_row p i).kind ≡ 6 → ⊥) → len_at p c (slot_of (type_row p i)) ≡ 0 → is_var_kind (type_row p i).kind ≡ false → holds p c i ≡ false
  quiet i a k l f =
      holds_step p c small i a
      ∙ rw (f, (any_part p c (holds p c) i).none (λ e. absurd (k e)) (λ m h. absurd (omega (arith, l))))

  -- a row of a variable's kind holds one
  var_holds : (i : ℕ) → i < c.types → is_var_kind (type_row p i).kind ≡ true → holds p c i ≡ true
  var_holds i a v = holds_step p c small i a ∙ rw v

  -- a row that holds no variable has no variable's code
  pub quiet_code : (i : ℕ) → i < c.types → i < rows → holds p c i ≡ false → is_var (code_of p c i) ≡ false
  unfolding is_var kind_for is_var_kind
  quiet_code i a r f = go (coded p c i)
    where
      tagged : (t : ℕ) → t < 8 → (type_row p i).kind ≡ kind_for t → (eqb t any_tag || eqb t int_tag || eqb t float_tag) ≡ false
      tagged zero h k = refl
      tagged (suc zero) h k = refl
      tagged (suc (suc zero)) h k = refl
      tagged (suc (suc (suc zero))) h k = refl
      tagged (suc (suc (suc (suc zero)))) h k = absurd (not_both f (var_holds i a (rw k)))
      tagged (suc (suc (suc (suc (suc zero))))) h k = absurd (not_both f (var_holds i a (rw k)))
      tagged (suc (suc (suc (suc (suc (suc zero)))))) h k = absurd (not_both f (var_holds i a (rw k)))
      tagged (suc (suc (suc (suc (suc (suc (suc zero))))))) h k = refl
      tagged (suc (suc (suc (suc (suc (suc (suc (suc t)))))))) h k = absurd (omega arith)

      go : Coded p c i → is_var (code_of p c i) ≡ false
      go (plain t t3 t8 k n q l z) = rw (z, (code_tag t n (rw q (number_of_small p i))).0) (tagged t t8 k)
      go (row z) = rw (z, (code_tag row_tag (row_number p c i) (number_below i r)).0)

  module _ {same marks : List ℕ} (table : Numbers p c same marks) (i : ℕ) (a : i < c.types) (r : i < rows) where
    row_marked : not (eqb (entry marks (row_number p c i)) 0) ≡ holds p c i
    unfolding row_number
    row_marked =
        let h : row_number p c i ≤ i = number_le p c small i in
        let e : entry marks (row_number p c i) ≡ bit (holds p c (row_number p c i)) =
        sym (get_in rows marks (row_number p c i) (omega arith)) ∙ table.mark small (row_number p c i) (omega arith) (omega arith)
        in
        ap (λ (x : ℕ). not (eqb x 0)) e
        ∙ bit_test (holds p c (row_number p c i))
        ∙ holds_equal p c small (row_number p c i) i (omega arith) a (rep_is (equivalence p c small) i a)

    row_held : code_of p c i ≡ code row_tag (row_number p c i) → holds_var marks (code_of p c i) ≡ (not (is_var (code_of p c i)) && holds p c i)
    unfolding holds_var is_var
    row_held e =
        let q = code_tag row_tag (row_number p c i) (number_below i r) in
        rw (e, q.0, q.1) row_marked

    plain_held : (t n : ℕ) → t < 8 → (t ≡ row_tag → ⊥) → n < numbers → (type_row p i).kind ≡ kind_for t → len_at p c (slot_of (type_row p i)) ≡ 0 → code_of p c i ≡ code t n
        → holds_var marks (code_of p c i) ≡ (not (is_var (code_of p c i)) && holds p c i)
    unfolding holds_var is_var kind_for is_var_kind
    plain_held t n h t3 s k l e =
        let q = code_tag t n s in
        rw (e, q.0) (go t h t3 k)
      where
        go : (t : ℕ) → t < 8 → (t ≡ row_tag → ⊥) → (type_row p i).kind ≡ kind_for t → (eqb t row_tag && not (eqb (entry marks (number (code t n))) 0)) ≡ (not (eqb t any_tag || eqb t int_tag || eqb t float_tag) && holds p c i)
        go zero h t3 k = rw (quiet i a (λ z. omega arith) l (rw k))
        go (suc zero) h t3 k = rw (quiet i a (λ z. omega arith) l (rw k))
        go (suc (suc zero)) h t3 k = rw (quiet i a (λ z. omega arith) l (rw k))
        go (suc (suc (suc zero))) h t3 k = absurd (t3 refl)
        go (suc (suc (suc (suc zero)))) h t3 k = refl
        go (suc (suc (suc (suc (suc zero))))) h t3 k = refl
        go (suc (suc (suc (suc (suc (suc zero)))))) h t3 k = refl
        go (suc (suc (suc (suc (suc (suc (suc zero))))))) h t3 k = rw (quiet i a (λ z. omega arith) l (rw k))
        go (suc (suc (suc (suc (suc (suc (suc (suc t)))))))) h t3 k = absurd (omega arith)

    pub code_held : holds_var marks (code_of p c i) ≡ (not (is_var (code_of p c i)) && holds p c i)
    code_held = go (coded p c i)
      where
        go : Coded p c i → holds_var marks (code_of p c i) ≡ (not (is_var (code_of p c i)) && holds p c i)
        go (plain t t3 t8 k n q l z) = plain_held t n t8 t3 (rw q (number_of_small p i)) k l z
        go (row z) = row_held z
