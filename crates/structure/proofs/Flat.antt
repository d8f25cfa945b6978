-- Two rows alike, as the table sees it: by their kinds, numbers and lists read item by item. The definition goes by lists of names and of
-- parts; this is the same, place by place.
--     Flat, flat_of, of_flat      alike, both ways
--     part_in, return_in          the types of a row's list, and what a function returns, are parts of it
--     holds-flat                  whether a part holds something
-- Assumes nothing.
use mathlib.Core.Path.{◌≡◌, refl, sym, subst, ◌∙◌}
use mathlib.Core.List.{List, [], ◌∷◌}
use mathlib.Core.Bool.{Bool, true, false, ◌&&◌, ◌||◌}
use Prim.Native.Nat.{ℕ, zero, suc, ◌+◌, ◌*◌, ◌/◌, ◌%◌, ◌<◌, ◌≤◌}
use native.Mathlib.Nat.{zero-add}
use native.Mathlib.Omega.{arith}
use lib.Dec.{eqb}
use borrow.Author.Tests.{eqb-true, eq-eqb, ne_eqb, lt-ltb}
use Rattle.laws.specs.Choice.{pick, by_kind}
use Rattle.laws.specs.Lists.{In, gather}
use Rattle.laws.proofs.Choice.{no, and_both, by_test}
use Rattle.laws.proofs.Lists.{in_gather, count_same}
use Rattle.pack.specs.Rows.{type_row}
use Rattle.pack.specs.Lists.{list_len, list_item}
use Rattle.pack.specs.Named.{parts_of, type_parts_of, items_of, seconds_of}
use Rattle.pack.specs.declared.counts.Counts.{Counts}
use Rattle.pack.specs.declared.rows.TypeRow.{TypeRow}
use Rattle.structure.specs.Structure.{number_of, paired, names_of, pairwise, alike, any_of}
use Rattle.structure.specs.Lists.{no_list, listed, slot_of, of_pairs, len_at, name_at, part_at}
use Rattle.structure.proofs.Pairs.{both_true, each, pairwise_len, pairwise_from, pairwise_all, any_at, any_none}

-- a list starts below 2 ^ 14
pub start_small : (p : List ℕ) (i : ℕ) → (type_row p i).b < 16384
unfolding type_row
start_small p i = omega arith

-- ---- a row by the sort of its list

module _ (p : List ℕ) (c : Counts) where
  -- the slot s is that of a list of pairs, of a list of items, or of none
  pub record Pairs (s b : ℕ) : Type 0 where
    pub len : len_at p c s ≡ list_len p c b
    pub name : (m : ℕ) → name_at p c s m ≡ list_item p c b (2 * m)
    pub part : (m : ℕ) → part_at p c s m ≡ list_item p c b (2 * m + 1)

  pub record Items (s b : ℕ) : Type 0 where
    pub len : len_at p c s ≡ list_len p c b
    pub name : (m : ℕ) → name_at p c s m ≡ 0
    pub part : (m : ℕ) → part_at p c s m ≡ list_item p c b m

  pairs_slot : (b : ℕ) → b < 16384 → Pairs (2 * b + 1) b
  unfolding len_at name_at part_at of_pairs pick
  pairs_slot b h =
      let e : (2 * b + 1) / 2 ≡ b = omega arith in
      let o : (2 * b + 1) % 2 ≡ 1 = omega arith in
      record { len = rw (lt-ltb (2 * b + 1) no_list (omega arith), e); name = λ m. rw (o, e); part = λ m. rw (o, e) }

  items_slot : (b : ℕ) → b < 16384 → Items (2 * b) b
  unfolding len_at name_at part_at of_pairs pick
  items_slot b h =
      let e : 2 * b / 2 ≡ b = omega arith in
      let o : 2 * b % 2 ≡ 0 = omega arith in
      record { len = rw (lt-ltb (2 * b) no_list (omega arith), e); name = λ m. rw o; part = λ m. rw (o, e) }

  no_slot : len_at p c no_list ≡ 0
  unfolding len_at pick
  no_slot = refl

  -- what a kind says of the rows that have it
  data Sort (k : ℕ) : Type 0 where
    pairs : ((r : TypeRow) → r.kind ≡ k → slot_of r ≡ 2 * r.b + 1) → ((r : TypeRow) → r.kind ≡ k → type_parts_of p c r ≡ seconds_of p c r.b)
        → ((r : TypeRow) → r.kind ≡ k → names_of p c r ≡ gather (each (λ m. list_item p c r.b (2 * m))) 0 (list_len p c r.b)) → (k ≡ 6 → ⊥) → Sort k
    items : ((r : TypeRow) → r.kind ≡ k → slot_of r ≡ 2 * r.b) → ((r : TypeRow) → r.kind ≡ k → type_parts_of p c r ≡ items_of p c r.b)
        → ((r : TypeRow) → r.kind ≡ k → names_of p c r ≡ []) → (k ≡ 6 → ⊥) → Sort k
    function : ((r : TypeRow) → r.kind ≡ k → slot_of r ≡ 2 * r.b) → ((r : TypeRow) → r.kind ≡ k → type_parts_of p c r ≡ r.a ∷ items_of p c r.b)
        → ((r : TypeRow) → r.kind ≡ k → names_of p c r ≡ []) → k ≡ 6 → Sort k
    leaf : ((r : TypeRow) → r.kind ≡ k → slot_of r ≡ no_list) → ((r : TypeRow) → r.kind ≡ k → type_parts_of p c r ≡ [])
        → ((r : TypeRow) → r.kind ≡ k → names_of p c r ≡ []) → (k ≡ 6 → ⊥) → Sort k

  -- a kind past those of document 01
  past_slot : (r : TypeRow) → 11 ≤ r.kind → slot_of r ≡ no_list
  unfolding slot_of paired listed
  past_slot r h =
      sym
      (no (eqb r.kind 5 || eqb r.kind 10) _ _ (rw (ne_eqb r.kind 5 (λ q. omega arith), ne_eqb r.kind 10 (λ q. omega arith)))
      (no (eqb r.kind 4 || eqb r.kind 6) _ _ (rw (ne_eqb r.kind 4 (λ q. omega arith), ne_eqb r.kind 6 (λ q. omega arith))) refl))

  past_names : (r : TypeRow) → 11 ≤ r.kind → names_of p c r ≡ []
  unfolding names_of paired
  past_names r h = sym (no (eqb r.kind 5 || eqb r.kind 10) _ _ (rw (ne_eqb r.kind 5 (λ q. omega arith), ne_eqb r.kind 10 (λ q. omega arith))) refl)

  sort : (k : ℕ) → Sort k
  unfolding slot_of type_parts_of by_kind names_of paired listed pick
  sort zero = leaf (λ r e. rw e) (λ r e. rw e) (λ r e. rw e) (λ e. omega arith)
  sort (suc zero) = leaf (λ r e. rw e) (λ r e. rw e) (λ r e. rw e) (λ e. omega arith)
  sort (suc (suc zero)) = leaf (λ r e. rw e) (λ r e. rw e) (λ r e. rw e) (λ e. omega arith)
  sort (suc (suc (suc zero))) = leaf (λ r e. rw e) (λ r e. rw e) (λ r e. rw e) (λ e. omega arith)
  sort (suc (suc (suc (suc zero)))) = items (λ r e. rw e) (λ r e. rw e) (λ r e. rw e) (λ e. omega arith)
  sort (suc (suc (suc (suc (suc zero))))) = pairs (λ r e. rw e) (λ r e. rw e) (λ r e. rw e) (λ e. omega arith)
  sort (suc (suc (suc (suc (suc (suc zero)))))) = function (λ r e. rw e) (λ r e. rw e) (λ r e. rw e) refl
  sort (suc (suc (suc (suc (suc (suc (suc zero))))))) = leaf (λ r e. rw e) (λ r e. rw e) (λ r e. rw e) (λ e. omega arith)
  sort (suc (suc (suc (suc (suc (suc (suc (suc zero)))))))) = leaf (λ r e. rw e) (λ r e. rw e) (λ r e. rw e) (λ e. omega arith)
  sort (suc (suc (suc (suc (suc (suc (suc (suc (suc zero))))))))) = leaf (λ r e. rw e) (λ r e. rw e) (λ r e. rw e) (λ e. omega arith)
  sort (suc (suc (suc (suc (suc (suc (suc (suc (suc (suc zero)))))))))) = pairs (λ r e. rw e) (λ r e. rw e) (λ r e. rw e) (λ e. omega arith)
  sort (suc (suc (suc (suc (suc (suc (suc (suc (suc (suc (suc k))))))))))) = leaf (λ r e. past_slot r (omega arith)) (λ r e. rw e) (λ r e. past_names r (omega arith)) (λ e. omega arith)

  -- ---- rows

  row_pairs : (i k : ℕ) → (type_row p i).kind ≡ k → ((r : TypeRow) → r.kind ≡ k → slot_of r ≡ 2 * r.b + 1) → Pairs (slot_of (type_row p i)) (type_row p i).b
  row_pairs i k e f = rw (f (type_row p i) e) (pairs_slot (type_row p i).b (start_small p i))

  row_items : (i k : ℕ) → (type_row p i).kind ≡ k → ((r : TypeRow) → r.kind ≡ k → slot_of r ≡ 2 * r.b) → Items (slot_of (type_row p i)) (type_row p i).b
  row_items i k e f = rw (f (type_row p i) e) (items_slot (type_row p i).b (start_small p i))

  row_leaf : (i k : ℕ) → (type_row p i).kind ≡ k → ((r : TypeRow) → r.kind ≡ k → slot_of r ≡ no_list) → len_at p c (slot_of (type_row p i)) ≡ 0
  row_leaf i k e f = rw (f (type_row p i) e) no_slot

  pub record Flat (same : ℕ → ℕ → Bool) (i j : ℕ) : Type 0 where
    pub kinds : (type_row p i).kind ≡ (type_row p j).kind
    pub numbers : number_of (type_row p i) ≡ number_of (type_row p j)
    pub returns : (type_row p i).kind ≡ 6 → same (type_row p i).a (type_row p j).a ≡ true
    pub lens : len_at p c (slot_of (type_row p i)) ≡ len_at p c (slot_of (type_row p j))
    pub names : (m : ℕ) → m < len_at p c (slot_of (type_row p i)) → name_at p c (slot_of (type_row p i)) m ≡ name_at p c (slot_of (type_row p j)) m
    pub parts : (m : ℕ) → m < len_at p c (slot_of (type_row p i)) → same (part_at p c (slot_of (type_row p i)) m) (part_at p c (slot_of (type_row p j)) m) ≡ true

  module _ (same : ℕ → ℕ → Bool) (i j : ℕ) where
    -- the lists of the two rows
    record Lists : Type 0 where
      returns : (type_row p i).kind ≡ 6 → same (type_row p i).a (type_row p j).a ≡ true
      lens : len_at p c (slot_of (type_row p i)) ≡ len_at p c (slot_of (type_row p j))
      names : (m : ℕ) → m < len_at p c (slot_of (type_row p i)) → name_at p c (slot_of (type_row p i)) m ≡ name_at p c (slot_of (type_row p j)) m
      parts : (m : ℕ) → m < len_at p c (slot_of (type_row p i)) → same (part_at p c (slot_of (type_row p i)) m) (part_at p c (slot_of (type_row p j)) m) ≡ true

    item_lists : {b d : ℕ} → Items (slot_of (type_row p i)) b → Items (slot_of (type_row p j)) d → ((type_row p i).kind ≡ 6 → same (type_row p i).a (type_row p j).a ≡ true)
        → pairwise same (items_of p c b) (items_of p c d) ≡ true → Lists
    unfolding items_of
    item_lists {b = b} {d = d} x y ret e = record {
      returns = ret;
      lens = x.len ∙ pairwise_len same (list_item p c b) (list_item p c d) (list_len p c b) (list_len p c d) 0 e ∙ sym y.len;
      names = λ m h. x.name m ∙ sym (y.name m);
      parts = λ m h. rw (x.part m, y.part m) (pairwise_from same (list_item p c b) (list_item p c d) (list_len p c b) (list_len p c d) e m (rw x.len at h));
    }

    lists_of : (k : ℕ) → (type_row p i).kind ≡ k → (type_row p j).kind ≡ k → Sort k
        → pairwise eqb (names_of p c (type_row p i)) (names_of p c (type_row p j)) ≡ true → pairwise same (type_parts_of p c (type_row p i)) (type_parts_of p c (type_row p j)) ≡ true → Lists
    unfolding seconds_of pairwise
    lists_of k ei ej (pairs slot part name six) n q =
        let x = row_pairs i k ei slot in
        let y = row_pairs j k ej slot in
        let b : ℕ = (type_row p i).b in
        let d : ℕ = (type_row p j).b in
        let n' = rw (name (type_row p i) ei, name (type_row p j) ej) at n in
        let q' = rw (part (type_row p i) ei, part (type_row p j) ej) at q in
        record {
          returns = λ e. absurd (six (sym ei ∙ e));
          lens = x.len ∙ pairwise_len eqb (λ m. list_item p c b (2 * m)) (λ m. list_item p c d (2 * m)) (list_len p c b) (list_len p c d) 0 n' ∙ sym y.len;
          names = λ m h.
              x.name m
              ∙ eqb-true _ _ (pairwise_from eqb (λ m. list_item p c b (2 * m)) (λ m. list_item p c d (2 * m)) (list_len p c b) (list_len p c d) n' m (rw x.len at h))
              ∙ sym (y.name m);
          parts = λ m h.
              rw (x.part m, y.part m)
              (pairwise_from same (λ m. list_item p c b (2 * m + 1)) (λ m. list_item p c d (2 * m + 1)) (list_len p c b) (list_len p c d) q' m (rw x.len at h));
        }
    lists_of k ei ej (items slot part name six) n q =
        item_lists (row_items i k ei slot) (row_items j k ej slot) (λ e. absurd (six (sym ei ∙ e))) (rw (part (type_row p i) ei, part (type_row p j) ej) at q)
    lists_of k ei ej (function slot part name six) n q =
        let q' = and_both (same (type_row p i).a (type_row p j).a) _ (rw (part (type_row p i) ei, part (type_row p j) ej) at q) in
        item_lists (row_items i k ei slot) (row_items j k ej slot) (λ e. q'.0) q'.1
    lists_of k ei ej (leaf slot part name six) n q =
        let x = row_leaf i k ei slot in
        record {
          returns = λ e. absurd (six (sym ei ∙ e));
          lens = x ∙ sym (row_leaf j k ej slot);
          names = λ m h. absurd (omega (arith, x));
          parts = λ m h. absurd (omega (arith, x));
        }

    pub flat_of : alike p c same i j ≡ true → Flat same i j
    unfolding alike parts_of
    flat_of e =
        let kind : Bool = eqb (type_row p i).kind (type_row p j).kind in
        let num : Bool = eqb (number_of (type_row p i)) (number_of (type_row p j)) in
        let name : Bool = pairwise eqb (names_of p c (type_row p i)) (names_of p c (type_row p j)) in
        let q = and_both (kind && num && name) _ e in
        let n = and_both (kind && num) name q.0 in
        let k = and_both kind num n.0 in
        let kk : (type_row p i).kind ≡ (type_row p j).kind = eqb-true _ _ k.0 in
        let l = lists_of (type_row p i).kind refl (sym kk) (sort (type_row p i).kind) n.1 q.1 in
        record { kinds = kk; numbers = eqb-true _ _ k.1; returns = l.returns; lens = l.lens; names = l.names; parts = l.parts }

    parts_of_lem : (k : ℕ) → (type_row p i).kind ≡ k → (type_row p j).kind ≡ k → Sort k → Flat same i j
        → (pairwise eqb (names_of p c (type_row p i)) (names_of p c (type_row p j)) ≡ true) × (pairwise same (type_parts_of p c (type_row p i)) (type_parts_of p c (type_row p j)) ≡ true)
    unfolding seconds_of items_of pairwise
    parts_of_lem k ei ej (pairs slot part name six) f =
        let x = row_pairs i k ei slot in
        let y = row_pairs j k ej slot in
        let b : ℕ = (type_row p i).b in
        let d : ℕ = (type_row p j).b in
        let n : list_len p c b ≡ list_len p c d = sym x.len ∙ f.lens ∙ y.len in (
          rw (name (type_row p i) ei, name (type_row p j) ej)
              (pairwise_all eqb (λ m. list_item p c b (2 * m)) (λ m. list_item p c d (2 * m)) (list_len p c b) (list_len p c d) n
              (λ m h. eq-eqb _ _ (sym (x.name m) ∙ f.names m (rw x.len h) ∙ y.name m))),
          rw (part (type_row p i) ei, part (type_row p j) ej)
              (pairwise_all same (λ m. list_item p c b (2 * m + 1)) (λ m. list_item p c d (2 * m + 1)) (list_len p c b) (list_len p c d) n
              (λ m h. rw (x.part m, y.part m) at (f.parts m (rw x.len h)))),
        )
    parts_of_lem k ei ej (items slot part name six) f =
        let x = row_items i k ei slot in
        let y = row_items j k ej slot in
        let b : ℕ = (type_row p i).b in
        let d : ℕ = (type_row p j).b in (
          rw (name (type_row p i) ei, name (type_row p j) ej),
          rw (part (type_row p i) ei, part (type_row p j) ej)
              (pairwise_all same (list_item p c b) (list_item p c d) (list_len p c b) (list_len p c d) (sym x.len ∙ f.lens ∙ y.len)
              (λ m h. rw (x.part m, y.part m) at (f.parts m (rw x.len h)))),
        )
    parts_of_lem k ei ej (function slot part name six) f =
        let x = row_items i k ei slot in
        let y = row_items j k ej slot in
        let b : ℕ = (type_row p i).b in
        let d : ℕ = (type_row p j).b in (
          rw (name (type_row p i) ei, name (type_row p j) ej),
          rw (part (type_row p i) ei, part (type_row p j) ej)
              (both_true (f.returns (ei ∙ six))
              (pairwise_all same (list_item p c b) (list_item p c d) (list_len p c b) (list_len p c d) (sym x.len ∙ f.lens ∙ y.len)
              (λ m h. rw (x.part m, y.part m) at (f.parts m (rw x.len h))))),
        )
    parts_of_lem k ei ej (leaf slot part name six) f = (rw (name (type_row p i) ei, name (type_row p j) ej), rw (part (type_row p i) ei, part (type_row p j) ej))

    pub of_flat : Flat same i j → alike p c same i j ≡ true
    unfolding alike parts_of
    of_flat f =
        let q = parts_of_lem (type_row p i).kind refl (sym f.kinds) (sort (type_row p i).kind) f in
        both_true (both_true (both_true (eq-eqb _ _ f.kinds) (eq-eqb _ _ f.numbers)) q.0) q.1

  -- how many items the list of a named definition has, and that of a kind without a list
  pub items_len : (i : ℕ) → (type_row p i).kind ≡ 4 → len_at p c (slot_of (type_row p i)) ≡ list_len p c (type_row p i).b
  unfolding slot_of paired listed pick
  items_len i e = (row_items i 4 e (λ r k. rw k)).len

  pub leaf_len : (i k : ℕ) → (type_row p i).kind ≡ k → paired k ≡ false → listed k ≡ false → len_at p c (slot_of (type_row p i)) ≡ 0
  unfolding slot_of
  leaf_len i k e f g = row_leaf i k e (λ r q. sym (no _ _ _ (rw q f) (no _ _ _ (rw q g) refl)))

  -- ---- the parts of a row

  in_items : (b m : ℕ) → m < list_len p c b → In (list_item p c b m) (items_of p c b)
  unfolding items_of
  in_items b m h = in_gather _ (each (list_item p c b)) 0 m (list_len p c b) (omega arith) (omega arith) (omega (arith, count_same (list_item p c b m) (list_item p c b m) [] refl))

  in_seconds : (b m : ℕ) → m < list_len p c b → In (list_item p c b (2 * m + 1)) (seconds_of p c b)
  unfolding seconds_of
  in_seconds b m h =
      in_gather _ (each (λ k. list_item p c b (2 * k + 1))) 0 m (list_len p c b) (omega arith) (omega arith) (omega (arith, count_same (list_item p c b (2 * m + 1)) (list_item p c b (2 * m + 1)) [] refl))

  -- a member of the tail
  in_more : (y x : ℕ) (xs : List ℕ) → In y xs → In y (x ∷ xs)
  in_more y x xs h = omega arith

  -- the types of its list, and what a function returns
  pub part_in : (i m : ℕ) → m < len_at p c (slot_of (type_row p i)) → In (part_at p c (slot_of (type_row p i)) m) (parts_of p c i)
  unfolding parts_of
  part_in i m h = go (sort (type_row p i).kind)
    where
      go : Sort (type_row p i).kind → In (part_at p c (slot_of (type_row p i)) m) (type_parts_of p c (type_row p i))
      go (pairs slot part name six) =
          let x = row_pairs i (type_row p i).kind refl slot in
          rw (part (type_row p i) refl, x.part m) (in_seconds (type_row p i).b m (rw x.len at h))
      go (items slot part name six) =
          let x = row_items i (type_row p i).kind refl slot in
          rw (part (type_row p i) refl, x.part m) (in_items (type_row p i).b m (rw x.len at h))
      go (function slot part name six) =
          let x = row_items i (type_row p i).kind refl slot in
          rw (part (type_row p i) refl) (subst (λ y. In y ((type_row p i).a ∷ items_of p c (type_row p i).b)) (sym (x.part m)) (in_more (list_item p c (type_row p i).b m) (type_row p i).a (items_of p c (type_row p i).b) (in_items (type_row p i).b m (rw x.len at h))))
      go (leaf slot part name six) = absurd (omega (arith, row_leaf i (type_row p i).kind refl slot))

  pub return_in : (i : ℕ) → (type_row p i).kind ≡ 6 → In (type_row p i).a (parts_of p c i)
  unfolding parts_of type_parts_of by_kind
  return_in i e = rw e (omega (arith, count_same (type_row p i).a (type_row p i).a (items_of p c (type_row p i).b) refl))

  -- ---- whether a part holds something

  pub record AnyPart (h : ℕ → Bool) (i : ℕ) (b : Bool) : Type 0 where
    pub returned : (type_row p i).kind ≡ 6 → h (type_row p i).a ≡ true → b ≡ true
    pub listed : (m : ℕ) → m < len_at p c (slot_of (type_row p i)) → h (part_at p c (slot_of (type_row p i)) m) ≡ true → b ≡ true
    pub none : ((type_row p i).kind ≡ 6 → h (type_row p i).a ≡ false) → ((m : ℕ) → m < len_at p c (slot_of (type_row p i)) → h (part_at p c (slot_of (type_row p i)) m) ≡ false) → b ≡ false

  pub any_part : (h : ℕ → Bool) (i : ℕ) → AnyPart h i (any_of h (parts_of p c i))
  unfolding parts_of seconds_of items_of any_of
  any_part h i = go (sort (type_row p i).kind)
    where
      b : ℕ
      b = (type_row p i).b

      go : Sort (type_row p i).kind → AnyPart h i (any_of h (type_parts_of p c (type_row p i)))
      go (pairs slot part name six) =
          let x = row_pairs i (type_row p i).kind refl slot in
          let g : ℕ → ℕ = λ m. list_item p c b (2 * m + 1) in
          rw (part (type_row p i) refl)
          (record {
            returned = λ e t. absurd (six e);
            listed = λ m l t. any_at h g (list_len p c b) 0 m (rw x.len at l) (rw zero-add (rw (x.part m) at t));
            none = λ r n. any_none h g (list_len p c b) 0 (λ m l. rw zero-add (rw (x.part m) at (n m (rw x.len l))));
          })
      go (items slot part name six) =
          let x = row_items i (type_row p i).kind refl slot in
          rw (part (type_row p i) refl)
          (record {
            returned = λ e t. absurd (six e);
            listed = λ m l t. any_at h (list_item p c b) (list_len p c b) 0 m (rw x.len at l) (rw zero-add (rw (x.part m) at t));
            none = λ r n. any_none h (list_item p c b) (list_len p c b) 0 (λ m l. rw zero-add (rw (x.part m) at (n m (rw x.len l))));
          })
      go (function slot part name six) =
          let x = row_items i (type_row p i).kind refl slot in
          rw (part (type_row p i) refl)
          (record {
            returned = λ e t. rw t;
            listed = λ m l t.
                let q = any_at h (list_item p c b) (list_len p c b) 0 m (rw x.len at l) (rw zero-add (rw (x.part m) at t)) in
                by_test (h (type_row p i).a) (λ y. rw y) (λ y. rw (y, q));
            none = λ r n.
                let q = any_none h (list_item p c b) (list_len p c b) 0 (λ m l. rw zero-add (rw (x.part m) at (n m (rw x.len l)))) in
                rw (r six, q);
          })
      go (leaf slot part name six) =
          let x = row_leaf i (type_row p i).kind refl slot in
          rw (part (type_row p i) refl) (record { returned = λ e t. absurd (six e); listed = λ m l t. absurd (omega (arith, x)); none = λ r n. refl })
