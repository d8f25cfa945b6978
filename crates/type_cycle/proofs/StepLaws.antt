-- What a definition, a type's row and a list's item lead to, in the words of the code that visits them.
-- Assumes nothing.
use Prim.Native.Nat.{ℕ, zero, suc, ◌+◌, ◌*◌, ◌-◌, ◌<◌, ◌≤◌}
use mathlib.Core.Path.{◌≡◌, refl, sym, ap, subst, ◌∙◌}
use mathlib.Core.Bool.{Bool, true, false}
use mathlib.Core.List.{List, [], ◌∷◌}
use native.Mathlib.Omega.{arith}
use lib.ListN.{length, get_or, set, length-set}
use borrow.Author.Tests.{lt-ltb, le-ltb}
use Rattle.std.proofs.lemmas.List.{set-get_or}
use Rattle.laws.specs.Choice.{pick, by_kind}
use Rattle.laws.specs.Lists.{gather}
use Rattle.laws.proofs.Choice.{by_test, yes, no, fails}
use Rattle.laws.proofs.Lists.{in_gather}
use Rattle.laws.proofs.Members.{by_le}
use Rattle.pack.specs.Lists.{list_len, list_item}
use Rattle.pack.specs.Rows.{type_row, definition_row}
use Rattle.pack.specs.Named.{items_of, seconds_of, fields_of, field_types_of}
use Rattle.pack.specs.declared.counts.Counts.{Counts}
use Rattle.pack.specs.declared.rows.TypeRow.{TypeRow}
use Rattle.pack.specs.declared.rows.DefinitionRow.{DefinitionRow}
use Rattle.type_cycle.specs.declared.skips.Listed.{Listed}
use Rattle.type_cycle.specs.declared.skips.Listed.TheVariants.{Types, Fields, Variants}
use Rattle.type_cycle.specs.Graph.{at_name, unresolved, places, row_ahead, ahead, item_types, list_types, Within}
use Rattle.type_cycle.specs.Skips.{word_in, word_of, is_variants, skip_of}
use Rattle.type_cycle.specs.Search.{State, st, unmarked, Pushes, Can, Visited}
use Rattle.type_cycle.proofs.VisitLaws.{in_first, one_less, marked, already, enters, leaves, nothing}
use Rattle.type_cycle.proofs.SkipLaws.{passes_all, visits_passed}

-- ---- lists

pub items_types : (p : List ℕ) (c : Counts) (s : ℕ) → list_types p c Types s ≡ items_of p c s
unfolding list_types items_of
items_types p c s = refl

pub items_fields : (p : List ℕ) (c : Counts) (s : ℕ) → list_types p c Fields s ≡ seconds_of p c s
unfolding list_types seconds_of
items_fields p c s = refl

-- an item of a list inside the pack is inside
pub item_within : (p : List ℕ) (c : Counts) (items : Listed) (s k : ℕ) → k < list_len p c s → Within c (list_types p c items s) → Within c (item_types p c items s k)
unfolding list_types
item_within p c items s k l w = record { below = λ x i. w.below x (in_gather x (item_types p c items s) 0 k (list_len p c s) (omega arith) (omega arith) i) }

-- ---- definitions

module _ (p : List ℕ) (c : Counts) (r : DefinitionRow) where
  enum_row : r.kind ≡ 0 → list_types p c Variants r.list ≡ fields_of p c r
  unfolding fields_of by_kind list_types
  enum_row e = rw e

  record_row : r.kind ≡ 1 → seconds_of p c r.list ≡ fields_of p c r
  unfolding fields_of by_kind
  record_row e = rw e

module _ (p : List ℕ) (c : Counts) (d : ℕ) {r : DefinitionRow} (q : r ≡ definition_row p c d) where
  row_types : fields_of p c r ≡ field_types_of p c d
  unfolding field_types_of
  row_types = ap (fields_of p c) q

  pub enum_types : r.kind ≡ 0 → list_types p c Variants r.list ≡ field_types_of p c d
  enum_types e = enum_row p c r e ∙ row_types

  pub record_types : r.kind ≡ 1 → list_types p c Fields r.list ≡ field_types_of p c d
  record_types e = items_fields p c r.list ∙ record_row p c r e ∙ row_types

-- ---- rows

module _ (p : List ℕ) (c : Counts) (r : TypeRow) where
  pub part_types : r.kind ≡ 5 → list_types p c Fields r.b ≡ row_ahead p c r
  unfolding row_ahead by_kind
  part_types e = rw e (items_fields p c r.b)

  pub name_ahead : r.kind ≡ 4 → at_name r.a ∷ [] ≡ row_ahead p c r
  unfolding row_ahead by_kind
  name_ahead e = rw e

quiet_row : (p : List ℕ) (c : Counts) (r : TypeRow) (kind : ℕ) → r.kind ≡ kind → (kind ≡ 4 → ⊥) → (kind ≡ 5 → ⊥) → kind < 7 → [] ≡ row_ahead p c r
unfolding row_ahead by_kind
quiet_row p c r zero e a b l = rw e refl
quiet_row p c r (suc zero) e a b l = rw e refl
quiet_row p c r (suc (suc zero)) e a b l = rw e refl
quiet_row p c r (suc (suc (suc zero))) e a b l = rw e refl
quiet_row p c r (suc (suc (suc (suc zero)))) e a b l = absurd (a refl)
quiet_row p c r (suc (suc (suc (suc (suc zero))))) e a b l = absurd (b refl)
quiet_row p c r (suc (suc (suc (suc (suc (suc zero)))))) e a b l = rw e refl
quiet_row p c r (suc (suc (suc (suc (suc (suc (suc k))))))) e a b l = absurd (omega arith)

module _ (p : List ℕ) (c : Counts) (r : TypeRow) where
  -- neither a named type nor a record nor past the functions
  pub quiet_ahead : (r.kind ≡ 4 → ⊥) → (r.kind ≡ 5 → ⊥) → r.kind < 7 → [] ≡ row_ahead p c r
  quiet_ahead = quiet_row p c r r.kind refl

-- ---- places

pub type_ahead : (p : List ℕ) (c : Counts) (t : ℕ) → t < 2048 → row_ahead p c (type_row p t) ≡ ahead p c t
unfolding ahead
type_ahead p c t l = yes _ _ _ (lt-ltb t 2048 l) refl

pub fields_ahead : (p : List ℕ) (c : Counts) (d : ℕ) → d < 512 → field_types_of p c d ≡ ahead p c (at_name d)
unfolding ahead
fields_ahead p c d l =
    no _ _ _ (le-ltb (at_name d) 2048 (omega arith))
    (yes _ _ _ (lt-ltb (at_name d) unresolved (omega arith)) (let e : d ≡ at_name d - 2048 = omega arith in ap (field_types_of p c) e))

pub nothing_ahead : (p : List ℕ) (c : Counts) → [] ≡ ahead p c unresolved
unfolding ahead pick
nothing_ahead p c = refl

module _ {p : List ℕ} {c : Counts} (s : State) {u : State} where
  pub enters_type : (t : ℕ) → t < 2048 → get_or s.marks t false ≡ false → t < length s.marks → {r : TypeRow} → r ≡ type_row p t → Visited p c (row_ahead p c r) (marked s t) u → Visited p c (t ∷ []) s u
  enters_type t l e h q v = enters s t e h (rw (ap (row_ahead p c) q ∙ type_ahead p c t l) at v) (λ d k n. omega arith)

  pub leaves_name : (d : ℕ) → d < 512 → get_or s.marks (at_name d) false ≡ false → at_name d < length s.marks → {order : List ℕ} {r : ℕ} → Visited p c (field_types_of p c d) (marked s (at_name d)) u
      → Pushes u.left d u.order order r → Visited p c (at_name d ∷ []) s (st u.marks u.skips order r)
  leaves_name d l e h v q = leaves s d l e h (rw (fields_ahead p c d l) at v) q

-- ---- marks

-- the variable has its mark, whether it was met before or not
pub meets_variable : {p : List ℕ} {c : Counts} (s : State) → unresolved < length s.marks → Visited p c (unresolved ∷ []) s (marked s unresolved)
meets_variable {p} {c} s h =
    by_test (get_or s.marks unresolved false)
    (λ t. subst (λ (m : List Bool). Visited p c (unresolved ∷ []) s (st m s.skips s.order s.left)) (sym (ap (set s.marks unresolved) (sym t) ∙ set-get_or s.marks unresolved false)) (already s unresolved t))
    (λ f. enters s unresolved f h (subst (λ (xs : List ℕ). Visited p c xs (marked s unresolved) (marked s unresolved)) (nothing_ahead p c) (nothing (marked s unresolved))) (λ d k e. omega arith))

pub mark_can : {p : List ℕ} {c : Counts} {marks : List Bool} → Can p c marks → (x : ℕ) → Can p c (set marks x true)
mark_can {marks = marks} k x = record { ready = k.ready; long = length-set marks x true ∙ k.long }

pub mark_falls : {p : List ℕ} {c : Counts} {marks : List Bool} → Can p c marks → (x : ℕ) → x < places → get_or marks x false ≡ false → unmarked (set marks x true) < unmarked marks
mark_falls {marks = marks} k x l e = omega (arith, one_less marks x (omega (arith, k.long)) e)

pub visited_can : {p : List ℕ} {c : Counts} {xs : List ℕ} {s t : State} → Can p c s.marks → Visited p c xs s t → Can p c t.marks
visited_can k v = record { ready = k.ready; long = v.long ∙ k.long }

-- ---- items

pub variants_only : (items : Listed) {b : Bool} → b ≡ is_variants items → b ≡ true → items ≡ Variants
variants_only Types e t = absurd (fails (sym t ∙ e))
variants_only Fields e t = absurd (fails (sym t ∙ e))
variants_only Variants e t = refl

-- r is the word of item k: where a list starts, or a type
module _ (p : List ℕ) (c : Counts) (s k : ℕ) {r w : ℕ} {b : Bool} where
  pub variant_inside : (items : Listed) → b ≡ is_variants items → b ≡ true → w ≡ word_in items k → r ≡ list_item p c s w → Within c (item_types p c items s k) → Within c (list_types p c Types r)
  variant_inside Types e t h q i = absurd (fails (sym t ∙ e))
  variant_inside Fields e t h q i = absurd (fails (sym t ∙ e))
  variant_inside Variants e t h q i = rw (q, h, items_types p c (list_item p c s (2 * k + 1))) i

  pub type_inside : (items : Listed) → b ≡ is_variants items → b ≡ false → w ≡ word_in items k → r ≡ list_item p c s w → Within c (item_types p c items s k) → r < c.types
  type_inside Types e f h q i = i.below r (rw (q, h) (in_first (list_item p c s k) []))
  type_inside Fields e f h q i = i.below r (rw (q, h) (in_first (list_item p c s (2 * k + 1)) []))
  type_inside Variants e f h q i = absurd (fails (sym e ∙ f))

  module _ {x y : State} where
    pub visits_variant : (items : Listed) → b ≡ is_variants items → b ≡ true → w ≡ word_in items k → r ≡ list_item p c s w → Visited p c (list_types p c Types r) x y → Visited p c (item_types p c items s k) x y
    visits_variant Types e t h q v = absurd (fails (sym t ∙ e))
    visits_variant Fields e t h q v = absurd (fails (sym t ∙ e))
    visits_variant Variants e t h q v = rw (← h, ← q) (rw (items_types p c r) at v)

    pub visits_type : (items : Listed) → b ≡ is_variants items → b ≡ false → w ≡ word_in items k → r ≡ list_item p c s w → Visited p c (r ∷ []) x y → Visited p c (item_types p c items s k) x y
    visits_type Types e f h q v = rw (← h, ← q) v
    visits_type Fields e f h q v = rw (← h, ← q) v
    visits_type Variants e f h q v = absurd (fails (sym e ∙ f))

-- all items
pub whole_list : (p : List ℕ) (c : Counts) (items : Listed) (s k n : ℕ) {a b : State} → n ≡ list_len p c s → k ≤ n → n ≤ k → Visited p c (gather (item_types p c items s) 0 k) a b → Visited p c (list_types p c items s) a b
unfolding list_types
whole_list p c items s k n e l h v = let z : k ≡ list_len p c s = omega arith in rw z at v

-- a list whose first skip passes all its items
pub all_passed : (p : List ℕ) (c : Counts) (s n skip : ℕ) (skips : List ℕ) → n ≡ list_len p c s → skip ≡ skip_of skips Types (word_of Types s 0) → n ≤ skip → (marks : List Bool) (order : List ℕ) (left : ℕ)
    → Visited p c (list_types p c Types s) (st marks skips order left) (st marks skips order left)
unfolding gather
all_passed p c s n skip skips e q h marks order left =
    by_le 1 n
    (λ some. whole_list p c Types s n n e (omega arith) (omega arith) (visits_passed p c Types s 0 (nothing (st marks skips order left)) (passes_all Types s 0 n skip skips q some (omega (arith, h)))))
    (λ none. whole_list p c Types s 0 n e (omega arith) (omega (arith, none)) (nothing (st marks skips order left)))
