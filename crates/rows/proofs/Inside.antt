-- What rows without a fault say of single fields: ids, slots, names and lists in range, names apart.
--     list_inside       a list and all its items lie in the list words
--     names_apart       names of a list that differ, told of any two
--     .._fits           the tests of each table's rows
--     named_inside, slot_inside, let_inside, record_inside, field_inside, arm_inside     fields by kind
-- Children and parts are in Promises.antt. Assumes nothing.
use Prim.Native.Nat.{ℕ, ◌+◌, ◌*◌, ◌≤◌, ◌<◌}
use mathlib.Core.Path.{◌≡◌}
use mathlib.Core.Bool.{Bool, true, not, ◌&&◌}
use mathlib.Core.List.{List}
use native.Mathlib.Omega.{arith}
use lib.Dec.{eqb, leb, ltb}
use borrow.Author.Tests.{leb-true, ltb-true, eqb-true, eqb-false, not-true}
use Rattle.laws.specs.Choice.{by_kind}
use Rattle.laws.proofs.Choice.{tested, and_both}
use Rattle.laws.proofs.First.{all_each}
use Rattle.std.proofs.Common.{None}
use Rattle.laws.specs.Faults.{passes}
use Rattle.pack.specs.Lists.{list_len, list_item}
use Rattle.pack.specs.Rows.{type_row, definition_row, expression_row, root_row, value_row}
use Rattle.pack.specs.declared.counts.Counts.{Counts}
use Rattle.pack.specs.declared.rows.TypeRow.{TypeRow}
use Rattle.pack.specs.declared.rows.ExpressionRow.{ExpressionRow}
use Rattle.lists.specs.declared.lists.Items.{Items}
use Rattle.lists.specs.declared.lists.Items.TheVariants.{Ids, Pairs, Arms}
use Rattle.lists.specs.Limits.{names, wild, slots, optional_below}
use Rattle.lists.specs.Lists.{list_fits, slots_fit, words_of, items_fit}
use Rattle.lists.specs.Names.{name_at, fresh, names_differ, items_rise}
use Rattle.rows.specs.Types.{type_known, named_fits, type_in_range, type_distinct, fault_of, type_rule}
use Rattle.rows.specs.Definitions.{definition_known, definition_in_range, definition_distinct, definition_rule}
use Rattle.rows.specs.Expressions.{expression_known, expression_in_range, expression_rule}
use Rattle.rows.specs.Roots.{root_in_range, root_rule}
use Rattle.rows.specs.Values.{value_rule}
use Rattle.rows.specs.Tables.{rows_of, row_rule}
use Rattle.rows.proofs.Promises.{rule_passed, item_fits_lem}

-- ---- lists and names

pub list_inside : (p : List ℕ) (c : Counts) (items : Items) (s : ℕ) → items_fit p c items s ≡ true → s + 1 + words_of items (list_len p c s) ≤ c.words
unfolding items_fit list_fits
list_inside p c items s e = leb-true (s + 1 + words_of items (list_len p c s)) c.words (and_both (leb (s + 1 + words_of items (list_len p c s)) c.words) _ e).0

pub names_apart : (p : List ℕ) (c : Counts) (s : ℕ) → names_differ p c s ≡ true → (j k : ℕ) → j < k → k < list_len p c s → name_at p c s j ≡ name_at p c s k → ⊥
unfolding names_differ
names_apart p c s e j k l h q =
    let f = all_each (λ k. fresh (name_at p c s) k (name_at p c s k)) (list_len p c s) e k h in
    let g = all_each (λ j. not (eqb (name_at p c s j) (name_at p c s k))) k f j l in
    eqb-false (name_at p c s j) (name_at p c s k) (not-true (eqb (name_at p c s j) (name_at p c s k)) g) q

-- ---- the three tests of a row, from its rule's fault

pub record Fits (known ranged distinct : Bool) : Type 0 where
  pub known_is : known ≡ true
  pub ranged_is : ranged ≡ true
  pub distinct_is : distinct ≡ true

fits : (known ranged distinct : Bool) → fault_of known ranged distinct ≡ None → Fits known ranged distinct
fits known ranged distinct e =
    let k = tested known _ _ e in
    let r = tested ranged _ _ k.1 in
    let d = tested distinct _ _ r.1 in
    record { known_is = k.0; ranged_is = r.0; distinct_is = d.0 }

module _ (p : List ℕ) (c : Counts) (o : passes (rows_of p c) ≡ true) (i : ℕ) where
  pub type_fits : i < c.types → Fits (type_known (type_row p i)) (type_in_range p c i (type_row p i)) (type_distinct p c (type_row p i))
  unfolding row_rule by_kind type_rule
  type_fits l = fits _ _ _ (rule_passed p c o 0 i (omega arith) l)

  pub definition_fits : i < c.definitions → Fits (definition_known (definition_row p c i)) (definition_in_range p c (definition_row p c i)) (definition_distinct p c (definition_row p c i))
  unfolding row_rule by_kind definition_rule
  definition_fits l = fits _ _ _ (rule_passed p c o 1 i (omega arith) l)

  pub expression_fits : i < c.expressions → Fits (expression_known (expression_row p c i)) (expression_in_range p c i (expression_row p c i)) true
  unfolding row_rule by_kind expression_rule
  expression_fits l = fits _ _ _ (rule_passed p c o 2 i (omega arith) l)

  pub root_fits : i < c.roots → Fits (eqb (root_row p c i).zero 0) (root_in_range p c (root_row p c i)) true
  unfolding row_rule by_kind root_rule
  root_fits l = fits _ _ _ (rule_passed p c o 3 i (omega arith) l)

  pub value_fits : i < c.values → Fits (eqb (value_row p c i).zero 0) (items_fit p c (Ids c.values) (value_row p c i).list) (items_rise p c (value_row p c i).list)
  unfolding row_rule by_kind value_rule
  value_fits l = fits _ _ _ (rule_passed p c o 4 i (omega arith) l)

-- ---- fields by kind

-- a named type: its definition is there, its arguments are as many as that has parameters
pub named_inside : (p : List ℕ) (c : Counts) (i : ℕ) (r : TypeRow) → r.kind ≡ 4 → type_in_range p c i r ≡ true
    → (r.a < c.definitions) × (items_fit p c (Ids i) r.b ≡ true) × (list_len p c r.b ≡ (definition_row p c r.a).parameters)
unfolding type_in_range by_kind named_fits
named_inside p c i r k t =
    let f = and_both (ltb r.a c.definitions && items_fit p c (Ids i) r.b) (eqb (list_len p c r.b) (definition_row p c r.a).parameters) (rw k at t) in
    let g = and_both (ltb r.a c.definitions) (items_fit p c (Ids i) r.b) f.0 in
    (ltb-true r.a c.definitions g.0, g.1, eqb-true (list_len p c r.b) (definition_row p c r.a).parameters f.1)

module _ (p : List ℕ) (c : Counts) (e : ℕ) (r : ExpressionRow) (t : expression_in_range p c e r ≡ true) where
  pub slot_inside : r.kind ≡ 1 → r.a < slots
  unfolding expression_in_range by_kind
  slot_inside k = ltb-true r.a slots (rw k at t)

  -- a let: its slot, and its type if it has one
  pub let_inside : r.kind ≡ 3 → (r.a < slots) × (optional_below c.types r.c ≡ true)
  unfolding expression_in_range by_kind
  let_inside k =
      let f = and_both (ltb r.a slots && ltb r.b e) (optional_below c.types r.c) (rw k at t) in
      (ltb-true r.a slots (and_both (ltb r.a slots) (ltb r.b e) f.0).0, f.1)

  -- a match: its arms
  pub arms_inside : r.kind ≡ 4 → items_fit p c (Arms e) r.b ≡ true
  unfolding expression_in_range by_kind
  arms_inside k = (and_both (ltb r.a e) (items_fit p c (Arms e) r.b) (rw k at t)).1

  -- a record: its definition, and its list of names and values
  pub record_inside : r.kind ≡ 6 → (r.a < c.definitions) × (items_fit p c (Pairs names e) r.b ≡ true)
  unfolding expression_in_range by_kind
  record_inside k =
      let f = and_both (ltb r.a c.definitions) (items_fit p c (Pairs names e) r.b) (rw k at t) in
      (ltb-true r.a c.definitions f.0, f.1)

  -- a field: its name
  pub field_inside : r.kind ≡ 7 → r.b < names
  unfolding expression_in_range by_kind
  field_inside k = ltb-true r.b names (and_both (ltb r.a e) (ltb r.b names) (rw k at t)).1

-- an arm: its name or `_`, and no slot list on `_`
pub arm_inside : (p : List ℕ) (c : Counts) (limit s : ℕ) → items_fit p c (Arms limit) s ≡ true → (k : ℕ) → k < list_len p c s
    → (list_item p c s (4 * k) ≤ wild) × (slots_fit p c (list_item p c s (4 * k)) (list_item p c s (4 * k + 1)) ≡ true)
arm_inside p c limit s t k l =
    let f =
    and_both (leb (list_item p c s (4 * k)) wild) (slots_fit p c (list_item p c s (4 * k)) (list_item p c s (4 * k + 1)))
    (and_both
    (leb (list_item p c s (4 * k)) wild && slots_fit p c (list_item p c s (4 * k)) (list_item p c s (4 * k + 1)))
    _
    (item_fits_lem p c (Arms limit) s t k l)).0
    in
    (leb-true (list_item p c s (4 * k)) wild f.0, f.1)
