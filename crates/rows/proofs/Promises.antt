-- What rows without a fault promise, for the layers above.
--     rule_passed       the rule of each row of each table gave no fault
--     parts_smaller     "A type refers only to smaller type ids."
--     fields_inside     a definition's field types are types of the pack
--     kids_smaller      "Children have smaller ids."
--     root_inside       a root's body is an expression of the pack, its return type and its parameters' are types
--     refs_inside       a value references values of the pack
--     refs_rise         and its references rise strictly
-- Assumes nothing.
use Prim.Native.Nat.{ℕ, zero, suc, ◌+◌, ◌*◌, ◌-◌, ◌<◌}
use mathlib.Core.Path.{◌≡◌, refl, sym}
use mathlib.Core.Logic.{⊎_elim}
use mathlib.Core.Bool.{Bool, true, ◌&&◌}
use mathlib.Core.List.{List, [], ◌∷◌, ◌++◌}
use native.Mathlib.Omega.{arith}
use lib.Dec.{leb, ltb}
use borrow.Author.Tests.{ltb-true, ne_eqb}
use Rattle.std.proofs.Common.{Option, Some, None, Ok}
use Rattle.laws.specs.Faults.{passes, faulted}
use Rattle.laws.specs.declared.fault.Fault.{Fault}
use Rattle.laws.specs.declared.fault.Fault.TheVariants.{UnknownRow, OutOfRange}
use Rattle.laws.specs.Choice.{pick, by_kind}
use Rattle.laws.specs.Lists.{In, gather}
use Rattle.laws.proofs.Choice.{fails, tested, and_both}
use Rattle.laws.proofs.First.{each, all_each}
use Rattle.laws.proofs.Lists.{in_cons, in_one, in_append, gather_in}
use Rattle.pack.specs.Lists.{list_len, list_item}
use Rattle.pack.specs.Rows.{type_row, definition_row, expression_row, root_row, value_row}
use Rattle.pack.specs.Named.{optional, items_of, seconds_of, arm_kids, type_parts_of, parts_of, fields_of, field_types_of, row_statements, row_operands, kids_of, refs_of}
use Rattle.pack.specs.declared.counts.Counts.{Counts}
use Rattle.pack.specs.declared.rows.TypeRow.{TypeRow}
use Rattle.pack.specs.declared.rows.DefinitionRow.{DefinitionRow}
use Rattle.pack.specs.declared.rows.ExpressionRow.{ExpressionRow}
use Rattle.lists.specs.declared.lists.Items.{Items}
use Rattle.lists.specs.declared.lists.Items.TheVariants.{Ids, Pairs, Variants, Arms}
use Rattle.lists.specs.Limits.{optional_below, names, wild, slots, variables}
use Rattle.lists.specs.Lists.{list_fits, ids_fit, slots_fit, words_of, item_fits, items_fit}
use Rattle.lists.specs.Names.{items_rise}
use Rattle.rows.specs.Types.{type_in_range, named_fits, type_rule}
use Rattle.rows.specs.Definitions.{definition_in_range, definition_rule}
use Rattle.rows.specs.Expressions.{expression_in_range, expression_rule}
use Rattle.rows.specs.Roots.{root_in_range, root_rule}
use Rattle.rows.specs.Values.{value_rule}
use Rattle.rows.specs.Tables.{tables, rows_in, row_rule, row_of, table_of, rows_of}

-- ---- each row passed its rule

none_found : {A : Type 0} (place detail : ℕ) (x : A) (fault : Option Fault) → passes (faulted fault place detail (Ok x)) ≡ true → fault ≡ None
none_found place detail x None e = refl
none_found place detail x (Some fault) e = absurd (fails (sym e))

pub rule_passed : (p : List ℕ) (c : Counts) → passes (rows_of p c) ≡ true → (table i : ℕ) → table < tables → i < rows_in c table → row_rule p c table i ≡ None
unfolding rows_of table_of
rule_passed p c e table i l h =
    none_found i table c (row_rule p c table i)
    (each (λ i. passes (row_of p c table i)) (row_of p c table) (Ok c) passes (λ k f. f) (rows_in c table) 0
    (each (λ t. passes (table_of p c t)) (table_of p c) (Ok c) passes (λ k f. f) tables 0 e table (omega arith) l)
    i (omega arith) h)

-- ---- lists in range

-- each item of a list in range is in range
pub item_fits_lem : (p : List ℕ) (c : Counts) (items : Items) (s : ℕ) → items_fit p c items s ≡ true → (k : ℕ) → k < list_len p c s → item_fits p c items s k ≡ true
unfolding items_fit
item_fits_lem p c items s e k l = all_each (item_fits p c items s) (list_len p c s) (and_both (list_fits c s (words_of items (list_len p c s))) _ e).1 k l

pub items_below : (p : List ℕ) (c : Counts) (limit s : ℕ) → items_fit p c (Ids limit) s ≡ true → (k : ℕ) → In k (items_of p c s) → k < limit
unfolding items_of
items_below p c limit s e k m =
    let g = gather_in k (λ j. list_item p c s j ∷ []) (list_len p c s) 0 m in
    omega (arith, in_one k (list_item p c s g.0) g.3, ltb-true (list_item p c s g.0) limit (item_fits_lem p c (Ids limit) s e g.0 (omega (arith, g.2))))

pub ids_below : (p : List ℕ) (c : Counts) (limit s : ℕ) → ids_fit p c limit s ≡ true → (k : ℕ) → In k (items_of p c s) → k < limit
unfolding ids_fit items_fit
ids_below p c limit s e k m = items_below p c limit s e k m

pub seconds_below : (p : List ℕ) (c : Counts) (first limit s : ℕ) → items_fit p c (Pairs first limit) s ≡ true → (k : ℕ) → In k (seconds_of p c s) → k < limit
unfolding seconds_of
seconds_below p c first limit s e k m =
    let g = gather_in k (λ j. list_item p c s (2 * j + 1) ∷ []) (list_len p c s) 0 m in
    let f = and_both (ltb (list_item p c s (2 * g.0)) first) (ltb (list_item p c s (2 * g.0 + 1)) limit) (item_fits_lem p c (Pairs first limit) s e g.0 (omega (arith, g.2))) in
    omega (arith, in_one k (list_item p c s (2 * g.0 + 1)) g.3, ltb-true (list_item p c s (2 * g.0 + 1)) limit f.1)

pub optional_below_lem : (limit x : ℕ) → optional_below limit x ≡ true → (k : ℕ) → In k (optional x) → k < limit
optional_below_lem limit zero e k m = absurd (omega arith)
optional_below_lem limit (suc x) e k m = omega (arith, in_one k x m, ltb-true x limit e)

pub arms_below : (p : List ℕ) (c : Counts) (limit s : ℕ) → items_fit p c (Arms limit) s ≡ true → (k : ℕ) → In k (gather (arm_kids p c s) 0 (list_len p c s)) → k < limit
arms_below p c limit s e k m =
    let g = gather_in k (arm_kids p c s) (list_len p c s) 0 m in
    let f =
    and_both (optional_below limit (list_item p c s (4 * g.0 + 2))) (ltb (list_item p c s (4 * g.0 + 3)) limit)
    (and_both
    (leb (list_item p c s (4 * g.0)) wild && slots_fit p c (list_item p c s (4 * g.0)) (list_item p c s (4 * g.0 + 1)))
    _
    (item_fits_lem p c (Arms limit) s e g.0 (omega (arith, g.2)))).1
    in
    ⊎_elim
    (λ h. optional_below_lem limit (list_item p c s (4 * g.0 + 2)) f.0 k h)
    (λ h. omega (arith, in_one k (list_item p c s (4 * g.0 + 3)) h, ltb-true (list_item p c s (4 * g.0 + 3)) limit f.1))
    (in_append k (optional (list_item p c s (4 * g.0 + 2))) (list_item p c s (4 * g.0 + 3) ∷ []) g.3)

pub variants_below : (p : List ℕ) (c : Counts) (s : ℕ) → items_fit p c Variants s ≡ true → (k : ℕ)
    → In k (gather (λ j. items_of p c (list_item p c s (2 * j + 1))) 0 (list_len p c s)) → k < c.types
variants_below p c s e k m =
    let g = gather_in k (λ j. items_of p c (list_item p c s (2 * j + 1))) (list_len p c s) 0 m in
    let f = and_both (ltb (list_item p c s (2 * g.0)) names) _ (item_fits_lem p c Variants s e g.0 (omega (arith, g.2))) in
    ids_below p c c.types (list_item p c s (2 * g.0 + 1)) f.1 k g.3

-- a member of a list of one, or of one and others
one_below : {limit : ℕ} (k x : ℕ) → ltb x limit ≡ true → In k (x ∷ []) → k < limit
one_below {limit} k x e m = omega (arith, in_one k x m, ltb-true x limit e)

cons_below : {limit : ℕ} (k x : ℕ) (xs : List ℕ) → ltb x limit ≡ true → (In k xs → k < limit) → In k (x ∷ xs) → k < limit
cons_below {limit} k x xs e r m = ⊎_elim (λ q. omega (arith, ltb-true x limit e)) r (in_cons k x xs m)

-- ---- a row's two tests, from its rule's fault

passed : (known ranged : Bool) (rest : Option Fault) → pick known (pick ranged rest (Some OutOfRange)) (Some UnknownRow) ≡ None → ranged ≡ true
passed known ranged rest e = (tested ranged rest _ (tested known (pick ranged rest (Some OutOfRange)) _ e).1).0

-- ---- types

abbrev type_of : ℕ → ℕ → ℕ → TypeRow
type_of kind a b = record { kind = kind; a = a; b = b }

row_parts : (p : List ℕ) (c : Counts) (i k kind a b : ℕ) → type_in_range p c i (type_of kind a b) ≡ true → In k (type_parts_of p c (type_of kind a b)) → k < i
unfolding type_in_range type_parts_of by_kind named_fits
row_parts p c i k zero a b t m = absurd (omega arith)
row_parts p c i k (suc zero) a b t m = absurd (omega arith)
row_parts p c i k (suc (suc zero)) a b t m = absurd (omega arith)
row_parts p c i k (suc (suc (suc zero))) a b t m = absurd (omega arith)
row_parts p c i k (suc (suc (suc (suc zero)))) a b t m =
    items_below p c i b (and_both (ltb a c.definitions) (items_fit p c (Ids i) b) (and_both (ltb a c.definitions && items_fit p c (Ids i) b) _ t).0).1 k m
row_parts p c i k (suc (suc (suc (suc (suc zero))))) a b t m = seconds_below p c names i b t k m
row_parts p c i k (suc (suc (suc (suc (suc (suc zero)))))) a b t m =
    let f = and_both (ltb a i) (items_fit p c (Ids i) b) t in
    cons_below k a (items_of p c b) f.0 (λ h. items_below p c i b f.1 k h) m
row_parts p c i k (suc (suc (suc (suc (suc (suc (suc zero))))))) a b t m = absurd (omega arith)
row_parts p c i k (suc (suc (suc (suc (suc (suc (suc (suc zero)))))))) a b t m = absurd (omega arith)
row_parts p c i k (suc (suc (suc (suc (suc (suc (suc (suc (suc zero))))))))) a b t m = absurd (omega arith)
row_parts p c i k (suc (suc (suc (suc (suc (suc (suc (suc (suc (suc zero)))))))))) a b t m =
    seconds_below p c names i b (and_both (ltb a variables) (items_fit p c (Pairs names i) b) t).1 k m
row_parts p c i k (suc (suc (suc (suc (suc (suc (suc (suc (suc (suc (suc kind))))))))))) a b t m = absurd (omega arith)

pub parts_smaller : (p : List ℕ) (c : Counts) → passes (rows_of p c) ≡ true → (i k : ℕ) → i < c.types → In k (parts_of p c i) → k < i
unfolding row_rule by_kind type_rule parts_of
parts_smaller p c o i k l m =
    row_parts p c i k (type_row p i).kind (type_row p i).a (type_row p i).b (passed _ _ _ (rule_passed p c o 0 i (omega arith) l)) m

-- ---- definitions

abbrev definition_of : ℕ → ℕ → ℕ → ℕ → DefinitionRow
definition_of kind parameters zeros list = record { kind = kind; parameters = parameters; zero = zeros; list = list }

row_fields : (p : List ℕ) (c : Counts) (k kind parameters zeros list : ℕ) → definition_in_range p c (definition_of kind parameters zeros list) ≡ true
    → In k (fields_of p c (definition_of kind parameters zeros list)) → k < c.types
unfolding definition_in_range fields_of by_kind
row_fields p c k zero parameters zeros list t m = variants_below p c list t k m
row_fields p c k (suc zero) parameters zeros list t m = seconds_below p c names c.types list t k m
row_fields p c k (suc (suc kind)) parameters zeros list t m = absurd (omega arith)

pub fields_inside : (p : List ℕ) (c : Counts) → passes (rows_of p c) ≡ true → (i k : ℕ) → i < c.definitions → In k (field_types_of p c i) → k < c.types
unfolding row_rule by_kind definition_rule field_types_of
fields_inside p c o i k l m =
    let r = definition_row p c i in
    row_fields p c k r.kind r.parameters r.zero r.list (passed _ _ _ (rule_passed p c o 1 i (omega arith) l)) m

-- ---- expressions

abbrev node_of : ℕ → ℕ → ℕ → ℕ → ℕ → ℕ → ExpressionRow
node_of kind op a b d zeros = record { kind = kind; op = op; a = a; b = b; c = d; zero = zeros }

row_kids : (p : List ℕ) (c : Counts) (e k kind op a b d zeros : ℕ) → expression_in_range p c e (node_of kind op a b d zeros) ≡ true
    → In k (row_statements p c (node_of kind op a b d zeros) ++ row_operands p c (node_of kind op a b d zeros)) → k < e
unfolding expression_in_range row_statements row_operands by_kind pick
row_kids p c e k zero op a b d zeros t m = absurd (omega arith)
row_kids p c e k (suc zero) op a b d zeros t m = absurd (omega arith)
row_kids p c e k (suc (suc zero)) op a b d zeros t m =
    let f = and_both (items_fit p c (Ids e) a) (optional_below e b) t in
    ⊎_elim (λ h. items_below p c e a f.0 k h) (λ h. optional_below_lem e b f.1 k h) (in_append k (items_of p c a) (optional b) m)
row_kids p c e k (suc (suc (suc zero))) op a b d zeros t m =
    one_below k b (and_both (ltb a slots) (ltb b e) (and_both (ltb a slots && ltb b e) (optional_below c.types d) t).0).1 m
row_kids p c e k (suc (suc (suc (suc zero)))) op a b d zeros t m =
    let f = and_both (ltb a e) (items_fit p c (Arms e) b) t in
    cons_below k a (gather (arm_kids p c b) 0 (list_len p c b)) f.0 (λ h. arms_below p c e b f.1 k h) m
row_kids p c e k (suc (suc (suc (suc (suc zero))))) op a b d zeros t m =
    let f = and_both (ltb a e) (ltb b e) t in
    cons_below k a (b ∷ []) f.0 (one_below k b f.1) m
row_kids p c e k (suc (suc (suc (suc (suc (suc zero)))))) op a b d zeros t m =
    seconds_below p c names e b (and_both (ltb a c.definitions) (items_fit p c (Pairs names e) b) t).1 k m
row_kids p c e k (suc (suc (suc (suc (suc (suc (suc zero))))))) op a b d zeros t m = one_below k a (and_both (ltb a e) (ltb b names) t).0 m
row_kids p c e k (suc (suc (suc (suc (suc (suc (suc (suc zero)))))))) op a b d zeros t m = optional_below_lem e a t k m
row_kids p c e k (suc (suc (suc (suc (suc (suc (suc (suc (suc kind))))))))) op a b d zeros t m = absurd (omega (arith, rw (ne_eqb (suc (suc (suc (suc (suc (suc (suc (suc (suc kind))))))))) 2 (λ h. omega arith)) at m))

pub kids_smaller : (p : List ℕ) (c : Counts) → passes (rows_of p c) ≡ true → (e k : ℕ) → e < c.expressions → In k (kids_of p c e) → k < e
unfolding row_rule by_kind expression_rule
kids_smaller p c o e k l m =
    let r = expression_row p c e in
    row_kids p c e k r.kind r.op r.a r.b r.c r.zero (passed _ _ _ (rule_passed p c o 2 e (omega arith) l)) m

-- ---- roots

pub record RootInside (p : List ℕ) (c : Counts) (i : ℕ) : Type 0 where
  pub body : (root_row p c i).body < c.expressions
  pub returns : (root_row p c i).returns < c.types
  pub parameters : items_fit p c (Pairs slots c.types) (root_row p c i).list ≡ true

pub root_inside : (p : List ℕ) (c : Counts) → passes (rows_of p c) ≡ true → (i : ℕ) → i < c.roots → RootInside p c i
unfolding row_rule by_kind root_rule root_in_range
root_inside p c o i l =
    let r = root_row p c i in
    let t = passed _ _ _ (rule_passed p c o 3 i (omega arith) l) in
    let f = and_both (ltb r.body c.expressions && ltb r.returns c.types) _ t in
    let g = and_both (ltb r.body c.expressions) (ltb r.returns c.types) f.0 in
    record { body = ltb-true r.body c.expressions g.0; returns = ltb-true r.returns c.types g.1; parameters = f.1 }

-- ---- values

pub refs_inside : (p : List ℕ) (c : Counts) → passes (rows_of p c) ≡ true → (v k : ℕ) → v < c.values → In k (refs_of p c v) → k < c.values
unfolding row_rule by_kind value_rule
refs_inside p c o v k l m = items_below p c c.values (value_row p c v).list (passed _ _ _ (rule_passed p c o 4 v (omega arith) l)) k m

pub refs_rise : (p : List ℕ) (c : Counts) → passes (rows_of p c) ≡ true → (v k : ℕ) → v < c.values → k + 1 < list_len p c (value_row p c v).list
    → list_item p c (value_row p c v).list k < list_item p c (value_row p c v).list (k + 1)
unfolding row_rule by_kind value_rule items_rise
refs_rise p c o v k l h =
    let s = (value_row p c v).list in
    let z = (tested _ _ _ (tested _ _ _ (rule_passed p c o 4 v (omega arith) l)).1).1 in
    ltb-true (list_item p c s k) (list_item p c s (k + 1)) (all_each (λ j. ltb (list_item p c s j) (list_item p c s (j + 1))) (list_len p c s - 1) (tested _ _ _ z).0 k (omega arith))
