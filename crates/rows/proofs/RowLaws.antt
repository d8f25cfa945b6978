-- 14 after 11: what a row in range tells of the names and references that 14 asks of. No table has more rows than there are expressions in the largest pack.
-- Assumes nothing.
use Prim.Native.Nat.{ℕ, zero, suc, ◌*◌, ◌<◌, ◌≤◌}
use mathlib.Core.Path.{◌≡◌, refl}
use mathlib.Core.Bool.{Bool, true, false}
use mathlib.Core.List.{List}
use lib.Dec.{ltb}
use native.Mathlib.Omega.{arith}
use borrow.Author.Tests.{ltb-true}
use Rattle.laws.specs.Choice.{pick, by_kind}
use Rattle.laws.proofs.Choice.{and_both}
use Rattle.laws.proofs.First.{all_each}
use Rattle.pack.specs.Counts.{in_limits}
use Rattle.pack.proofs.CountLaws.{limited}
use Rattle.pack.specs.Lists.{list_len, list_item}
use Rattle.pack.specs.declared.counts.Counts.{Counts}
use Rattle.pack.specs.declared.rows.TypeRow.{TypeRow}
use Rattle.pack.specs.declared.rows.DefinitionRow.{DefinitionRow}
use Rattle.lists.specs.Limits.{names, variables}
use Rattle.lists.specs.Lists.{list_fits, words_of, item_fits, items_fit}
use Rattle.lists.specs.Names.{Named}
use Rattle.rows.specs.Tables.{rows_in}
use Rattle.rows.specs.Types.{type_in_range, fault_of}
use Rattle.rows.specs.Definitions.{definition_in_range}
use Rattle.lists.specs.declared.lists.Items.{Items}
use Rattle.lists.specs.declared.lists.Items.TheVariants.{Ids, Pairs, Variants}

pub rows_most : (c : Counts) (table : ℕ) → in_limits c ≡ true → rows_in c table ≤ 4096
rows_most c zero t = omega (arith, (limited c t).types)
rows_most c (suc zero) t = omega (arith, (limited c t).definitions)
rows_most c (suc (suc zero)) t = (limited c t).expressions
rows_most c (suc (suc (suc zero))) t = omega (arith, (limited c t).roots)
rows_most c (suc (suc (suc (suc zero)))) t = omega (arith, (limited c t).values)
rows_most c (suc (suc (suc (suc (suc table))))) t = omega arith

-- the last test counts only where the second one holds
pub ruled : {known k ranged r q d : Bool} → known ≡ k → ranged ≡ r → (r ≡ true → q ≡ d) → fault_of known ranged q ≡ fault_of k r d
unfolding pick
ruled {k = k} {r = r} {q = q} {d = d} e f g = rw (e, f) (go r g)
  where
    go : (r : Bool) → (r ≡ true → q ≡ d) → fault_of k r q ≡ fault_of k r d
    go true g = rw (g refl) refl
    go false g = refl

both_of : (p : List ℕ) (c : Counts) (items : Items) (s : ℕ) → items_fit p c items s ≡ true → (list_fits c s (words_of items (list_len p c s)) ≡ true) × ((k : ℕ) → k < list_len p c s → item_fits p c items s k ≡ true)
unfolding items_fit
both_of p c items s t =
    let h = and_both (list_fits c s (words_of items (list_len p c s))) _ t in
    (h.0, λ k l. all_each (item_fits p c items s) (list_len p c s) h.1 k l)

pub listed : (p : List ℕ) (c : Counts) (limit s : ℕ) → items_fit p c (Ids limit) s ≡ true → list_fits c s (list_len p c s) ≡ true
listed p c limit s t = (both_of p c (Ids limit) s t).0

named_pairs : (p : List ℕ) (c : Counts) (limit s : ℕ) → items_fit p c (Pairs names limit) s ≡ true → Named p c s
named_pairs p c limit s t =
    let h = both_of p c (Pairs names limit) s t in
    record { inside = h.0; names_below = λ k l. ltb-true (list_item p c s (2 * k)) names (and_both (ltb (list_item p c s (2 * k)) names) _ (h.1 k l)).0 }

named_variants : (p : List ℕ) (c : Counts) (s : ℕ) → items_fit p c Variants s ≡ true → Named p c s
named_variants p c s t =
    let h = both_of p c Variants s t in
    record { inside = h.0; names_below = λ k l. ltb-true (list_item p c s (2 * k)) names (and_both (ltb (list_item p c s (2 * k)) names) _ (h.1 k l)).0 }

module _ (p : List ℕ) (c : Counts) (i : ℕ) (r : TypeRow) where
  pub named_5 : r.kind ≡ 5 → type_in_range p c i r ≡ true → Named p c r.b
  unfolding type_in_range by_kind
  named_5 e t = named_pairs p c i r.b (rw e at t)

  pub named_10 : r.kind ≡ 10 → type_in_range p c i r ≡ true → Named p c r.b
  unfolding type_in_range by_kind
  named_10 e t = named_pairs p c i r.b (and_both (ltb r.a variables) _ (rw e at t)).1

module _ (p : List ℕ) (c : Counts) (r : DefinitionRow) where
  pub named_enum : r.kind ≡ 0 → definition_in_range p c r ≡ true → Named p c r.list
  unfolding definition_in_range by_kind
  named_enum e t = named_variants p c r.list (rw e at t)

  pub named_record : r.kind ≡ 1 → definition_in_range p c r ≡ true → Named p c r.list
  unfolding definition_in_range by_kind
  named_record e t = named_pairs p c c.types r.list (rw e at t)
