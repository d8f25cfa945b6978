-- What rows without a fault give to the search: each definition and type that it comes to is there, and parts are smaller.
-- Assumes nothing.
use Prim.Native.Nat.{ℕ, ◌<◌}
use mathlib.Core.Path.{◌≡◌}
use mathlib.Core.Bool.{true, ◌&&◌}
use mathlib.Core.List.{List}
use native.Mathlib.Omega.{arith}
use lib.Dec.{ltb}
use borrow.Author.Tests.{ltb-true}
use Rattle.laws.specs.Choice.{by_kind}
use Rattle.laws.proofs.Choice.{tested, and_both}
use Rattle.laws.specs.Faults.{passes}
use Rattle.pack.specs.Counts.{in_limits}
use Rattle.pack.specs.Rows.{type_row}
use Rattle.pack.specs.declared.counts.Counts.{Counts}
use Rattle.pack.specs.declared.rows.TypeRow.{TypeRow}
use Rattle.lists.specs.Lists.{items_fit}
use Rattle.rows.specs.Types.{type_in_range, named_fits, type_rule}
use Rattle.rows.specs.Tables.{row_rule, rows_of}
use Rattle.pack.proofs.CountLaws.{limited}
use Rattle.rows.proofs.Promises.{rule_passed, parts_smaller, fields_inside}
use Rattle.type_cycle.specs.Order.{Good}
use Rattle.type_cycle.proofs.LeadLaws.{parts_seconds}

named_inside : (p : List ℕ) (c : Counts) (t : ℕ) (r : TypeRow) → type_in_range p c t r ≡ true → r.kind ≡ 4 → r.a < c.definitions
unfolding type_in_range by_kind named_fits
named_inside p c t r e k =
    ltb-true r.a c.definitions (and_both (ltb r.a c.definitions) _ (and_both (ltb r.a c.definitions && items_fit p c _ r.b) _ (rw k at e)).0).0

module _ (p : List ℕ) (c : Counts) (few : in_limits c ≡ true) (o : passes (rows_of p c) ≡ true) where
  ranged : (t : ℕ) → t < c.types → type_in_range p c t (type_row p t) ≡ true
  unfolding row_rule by_kind type_rule
  ranged t l = (tested _ _ _ (tested _ _ _ (rule_passed p c o 0 t (omega arith) l)).1).0

  pub good : Good p c
  good =
      record {
        ready =
            record {
              few_types = (limited c few).types;
              few_definitions = (limited c few).definitions;
              rows =
                  λ t l.
                  record {
                    named = named_inside p c t (type_row p t) (ranged t l);
                    parts = λ k. record { below = λ x i. omega (arith, parts_smaller p c o t x l (rw (parts_seconds p c t k) i)) };
                  };
              fields = λ d l. record { below = λ x i. fields_inside p c o d x l i };
            };
        smaller = λ t u l i. parts_smaller p c o t u l i;
      }
