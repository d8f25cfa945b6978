-- "Expression: kind 6, op 6, a, b, c of 14 each, zero 10." Refusals 10 and 11 of a row, kinds 0 to 8 in their order:
-- literal, slot, block, let, match, operator, record, field, return.
use Rattle.std.specs.Prelude.{ℕ, Bool, true, false, ◌&&◌, List, [], ◌∷◌, ltb, eqb, Option}
use Rattle.laws.specs.Choice.{by_kind}
use Rattle.laws.specs.declared.fault.Fault.{Fault}
use Rattle.pack.specs.Rows.{expression_row}
use Rattle.pack.specs.declared.counts.Counts.{Counts}
use Rattle.pack.specs.declared.rows.ExpressionRow.{ExpressionRow}
use Rattle.lists.specs.declared.lists.Items.TheVariants.{Ids, Pairs, Arms}
use Rattle.lists.specs.Limits.{names, slots, literals, operators, optional_below}
use Rattle.lists.specs.Lists.{items_fit}
use Rattle.rows.specs.Types.{fault_of}

-- three fields that a kind does not use
unfoldable pub unused : ℕ → ℕ → ℕ → Bool
unused x y z = eqb x 0 && eqb y 0 && eqb z 0

-- 10: "unknown kind, op .., unused field .. not zero"
unfoldable pub kind_known : ExpressionRow → Bool
kind_known r =
    by_kind r r.kind false
    ((λ r. ltb r.op literals && unused r.a r.b r.c)
    ∷ (λ r. unused r.op r.b r.c)
    ∷ (λ r. unused r.op 0 r.c)
    ∷ (λ r. unused r.op 0 0)
    ∷ (λ r. unused r.op 0 r.c)
    ∷ (λ r. ltb r.op operators && unused 0 0 r.c)
    ∷ (λ r. unused r.op 0 r.c)
    ∷ (λ r. unused r.op 0 r.c)
    ∷ (λ r. unused r.op r.b r.c)
    ∷ [])

-- ".. or bits not zero"
unfoldable pub expression_known : ExpressionRow → Bool
expression_known r = eqb r.zero 0 && kind_known r

-- 11 of row e: "Children have smaller ids. Slots are 0 to 255."
unfoldable pub expression_in_range : List ℕ → Counts → ℕ → ExpressionRow → Bool
expression_in_range p c e r =
    by_kind r r.kind true
    ((λ r. true)
    ∷ (λ r. ltb r.a slots)
    ∷ (λ r. items_fit p c (Ids e) r.a && optional_below e r.b)
    ∷ (λ r. ltb r.a slots && ltb r.b e && optional_below c.types r.c)
    ∷ (λ r. ltb r.a e && items_fit p c (Arms e) r.b)
    ∷ (λ r. ltb r.a e && ltb r.b e)
    ∷ (λ r. ltb r.a c.definitions && items_fit p c (Pairs names e) r.b)
    ∷ (λ r. ltb r.a e && ltb r.b names)
    ∷ (λ r. optional_below e r.a)
    ∷ [])

unfoldable pub expression_rule : List ℕ → Counts → ℕ → Option Fault
expression_rule p c e = fault_of (expression_known (expression_row p c e)) (expression_in_range p c e (expression_row p c e)) true
