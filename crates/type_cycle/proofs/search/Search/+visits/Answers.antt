use Rattle.type_cycle.proofs.SkipLaws.{tier, visits_item, visits_passed}
use native.Mathlib.Omega.{arith}
use Rattle.type_cycle.proofs.VisitLaws.{nothing}
use Rattle.type_cycle.proofs.StepLaws.{enters_type, mark_can, mark_falls, enum_types, record_types, variants_only, variant_inside, type_inside, visits_variant, visits_type, item_within, visited_can, whole_list, leaves_name, items_fields, part_types, name_ahead, quiet_ahead}
use mathlib.Core.Path.{ap, ◌∙◌}
use Rattle.pack.specs.Kinds.{type_number, definition_number}
use Rattle.laws.specs.Lists.{gather}
use Rattle.type_cycle.specs.Graph.{at_name, row_ahead, unresolved}
use Rattle.laws.specs.Choice.{by_kind}
use Rattle.std.proofs.Common.{rules, ◌≡◌, [], ◌∷◌, true, false}
use Rattle.std.specs.Prelude.{ltb, eqb}
use borrow.Author.Tests.{eqb-false, ltb-true}
use Rattle.type_cycle.proofs.search.Search.+visits.Goals as goal

-- ---- visit

pub visit-visit_row-requires : goal.visit-visit_row-requires
visit-visit_row-requires t c = (omega (arith, c.decreases, mark_falls c.requires.1 c.args.t (omega (arith, c.requires.1.ready.few_types)) c.if-not-self-at.true), (rw c.type_row-row.ensures (c.requires.1.ready.rows _ c.requires.0), mark_can c.requires.1 _))

pub visit-returns-then-not-self-at : goal.visit-returns-then-not-self-at
visit-returns-then-not-self-at t c = enters_type _ _ (omega (arith, c.requires.1.ready.few_types)) c.if-not-self-at.true (omega (arith, c.requires.1.ready.few_types, c.requires.1.long)) c.type_row-row.ensures c.visit_row.ensures

-- ---- visit_fields

pub visit_fields-visit_list-requires : goal.visit_fields-visit_list-requires
visit_fields-visit_list-requires t c = (omega (arith, c.decreases), (rw (enum_types _ _ _ c.definition_of-row.ensures (c.in-Ok-Enum.ensures ∙ ap definition_number c.in-Ok-Enum.field-0-is)) (c.requires.1.ready.fields _ c.requires.0), c.requires.1))

pub visit_fields-visit_list-requires-in-Ok-Record : goal.visit_fields-visit_list-requires-in-Ok-Record
visit_fields-visit_list-requires-in-Ok-Record t c = (omega (arith, c.decreases), (rw (record_types _ _ _ c.definition_of-row.ensures (c.in-Ok-Record.ensures ∙ ap definition_number c.in-Ok-Record.field-0-is)) (c.requires.1.ready.fields _ c.requires.0), c.requires.1))

pub visit_fields-returns-in-Ok-Enum : goal.visit_fields-returns-in-Ok-Enum
visit_fields-returns-in-Ok-Enum t c = rw (← enum_types _ _ _ c.definition_of-row.ensures (c.in-Ok-Enum.ensures ∙ ap definition_number c.in-Ok-Enum.field-0-is)) c.visit_list.ensures

pub visit_fields-returns-in-Ok-Record : goal.visit_fields-returns-in-Ok-Record
visit_fields-returns-in-Ok-Record t c = rw (← record_types _ _ _ c.definition_of-row.ensures (c.in-Ok-Record.ensures ∙ ap definition_number c.in-Ok-Record.field-0-is)) c.visit_list-in-Ok-Record.ensures

-- ---- visit_item

pub visit_item-visit_list-requires : goal.visit_item-visit_list-requires
visit_item-visit_list-requires t c = (omega (arith, c.decreases, ap tier (variants_only c.args.items c.is_variants.ensures c.if-not-is_variants.false)), (variant_inside _ _ _ c.args.k c.args.items c.is_variants.ensures c.if-not-is_variants.false c.word_in.ensures c.item_of-t.ensures.same c.requires.1, c.requires.2))

pub visit_item-visit-requires : goal.visit_item-visit-requires
visit_item-visit-requires t c = (omega (arith, c.decreases), (type_inside _ _ _ c.args.k c.args.items c.is_variants.ensures c.if-not-is_variants.true c.word_in.ensures c.item_of-t.ensures.same c.requires.1, c.requires.2))

pub visit_item-returns-then-not-is_variants : goal.visit_item-returns-then-not-is_variants
visit_item-returns-then-not-is_variants t c = visits_type _ _ _ c.args.k c.args.items c.is_variants.ensures c.if-not-is_variants.true c.word_in.ensures c.item_of-t.ensures.same c.visit.ensures

pub visit_item-returns-then-not-pass_all : goal.visit_item-returns-then-not-pass_all
visit_item-returns-then-not-pass_all t c = visits_variant _ _ _ c.args.k c.args.items c.is_variants.ensures c.if-not-is_variants.false c.word_in.ensures c.item_of-t.ensures.same c.visit_list.ensures

pub visit_item-returns-else-not-pass_all : goal.visit_item-returns-else-not-pass_all
visit_item-returns-else-not-pass_all t c = visits_variant _ _ _ c.args.k c.args.items c.is_variants.ensures c.if-not-is_variants.false c.word_in.ensures c.item_of-t.ensures.same (c.pass_all.ensures.all c.if-not-pass_all.false _ _ _)

-- ---- visit_list

pub visit_list-loop-k-init : goal.visit_list-loop-k-init
unfolding gather
visit_list-loop-k-init t c = (omega arith, nothing _)

pub visit_list-visit_item-requires : goal.visit_list-visit_item-requires
visit_list-visit_item-requires t c = (omega (arith, c.decreases, c.loop-k.invariant.1.fewer), (omega (arith, c.length_of-count.ensures.small), item_within _ _ _ _ _ (omega (arith, c.length_of-count.ensures.same)) c.requires.0, visited_can c.requires.1 c.loop-k.invariant.1))

pub visit_list-loop-k-preserved-then-skip-eq0 : goal.visit_list-loop-k-preserved-then-skip-eq0
visit_list-loop-k-preserved-then-skip-eq0 t c = (omega arith, visits_item _ _ c.args.items c.args.s c.loop-k.k c.loop-k.invariant.1 _ c.visit_item.ensures c.set.ensures)

pub visit_list-loop-k-preserved : goal.visit_list-loop-k-preserved
visit_list-loop-k-preserved t c = (c.pass-k.ensures.high, visits_passed _ _ _ _ _ c.loop-k.invariant.1 c.pass-k.ensures)

pub visit_list-returns : goal.visit_list-returns
visit_list-returns t c = whole_list _ _ _ _ _ _ c.length_of-count.ensures.same c.loop-k.invariant.0 (omega arith) c.loop-k.invariant.1

-- ---- visit_name

pub visit_name-visit_fields-requires : goal.visit_name-visit_fields-requires
visit_name-visit_fields-requires t c = (omega (arith, c.decreases, mark_falls c.requires.1 (at_name c.args.d) (omega (arith, c.requires.1.ready.few_definitions)) c.if-not-self-at.true), (c.requires.0, mark_can c.requires.1 _))

pub visit_name-returns-then-not-self-at : goal.visit_name-returns-then-not-self-at
visit_name-returns-then-not-self-at t c = leaves_name _ _ (omega (arith, c.requires.1.ready.few_definitions)) c.if-not-self-at.true (omega (arith, c.requires.1.ready.few_definitions, c.requires.1.long)) c.visit_fields.ensures c.push.ensures

-- ---- visit_row

pub visit_row-visit_list-requires : goal.visit_row-visit_list-requires
visit_row-visit_list-requires t c = (omega (arith, c.decreases), (rw (items_fields _ _ _) (c.requires.0.parts (c.in-Ok-Record.ensures ∙ ap type_number c.in-Ok-Record.field-0-is)), c.requires.1))

pub visit_row-returns-in-Ok-Named : goal.visit_row-returns-in-Ok-Named
visit_row-returns-in-Ok-Named t c = rw (← name_ahead _ _ c.args.row (c.in-Ok-Named.ensures ∙ ap type_number c.in-Ok-Named.field-0-is)) c.visit_name.ensures

pub visit_row-returns-in-Ok-Record : goal.visit_row-returns-in-Ok-Record
visit_row-returns-in-Ok-Record t c = rw (← part_types _ _ c.args.row (c.in-Ok-Record.ensures ∙ ap type_number c.in-Ok-Record.field-0-is)) c.visit_list.ensures

pub visit_row-returns-in-Ok-Var : goal.visit_row-returns-in-Ok-Var
unfolding row_ahead by_kind
visit_row-returns-in-Ok-Var t c = let e : unresolved ∷ [] ≡ row_ahead c.args.pack.now c.args.c.now c.args.row = search rules in rw (← e) (c.visit_variable.ensures.visited _ _)

pub visit_row-returns : goal.visit_row-returns
visit_row-returns t c =
    let k : ltb c.args.row.kind 7 ≡ true = search rules in
    let a : eqb c.args.row.kind 4 ≡ false = search rules in
    let b : eqb c.args.row.kind 5 ≡ false = search rules in
    rw (← quiet_ahead _ _ c.args.row (eqb-false _ _ a) (eqb-false _ _ b) (ltb-true _ _ k)) (nothing _)
