use Rattle.laws.specs.Choice.{by_kind}
use Rattle.pack.specs.Kinds.{node_number}
use Rattle.pack.specs.Named.{row_operands, seconds_of}
use Rattle.trees.proofs.NoteLaws.{note_nothing, note_single, note_after}
use Rattle.trees.proofs.HopLaws.{noting, hops_kept}
use mathlib.Core.Path.{refl, sym, ap, ◌≡◌, ◌∙◌}
use mathlib.Core.List.{List}
use Prim.Native.Nat.{ℕ, ◌≤◌}
use lib.ListN.{length, get_or-eq_default}
use Rattle.trees.proofs.notes.Notes.note_operands.Goals as goal

-- a kind past all rules
past_rules : {R A : Type 0} (r : R) (kind : ℕ) (other : A) (rules : List (R → A)) → length rules ≤ kind → other ≡ by_kind r kind other rules
unfolding by_kind
past_rules {R} {A} r kind other rules h = ap (λ (f : R → A). f r) (sym (get_or-eq_default rules (λ x. other) h))

pub note_list-requires : goal.note_list-requires
note_list-requires c = hops_kept _ _ _ c.requires (note_single _ _ refl c.note-in-Ok-Match.ensures.noted) c.note-in-Ok-Match.ensures.hops

pub returns-in-Ok-Literal : goal.returns-in-Ok-Literal
returns-in-Ok-Literal c = unfold row_operands by_kind in rw (c.in-Ok-Literal.ensures ∙ ap node_number c.in-Ok-Literal.field-0-is) (noting _ _ _ c.requires (note_nothing _ _ _ refl) refl)

pub returns-in-Ok-Slot : goal.returns-in-Ok-Slot
returns-in-Ok-Slot c = unfold row_operands by_kind in rw (c.in-Ok-Slot.ensures ∙ ap node_number c.in-Ok-Slot.field-0-is) (noting _ _ _ c.requires (note_nothing _ _ _ refl) refl)

pub returns-in-Ok-Block : goal.returns-in-Ok-Block
returns-in-Ok-Block c = unfold row_operands by_kind in rw (c.in-Ok-Block.ensures ∙ ap node_number c.in-Ok-Block.field-0-is) (noting _ _ _ c.requires c.note_optional.ensures.noted c.note_optional.ensures.hops)

pub returns-in-Ok-Let : goal.returns-in-Ok-Let
returns-in-Ok-Let c = unfold row_operands by_kind in rw (c.in-Ok-Let.ensures ∙ ap node_number c.in-Ok-Let.field-0-is) (noting _ _ _ c.requires (note_single _ _ refl c.note.ensures.noted) c.note.ensures.hops)

pub returns-in-Ok-Match : goal.returns-in-Ok-Match
returns-in-Ok-Match c = unfold row_operands by_kind in rw (c.in-Ok-Match.ensures ∙ ap node_number c.in-Ok-Match.field-0-is) (record { is = note_after _ _ _ _ c.note-in-Ok-Match.ensures.noted c.note_list.ensures.is; kept = c.note_list.ensures.kept })

pub returns-in-Ok-Operator : goal.returns-in-Ok-Operator
returns-in-Ok-Operator c = unfold row_operands by_kind in rw (c.in-Ok-Operator.ensures ∙ ap node_number c.in-Ok-Operator.field-0-is) (noting _ _ _ c.requires (note_after _ _ _ _ c.note-in-Ok-Operator.ensures.noted (note_single _ _ refl c.note-in-Ok-Operator-2.ensures.noted)) (c.note-in-Ok-Operator-2.ensures.hops ∙ c.note-in-Ok-Operator.ensures.hops))

pub returns-in-Ok-Record : goal.returns-in-Ok-Record
returns-in-Ok-Record c = unfold row_operands by_kind seconds_of in rw (c.in-Ok-Record.ensures ∙ ap node_number c.in-Ok-Record.field-0-is) c.note_list-in-Ok-Record.ensures

pub returns-in-Ok-Field : goal.returns-in-Ok-Field
returns-in-Ok-Field c = unfold row_operands by_kind in rw (c.in-Ok-Field.ensures ∙ ap node_number c.in-Ok-Field.field-0-is) (noting _ _ _ c.requires (note_single _ _ refl c.note-in-Ok-Field.ensures.noted) c.note-in-Ok-Field.ensures.hops)

pub returns-in-Ok-Return : goal.returns-in-Ok-Return
returns-in-Ok-Return c = unfold row_operands by_kind in rw (c.in-Ok-Return.ensures ∙ ap node_number c.in-Ok-Return.field-0-is) (noting _ _ _ c.requires c.note_optional-in-Ok-Return.ensures.noted c.note_optional-in-Ok-Return.ensures.hops)

pub returns-in-Err : goal.returns-in-Err
returns-in-Err c = unfold row_operands in noting _ _ _ c.requires (note_nothing _ _ _ (past_rules _ _ _ _ c.in-Err.ensures.0)) refl
