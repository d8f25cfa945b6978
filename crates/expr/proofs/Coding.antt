-- Codes that name no variable but those in use, in the slots, in the notes, and as the rules name them.
--     never_coded, unit_coded, bool_coded, definition_coded, literal_coded     types that the rules name
--     recorded_ready, sealed_ready, last_coded                    notes
--     opened_ready, open_list_ready, open_pairs_ready, close_list_ready, close_lets_ready, payload_opens_ready, payload_closes_ready     slots
--     fielded, field_first, fields_next, accessed_coded     type rows that are not marked
-- Assumes nothing.
use mathlib.Core.Path.{◌≡◌, refl, subst}
use mathlib.Core.List.{List}
use mathlib.Core.Bool.{Bool, false, ◌||◌}
use Prim.Native.Nat.{ℕ, zero, suc, ◌+◌, ◌*◌, ◌%◌, ◌<◌}
use native.Mathlib.Omega.{arith}
use lib.Dec.{eqb}
use Rattle.laws.specs.Bounded.{get, put}
use Rattle.pack.specs.Lists.{list_len, list_item}
use Rattle.pack.specs.Rows.{definition_row}
use Rattle.pack.specs.declared.counts.Counts.{Counts}
use Rattle.unionfind.specs.Codes.{numbers, code, tag, is_var, never_tag, any_tag, int_tag, float_tag, definition_tag, primitive_tag, unit_tag}
use Rattle.unionfind.proofs.States.{knows_other}
use Rattle.structure.specs.Types.{code_in}
use Rattle.operators.specs.Operators.{bool_code, u8_code, u32_code, prefix_code}
use Rattle.members.specs.Lookup.{member_of}
use Rattle.members.specs.Field.{accessed_by}
use Rattle.std.proofs.Common.{Ok, None}
use Rattle.operators.specs.Operators.{operator_plan}
use Rattle.operators.specs.declared.plan.OperatorPlan.{OperatorPlan}
use Rattle.operators.proofs.Promises.{Planned, plan_codes}
use Rattle.arms.specs.Match.{arm_fault}
use Rattle.records.specs.Record.{record_fault}
use Rattle.slots.specs.Slots.{opened, Opening, open_list, open_pairs, close_list, close_lets}
use Rattle.slots.proofs.Stores.{put_all}
use Rattle.slots.proofs.Promises.{opened_all, open_list_all, open_pairs_all, close_list_all, close_lets_all}
use Rattle.words.specs.Notes.{nodes, note_of, code_noted}
use Rattle.words.proofs.Noting.{code_noted_lem}
use Rattle.expr.specs.State.{Env, State, st, with_slots, with_notes}
use Rattle.expr.specs.Rules.{unit_code, definition_code, literal_code, recorded, sealed, payload_opens, payload_closes, last_code}
use Rattle.expr.specs.Ready.{Coded, Marked, Fielded, SlotsCoded, NotesCoded, Ready}
use Rattle.expr.proofs.Unmarked.{chosen, arm_unmarked, record_unmarked, accessed_unmarked}

-- the type rows that a rule reads
abbrev pub MarkedIn : Env → Type 0
MarkedIn e = Marked e.p e.c e.same e.marks

-- ---- types that the rules name

-- a code whose tag is no variable's
plain_coded : (n t k : ℕ) → t < 8 → k < numbers → (eqb t any_tag || eqb t int_tag || eqb t float_tag) ≡ false → Coded n (code t k)
unfolding is_var
plain_coded n t k a b f =
    let e : tag (code t k) ≡ t = omega arith in
    record { small = omega arith; known = knows_other n (code t k) (rw e f) }

module _ (n : ℕ) where
  pub never_coded : Coded n (code never_tag 0)
  never_coded = plain_coded n never_tag 0 (omega arith) (omega arith) refl

  pub unit_coded : Coded n unit_code
  unit_coded = plain_coded n unit_tag 0 (omega arith) (omega arith) refl

  pub primitive_coded : (k : ℕ) → k < numbers → Coded n (code primitive_tag k)
  primitive_coded k h = plain_coded n primitive_tag k (omega arith) h refl

  pub bool_coded : Coded n bool_code
  bool_coded = primitive_coded 4 (omega arith)

  pub u8_coded : Coded n u8_code
  u8_coded = primitive_coded 12 (omega arith)

  pub u32_coded : Coded n u32_code
  u32_coded = primitive_coded 14 (omega arith)

  pub prefix_coded : Coded n prefix_code
  prefix_coded = primitive_coded 5 (omega arith)

  pub definition_coded : (d : ℕ) → Coded n (definition_code d)
  unfolding definition_code
  definition_coded d = plain_coded n definition_tag (d % numbers) (omega arith) (omega arith) refl

  pub literal_coded : (op : ℕ) → Coded n (literal_code op)
  unfolding literal_code
  literal_coded op = chosen (Coded n) _ (λ t. unit_coded) (λ f. primitive_coded (op % numbers) (omega arith))

-- ---- notes

module _ {vars : ℕ} where
  none_noted : Coded vars (code_noted 0)
  unfolding code_noted
  none_noted = never_coded vars

  note_put : (notes : List ℕ) (id : ℕ) (d : Bool) (call x : ℕ) → NotesCoded vars notes → Coded vars x → NotesCoded vars (put nodes notes id (note_of d call x))
  note_put notes id d call x h k =
      record { each = put_all (λ w. Coded vars (code_noted w)) none_noted nodes notes id (note_of d call x) (rw (code_noted_lem d call x k.small) k) h.each }

  recorded_coded : {notes : List ℕ} (id x : ℕ) → NotesCoded vars notes → Coded vars x → NotesCoded vars (recorded notes id x)
  unfolding recorded
  recorded_coded {notes = notes} id x h k = note_put notes id false 0 x h k

  sealed_coded : {notes : List ℕ} (id : ℕ) (d : Bool) (call : ℕ) → NotesCoded vars notes → NotesCoded vars (sealed notes id d call)
  unfolding sealed
  sealed_coded {notes = notes} id d call h = note_put notes id d call (code_noted (get nodes notes id)) h (h.each id)

  pub last_coded : {notes : List ℕ} (b : ℕ) → NotesCoded vars notes → Coded vars (last_code notes b)
  unfolding last_code
  last_coded zero h = unit_coded vars
  last_coded (suc l) h = h.each l

  pub noted : {s : State} {l : List ℕ} → Ready vars s → NotesCoded vars l → Ready vars (with_notes l s)
  noted h k = record { live = h.live; slots = h.slots; notes = k }

  pub slotted : {s : State} {l : List ℕ} → Ready vars s → SlotsCoded vars l → Ready vars (with_slots l s)
  slotted h k = record { live = h.live; slots = k; notes = h.notes }

  pub recorded_ready : {c s w : List ℕ} (id x : ℕ) → Ready vars (st c s w) → Coded vars x → Ready vars (st c s (recorded w id x))
  recorded_ready id x h k = noted h (recorded_coded id x h.notes k)

  pub sealed_ready : {c s w : List ℕ} (id : ℕ) (d : Bool) (call : ℕ) → Ready vars (st c s w) → Ready vars (st c s (sealed w id d call))
  sealed_ready id d call h = noted h (sealed_coded id d call h.notes)

  -- ---- slots

  pub opened_ready : {c s w : List ℕ} (a x : ℕ) → Ready vars (st c s w) → Coded vars x → Ready vars (st c (opened s a x) w)
  opened_ready a x h k = slotted h (record { each = opened_all (Coded vars) (never_coded vars) _ a x k h.slots.each })

  module _ {l s w : List ℕ} (p : List ℕ) (c : Counts) where
    pub close_list_ready : (list : ℕ) → Ready vars (st l s w) → Ready vars (st l (close_list p c list s) w)
    close_list_ready list h = slotted h (record { each = close_list_all (Coded vars) (never_coded vars) p c list s h.slots.each })

    pub close_lets_ready : (list : ℕ) → Ready vars (st l s w) → Ready vars (st l (close_lets p c list s) w)
    close_lets_ready list h = slotted h (record { each = close_lets_all (Coded vars) (never_coded vars) p c list s h.slots.each })

    pub payload_closes_ready : (payload : ℕ) → Ready vars (st l s w) → Ready vars (st l (payload_closes p c payload s) w)
    unfolding payload_closes
    payload_closes_ready zero h = h
    payload_closes_ready (suc list) h = close_list_ready list h

    -- the slots of an arm
    pub open_list_ready : (same : List ℕ) (list fields : ℕ) → ((k : ℕ) → k < list_len p c list → Coded vars (code_in p c same (list_item p c fields k)))
        → Ready vars (st l s w) → Ready vars (st l (open_list p c same list fields s).slots w)
    open_list_ready same list fields f h = slotted h (record { each = open_list_all (Coded vars) (never_coded vars) p c same list s h.slots.each fields f })

    -- a root's parameters
    pub open_pairs_ready : (same : List ℕ) (list : ℕ) → ((k : ℕ) → k < list_len p c list → Coded vars (code_in p c same (list_item p c list (2 * k + 1))))
        → Ready vars (st l s w) → Ready vars (st l (open_pairs p c same list s).slots w)
    open_pairs_ready same list f h = slotted h (record { each = open_pairs_all (Coded vars) (never_coded vars) p c same list s h.slots.each f })

  -- an arm without a fault
  pub payload_opens_ready : {l s w : List ℕ} (e : Env) (list name payload : ℕ) → MarkedIn e → arm_fault e.p e.c e.marks list name payload ≡ None
      → Ready vars (st l s w) → Ready vars (st l (payload_opens e.p e.c e.same list name payload s).slots w)
  unfolding payload_opens
  payload_opens_ready e list name zero m z h = h
  payload_opens_ready {l = l} {s = s} {w = w} e list name (suc slots) m z h =
      chosen (λ (o : Opening). Ready vars (st l o.slots w)) _
      (λ t. h)
      (λ f.
      let q = arm_unmarked e.p e.c e.marks list name slots z f in
      open_list_ready e.p e.c e.same slots (member_of e.p e.c list name) (λ k b. m.each _ (q.unmarked k (omega (arith, q.long))) vars) h)

-- ---- type rows that are not marked

-- the fields of a record without a fault
pub fielded : (e : Env) (d fields : ℕ) → MarkedIn e → record_fault e.p e.c e.marks d fields ≡ None
    → Fielded e (definition_row e.p e.c d).list fields (list_len e.p e.c fields) 0
fielded e d fields m z = record { each = λ j a b. m.each _ (record_unmarked e.p e.c e.marks d fields z j (omega arith)) }

module _ {e : Env} {list fields left k : ℕ} (f : Fielded e list fields (suc left) k) where
  pub field_first : (n : ℕ) → Coded n (code_in e.p e.c e.same (member_of e.p e.c list (list_item e.p e.c fields (2 * k))))
  field_first n = f.each k (omega arith) (omega arith) n

  pub fields_next : Fielded e list fields left (k + 1)
  fields_next = record { each = λ j a b. f.each j (omega arith) (omega arith) }

-- the right side and the result of an operator
pub plan_coded : (op own x : ℕ) (list : Bool) {plan : OperatorPlan} {vars : ℕ} → operator_plan op own x list ≡ Ok plan → Coded vars own → Coded vars plan.right × Coded vars plan.result
plan_coded op own x list {vars = vars} q k =
    subst (Planned (λ p. Coded vars p.right × Coded vars p.result)) q
    (plan_codes op own x list (Coded vars) k (bool_coded vars) (u8_coded vars) (u32_coded vars) (prefix_coded vars))

-- a field that was found
pub accessed_coded : (e : Env) (x name : ℕ) {t : ℕ} → MarkedIn e → accessed_by e.p e.c e.marks x name ≡ Ok t → (n : ℕ) → Coded n (code_in e.p e.c e.same t)
accessed_coded e x name m z n = m.each _ (accessed_unmarked e.p e.c e.marks x name _ z) n
