-- What a call in a rule is given, from what the calls before it ensured.
--     cells_ready      no slots and notes
--     ready_recorded, ready_settled, ready_opened     a type was recorded or resolved, slots were opened
--     ready_typed      a type was asked for
--     ready_inner, own_inner, coded_inner, inner_live     an expression was checked against it
--     accessed_given   the type of a field
--     fielded_from, field_coded    the types of the fields given to a record
-- Assumes nothing.
use mathlib.Core.Path.{◌≡◌, refl, sym, subst, ◌∙◌}
use mathlib.Core.List.{List, []}
use mathlib.Core.Bool.{Bool}
use Prim.Native.Nat.{ℕ, ◌*◌, ◌<◌, ◌≤◌}
use native.Mathlib.Omega.{arith}
use lib.Dec.{ltb}
use Rattle.laws.specs.Bounded.{get}
use Rattle.laws.proofs.Choice.{yes, no, by_test}
use Rattle.pack.specs.Rows.{definition_row}
use Rattle.pack.specs.Lists.{list_len, list_item}
use Rattle.pack.specs.declared.rows.DefinitionRow.{DefinitionRow}
use Rattle.unionfind.specs.Cells.{Live, Knows}
use Rattle.unify.specs.Unify.{Resolves}
use Rattle.structure.specs.Types.{code_in}
use Rattle.members.specs.Lookup.{member_of}
use Rattle.members.specs.Field.{Accessed, accessed_by}
use Rattle.arms.specs.Match.{arm_fault}
use Rattle.records.specs.Record.{record_fault}
use Rattle.records.specs.declared.answer.RecordFault.{RecordFault}
use Rattle.laws.specs.declared.fault.Fault.{Fault}
use Rattle.slots.specs.Slots.{slots, Opening, opening}
use Rattle.words.specs.Notes.{nodes, code_noted}
use Rattle.expr.specs.State.{Env, State, Ans, Typing, st, Step, Typed, expected}
use Rattle.expr.specs.Rules.{recorded, payload_opens}
use Rattle.expr.specs.Ready.{Coded, Ready, Fielded, Ran, CellsType}
use Rattle.expr.proofs.Coding.{MarkedIn, never_coded, recorded_ready, payload_opens_ready, fielded, accessed_coded}
use Rattle.expr.specs.declared.answer.Outcome.{Outcome}
use Rattle.expr.proofs.Kept.{after, after_type, coded_more}
use Rattle.expr.proofs.Keeps.{Given}
use Rattle.std.proofs.Common.{Ok, Option, None}

get_none : (n i : ℕ) → get n [] i ≡ 0
unfolding get
get_none n i = by_test (ltb i n) (λ t. sym (yes _ _ _ t refl)) (λ f. sym (no _ _ _ f refl))

-- of the cells alone
pub cells_ready : {vars : ℕ} {c : List ℕ} → Live vars c → Ready vars (st c [] [])
unfolding code_noted
cells_ready {vars = vars} l =
    record {
      live = l;
      slots = record { each = λ i. rw (get_none slots i) (never_coded vars) };
      notes = record { each = λ i. rw (get_none nodes i) (never_coded vars) };
    }

-- a type was recorded or resolved
module _ {vars : ℕ} {c s w : List ℕ} (h : Ready vars (st c s w)) where
  pub ready_recorded : (id x : ℕ) {v : List ℕ} → v ≡ recorded w id x → Coded vars x → Ready vars (st c s v)
  ready_recorded id x q k = rw q (recorded_ready id x h k)

  pub ready_settled : {x r : ℕ} {d : List ℕ} → Resolves vars c x r d → Ready vars (st d s w)
  ready_settled r = record { live = r.live; slots = h.slots; notes = h.notes }

-- the slots of an arm were opened
opened_as : {vars : ℕ} {ok : Bool} {o : Opening} {c s w : List ℕ} → opening ok s ≡ o → Ready vars (st c o.slots w) → Ready vars (st c s w)
opened_as {vars = vars} {c = c} {w = w} q h = subst (λ (o : Opening). Ready vars (st c o.slots w)) (sym q) h

pub ready_opened : {e : Env} {vars : ℕ} {c s w : List ℕ} → Given e vars (st c s w) → (list name payload : ℕ) {ok : Bool} {l : List ℕ} {found : Option Fault}
    → found ≡ arm_fault e.p e.c e.marks list name payload → found ≡ None → opening ok l ≡ payload_opens e.p e.c e.same list name payload s → Ready vars (st c l w)
ready_opened {e = e} g list name payload f z q = opened_as q (payload_opens_ready e list name payload g.marked (sym f ∙ z) g.ready)

-- a type was asked for, and then an expression checked against it
module _ {vars : ℕ} {c s w : List ℕ} (h : Ready vars (st c s w)) {rule : State → Typing} {t : Typed} {c1 : List ℕ} (f : CellsType vars rule c t c1)
    {own more : ℕ} (q : t ≡ Ok (expected own more)) where
  asked : (vars ≤ more) × (Ready more (st c1 s w) × Coded more own)
  asked = after_type (f.ran s w h) q

  pub ready_typed : Ready more (st c1 s w) × Coded more own
  ready_typed = asked.1

  module _ {a : Ans} {r : Step} {c2 s2 w2 : List ℕ} (i : Ran more a r c2 s2 w2) {o : Outcome} (d : r ≡ Ok o) where
    pub ready_inner : Ready o.vars (st c2 s2 w2)
    ready_inner = (after i d).1

    pub own_inner : Coded o.vars own
    own_inner = coded_more (after i d).0 asked.1.1

    pub coded_inner : {x : ℕ} → Coded vars x → Coded o.vars x
    coded_inner k = coded_more (after i d).0 (coded_more asked.0 k)

    -- what resolving that type needs
    pub inner_live : Live o.vars c2 × Knows o.vars own
    inner_live = (ready_inner.live, own_inner.known)

-- the field that was found
pub accessed_given : (e : Env) → MarkedIn e → (x name : ℕ) {t : ℕ} {a : Accessed} → a ≡ accessed_by e.p e.c e.marks x name → a ≡ Ok t
    → (n : ℕ) → Coded n (code_in e.p e.c e.same t)
accessed_given e m x name q h = accessed_coded e x name m (sym q ∙ h)

-- the record's fields: none wrong, so their types are not marked
pub fielded_from : {e : Env} (a b : ℕ) {left : ℕ} {found : Option RecordFault} {row : DefinitionRow} → MarkedIn e → found ≡ record_fault e.p e.c e.marks a b → found ≡ None
    → row ≡ definition_row e.p e.c a → left ≡ list_len e.p e.c b → Fielded e row.list b left 0
fielded_from {e = e} a b m f z r l = rw (r, l) (fielded e a b m (sym f ∙ z))

-- one of them, against which its value is checked
pub field_coded : {e : Env} {list fields n k vars name t x : ℕ} → Fielded e list fields n 0 → k < n → name ≡ list_item e.p e.c fields (2 * k) → t ≡ member_of e.p e.c list name
    → x ≡ code_in e.p e.c e.same t → Coded vars x
field_coded {k = k} {vars = vars} f h a b c = rw (c, b, a) (f.each k (omega arith) (omega arith) vars)
