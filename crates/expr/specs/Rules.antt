-- "4. Expressions. Each node has an expected type; its word records that type as resolved at the end."
-- "Places: .. 20, 33, 34: the node whose rule asked (root parameters: the body). 21, 22: left node. 23, 24: examinee. 25: that arm's body.
-- 26 to 32, 36: the node. 35: let, body or node."
-- One rule a kind of node, its tests in document 01's order. A rule is given the checker of its parts (`Run`), so that `expr_rule` alone
-- recurses, on the depth left. `want` is the expected type's code; `vars` variables are in use.
use Rattle.std.specs.Prelude.{ℕ, zero, suc, ◌+◌, ◌-◌, ◌*◌, ◌%◌, eqb, leb, Bool, true, false, ◌&&◌, ◌||◌, List, Ok, Err}
use Rattle.laws.specs.Choice.{pick, letting}
use Rattle.laws.specs.Bounded.{get, put}
use Rattle.laws.specs.Faults.{refusal}
use Rattle.laws.specs.declared.fault.Fault.TheVariants.{TooDeep, StrayLet, ExamineeDiverges, NotAnEnum, ArmAfterAny, NotExhaustive, SlotNotOpen, SlotBoundBefore, HoldsVariable, NotPlain}
use Rattle.pack.specs.Lists.{list_len, list_item}
use Rattle.pack.specs.Rows.{definition_row, expression_row}
use Rattle.pack.specs.declared.counts.Counts.{Counts}
use Rattle.pack.specs.declared.rows.ExpressionRow.{ExpressionRow}
use Rattle.unionfind.specs.Codes.{numbers, code, unit_tag, primitive_tag, definition_tag}
use Rattle.unionfind.specs.declared.codes.Kind.{Kind}
use Rattle.unionfind.specs.declared.codes.Kind.TheVariants.{Var, IntVar, FloatVar}
use Rattle.structure.specs.Types.{code_in}
use Rattle.operators.specs.Names.{call_number}
use Rattle.operators.specs.Operators.{bool_code, operator_plan}
use Rattle.members.specs.Types.{is_list}
use Rattle.members.specs.Lookup.{member_of}
use Rattle.members.specs.Marks.{is_marked}
use Rattle.members.specs.Field.{Accessed, accessed_by}
use Rattle.arms.specs.Match.{wild, subject_of, arm_fault, missing_variants}
use Rattle.arms.specs.declared.answer.Subject.{Subject}
use Rattle.arms.specs.declared.answer.Subject.TheVariants as subject
use Rattle.records.specs.Record.{record_fault}
use Rattle.slots.specs.Slots.{slots as slot_count, unbound, opened, Opening, open_list, close_list, close_lets}
use Rattle.words.specs.Notes.{nodes, note_of, code_noted}
use Rattle.expr.specs.State.{Env, State, Ans, Typing, with_slots, with_notes, done, refuse, refuse_with, refusing, deciding, ◌then◌, ◌gives◌, resolving, fresh_type, unify_step, expected}

-- a checker of an expression: its id, the expected type, how many variables are in use
abbrev pub Run : Type 0
Run = ℕ → ℕ → ℕ → State → Ans

-- ---- names of document 01

-- "Expression: kind 6 .. 0 literal .. 1 slot a. 2 block .. 3 let .. 4 match .. 5 operator .. 6 record .. 7 field .. 8 return"
abbrev pub literal_kind : ℕ
literal_kind = 0

abbrev pub slot_kind : ℕ
slot_kind = 1

abbrev pub block_kind : ℕ
block_kind = 2

abbrev pub let_kind : ℕ
let_kind = 3

abbrev pub match_kind : ℕ
match_kind = 4

abbrev pub operator_kind : ℕ
operator_kind = 5

abbrev pub record_kind : ℕ
record_kind = 6

abbrev pub field_kind : ℕ
field_kind = 7

abbrev pub return_kind : ℕ
return_kind = 8

-- "5 bare integer, 6 bare float, 7 unit"
abbrev pub bare_integer : ℕ
bare_integer = 5

abbrev pub bare_float : ℕ
bare_float = 6

abbrev pub unit_literal : ℕ
unit_literal = 7

-- ---- types that the rules name

abbrev pub unit_code : ℕ
unit_code = code unit_tag 0

-- a definition without arguments (an id has 14 bits)
unfoldable pub definition_code : ℕ → ℕ
definition_code d = code definition_tag (d % numbers)

-- "literal (op 0 to 4 and 8 to 17 as primitives; .. 7 unit)" (an op has 6 bits)
unfoldable pub literal_code : ℕ → ℕ
literal_code op = pick (eqb op unit_literal) unit_code (code primitive_tag (op % numbers))

-- ---- what is noted of a node

-- the type that a node records
unfoldable pub recorded : List ℕ → ℕ → ℕ → List ℕ
recorded notes id x = put nodes notes id (note_of false 0 x)

-- the node is accepted: its note has its diverges bit and its call as well
unfoldable pub sealed : List ℕ → ℕ → Bool → ℕ → List ℕ
sealed notes id diverges call = put nodes notes id (note_of diverges call (code_noted (get nodes notes id)))

-- ---- "Literal and slot: unify expected with own type."

-- "5 bare integer, 6 bare float": "one fresh variable each"
unfoldable pub bare_rule : Kind → List ℕ → ℕ → ℕ → ℕ → State → Ans
bare_rule kind marks id want vars s = fresh_type kind vars s gives λ x vars s. unify_step marks id want x vars s

unfoldable pub literal_rule : List ℕ → ℕ → ExpressionRow → ℕ → ℕ → State → Ans
literal_rule marks id n want vars s =
    pick (eqb n.op bare_integer) (bare_rule IntVar marks id want vars s)
    (pick (eqb n.op bare_float) (bare_rule FloatVar marks id want vars s)
    (letting (literal_code n.op) λ x. unify_step marks id want x vars s))

-- "33: slot not open"; a slot holds 0 (never bound), 1 (closed) or 2 + code
unfoldable pub slot_rule : List ℕ → ℕ → ExpressionRow → ℕ → ℕ → State → Ans
slot_rule marks id n want vars s =
    letting (get slot_count s.slots n.a) λ x.
    pick (leb 2 x) (unify_step marks id want (x - 2) vars s) (refuse SlotNotOpen id s)

-- ---- "Let: 35, value, then its slot opens to the block's end."

-- the type of a let: "c = type+1 or 0", one fresh variable where there is none
unfoldable pub let_type : List ℕ → Counts → List ℕ → List ℕ → ℕ → ℕ → ℕ → State → Typing
let_type p c same marks id zero vars s = fresh_type Var vars s
let_type p c same marks id (suc t) vars s =
    pick (is_marked marks t)
    (record { typed = Err (refusal HoldsVariable id 0); st = s })
    (letting (code_in p c same t) λ x. record { typed = Ok (expected x vars); st = s })

-- "a let records unit"; "34: slot bound before in this root"
unfoldable pub let_rule : Run → Env → ℕ → ExpressionRow → ℕ → State → Ans
let_rule run e id n vars s =
    letting (recorded s.notes id unit_code) λ l.
    let_type e.p e.c e.same e.marks id n.c vars (with_notes l s) gives λ x vars s.
    run n.b x vars s then λ o s.
    letting (unbound s.slots n.a) λ free.
    letting (opened s.slots n.a x) λ l.
    pick free
    (letting (sealed s.notes id o.diverges 0) λ w. done o.diverges 0 o.vars (with_notes w (with_slots l s)))
    (refuse SlotBoundBefore id (with_slots l s))

-- ---- "Block: statements in order; no last expression: unify with unit unless diverged."

-- "one fresh variable each for: let without type, other statement"
unfoldable pub stmt_rule : Run → Env → ℕ → ℕ → State → Ans
stmt_rule run e id vars s =
    letting (expression_row e.p e.c id) λ n.
    pick (eqb n.kind let_kind)
    (let_rule run e id n vars s)
    (fresh_type Var vars s gives λ x vars s. run id x vars s)

-- the statements of a list from the k-th on, so many left; d: whether one before them diverged ("Others diverge if a part does.")
unfoldable pub stmts_rule : Run → Env → ℕ → ℕ → ℕ → Bool → ℕ → State → Ans
stmts_rule run e list zero k d vars s = done d 0 vars s
stmts_rule run e list (suc left) k d vars s =
    letting (list_item e.p e.c list k) λ id.
    stmt_rule run e id vars s then λ o s.
    letting (d || o.diverges) λ d. stmts_rule run e list left (k + 1) d o.vars s

-- "b = last+1 or 0"
unfoldable pub last_rule : Run → Env → ℕ → ℕ → ℕ → Bool → ℕ → State → Ans
last_rule run e id zero want d vars s = pick d (done d 0 vars s) (unify_step e.marks id want unit_code vars s)
last_rule run e id (suc l) want d vars s = run l want vars s

-- "a block [records] its last expression's, or unit"
unfoldable pub last_code : List ℕ → ℕ → ℕ
last_code notes zero = unit_code
last_code notes (suc l) = code_noted (get nodes notes l)

unfoldable pub block_rule : Run → Env → ℕ → ExpressionRow → ℕ → ℕ → State → Ans
block_rule run e id n want vars s =
    letting (list_len e.p e.c n.a) λ left.
    stmts_rule run e n.a left 0 false vars s then λ o s.
    last_rule run e id n.b want o.diverges o.vars s then λ l s.
    letting (close_lets e.p e.c n.a s.slots) λ x.
    letting (last_code s.notes n.b) λ t.
    letting (recorded s.notes id t) λ w.
    letting (o.diverges || l.diverges) λ d. done d 0 l.vars (with_notes w (with_slots x s))

-- ---- operators

-- "And Or Lt Le Gt Ge Eq Ne Add Sub Mul Div Mod Exp as op 0 to 13"
abbrev pub or_op : ℕ
or_op = 1

abbrev pub ne_op : ℕ
ne_op = 7

-- "And, Or, comparisons, Eq, Ne: unify expected with bool"
unfoldable pub bool_first : List ℕ → ℕ → ℕ → ℕ → ℕ → State → Ans
bool_first marks id op want vars s = pick (leb op ne_op) (unify_step marks id want bool_code vars s) (done false 0 vars s)

-- what the left side is checked against: "bool for And, Or; the fresh type otherwise"
unfoldable pub operand_type : ℕ → ℕ → State → Typing
operand_type op vars s = pick (leb op or_op) (record { typed = Ok (expected bool_code vars); st = s }) (fresh_type Var vars s)

-- "For these the result is unified with expected last."
unfoldable pub result_last : List ℕ → ℕ → ℕ → ℕ → ℕ → ℕ → State → Ans
result_last marks id op want result vars s = pick (leb op ne_op) (done false 0 vars s) (unify_step marks id want result vars s)

-- the test of the left side, checked against `own` (21, 22: "left node"), then the right one; d: whether the left one diverged
unfoldable pub right_rule : Run → Env → ℕ → ExpressionRow → ℕ → ℕ → Bool → ℕ → State → Ans
right_rule run e id n want own d vars s =
    resolving own s λ x s.
    letting (is_list e.p e.c x) λ list.
    letting (operator_plan n.op own x list)
    (deciding (λ fault. refuse fault n.a s) λ plan.
    run n.b plan.right vars s then λ r s.
    result_last e.marks id n.op want plan.result r.vars s then λ u s.
    letting (d || r.diverges) λ d. done d (call_number plan.call) u.vars s)

-- the fresh variable is "made as its rule starts (Lt to Ne: after bool)"
unfoldable pub operator_rule : Run → Env → ℕ → ExpressionRow → ℕ → ℕ → State → Ans
operator_rule run e id n want vars s =
    bool_first e.marks id n.op want vars s then λ u s.
    operand_type n.op u.vars s gives λ own vars s.
    run n.a own vars s then λ l s.
    right_rule run e id n want own l.diverges l.vars s

-- ---- "Match: examinee; 23, 24, 36; arms in order"

-- "guard against bool"; "guard+1 or 0"
unfoldable pub guard_rule : Run → ℕ → ℕ → State → Ans
guard_rule run zero vars s = done false 0 vars s
guard_rule run (suc g) vars s = run g bool_code vars s

-- the payload of an arm: "35, then slots open for guard and body"; "slot list+1 or 0 (0 for `_`, else 11)", so that `_` opens none
unfoldable pub payload_opens : List ℕ → Counts → List ℕ → ℕ → ℕ → ℕ → List ℕ → Opening
payload_opens p c same list name zero slots = record { ok = true; slots = slots }
payload_opens p c same list name (suc l) slots =
    pick (eqb name wild) (record { ok = true; slots = slots })
    (open_list p c same l (member_of p c list name) slots)

unfoldable pub payload_closes : List ℕ → Counts → ℕ → List ℕ → List ℕ
payload_closes p c zero slots = slots
payload_closes p c (suc l) slots = close_list p c l slots

-- guard, then body against expected, in arm k of the list of arms; then its slots close. "guards don't count": the arm diverges if its body
-- does
unfoldable pub body_rule : Run → Env → ℕ → ℕ → ℕ → ℕ → ℕ → State → Ans
body_rule run e arms k payload want vars s =
    letting (list_item e.p e.c arms (4 * k + 2)) λ guard.
    guard_rule run guard vars s then λ g s.
    letting (list_item e.p e.c arms (4 * k + 3)) λ body.
    run body want g.vars s then λ o s.
    letting (payload_closes e.p e.c payload s.slots) λ l. done o.diverges 0 o.vars (with_slots l s)

-- arm k: 26 to 29 and 35; 34 where a slot was bound before
unfoldable pub arm_rule : Run → Env → ℕ → ℕ → ℕ → ℕ → ℕ → ℕ → State → Ans
arm_rule run e id list arms k want vars s =
    letting (list_item e.p e.c arms (4 * k)) λ name.
    letting (list_item e.p e.c arms (4 * k + 1)) λ payload.
    letting (arm_fault e.p e.c e.marks list name payload)
    (refusing (λ fault. refuse fault id s)
    (letting (payload_opens e.p e.c e.same list name payload s.slots) λ o.
    pick o.ok (body_rule run e arms k payload want vars (with_slots o.slots s)) (refuse SlotBoundBefore id (with_slots o.slots s))))

-- "an unguarded `_`"
unfoldable pub ends_arms : List ℕ → Counts → ℕ → ℕ → Bool
ends_arms p c arms k = eqb (list_item p c arms (4 * k)) wild && eqb (list_item p c arms (4 * k + 2)) 0

-- the arms from the k-th on, so many left; ended: whether the arm before was an unguarded `_`; d: whether every body so far diverged.
-- "25: arm after an unguarded `_`", at "that arm's body"
unfoldable pub arms_rule : Run → Env → ℕ → ℕ → ℕ → ℕ → ℕ → Bool → Bool → ℕ → ℕ → State → Ans
arms_rule run e id list arms zero k ended d want vars s = done d 0 vars s
arms_rule run e id list arms (suc left) k ended d want vars s =
    pick ended
    (letting (list_item e.p e.c arms (4 * k + 3)) λ body. refuse ArmAfterAny body s)
    (arm_rule run e id list arms k want vars s then λ o s.
    letting (ends_arms e.p e.c arms k) λ ended.
    letting (d && o.diverges) λ d. arms_rule run e id list arms left (k + 1) ended d want o.vars s)

-- "Diverges if every arm body does"; "Then 30."
unfoldable pub cases_rule : Run → Env → ℕ → ℕ → ℕ → ℕ → ℕ → State → Ans
cases_rule run e id list arms want vars s =
    letting (list_len e.p e.c arms) λ left.
    arms_rule run e id list arms left 0 false true want vars s then λ o s.
    letting (missing_variants e.p e.c list arms) λ missing.
    pick (eqb missing 0) (done o.diverges 0 o.vars s) (refuse_with NotExhaustive id missing s)

-- "24: isn't an enum", at the examinee; "36: definition with parameters in match"
abbrev pub subject_rule : Run → Env → ℕ → ExpressionRow → ℕ → ℕ → State → Subject → Ans
subject_rule run e id n want vars s subject.Other = refuse NotAnEnum n.a s
subject_rule run e id n want vars s subject.Generic = refuse NotPlain id s
subject_rule run e id n want vars s (subject.Enum list) = cases_rule run e id list n.b want vars s

-- "One fresh variable each for: .. match, field, .. made as its rule starts"; "23, 24: examinee"
unfoldable pub match_rule : Run → Env → ℕ → ExpressionRow → ℕ → ℕ → State → Ans
match_rule run e id n want vars s =
    fresh_type Var vars s gives λ own vars s.
    run n.a own vars s then λ o s.
    pick o.diverges (refuse ExamineeDiverges n.a s)
    (resolving own s λ x s.
    letting (subject_of e.p e.c x) (subject_rule run e id n want o.vars s))

-- ---- "Record: 36, 31, 35, fields in written order, then unify."

-- the fields given from the k-th on, so many left; d: whether one before them diverged
unfoldable pub fields_rule : Run → Env → ℕ → ℕ → ℕ → ℕ → Bool → ℕ → State → Ans
fields_rule run e list fields zero k d vars s = done d 0 vars s
fields_rule run e list fields (suc left) k d vars s =
    letting (list_item e.p e.c fields (2 * k)) λ name.
    letting (list_item e.p e.c fields (2 * k + 1)) λ value.
    letting (member_of e.p e.c list name) λ t.
    letting (code_in e.p e.c e.same t) λ x.
    run value x vars s then λ o s.
    letting (d || o.diverges) λ d. fields_rule run e list fields left (k + 1) d o.vars s

unfoldable pub record_rule : Run → Env → ℕ → ExpressionRow → ℕ → ℕ → State → Ans
record_rule run e id n want vars s =
    letting (record_fault e.p e.c e.marks n.a n.b)
    (refusing (λ f. refuse_with f.fault id f.detail s)
    (letting (definition_row e.p e.c n.a) λ r.
    letting (list_len e.p e.c n.b) λ left.
    fields_rule run e r.list n.b left 0 false vars s then λ o s.
    letting (definition_code n.a) λ x.
    unify_step e.marks id want x o.vars s then λ u s.
    done o.diverges 0 u.vars s))

-- ---- "Field: the inner node, 36, 32, 35, unify."

-- a field that was found
unfoldable pub field_type_rule : List ℕ → Counts → List ℕ → List ℕ → ℕ → ℕ → ℕ → Bool → ℕ → State → Ans
field_type_rule p c same marks id t want d vars s =
    letting (code_in p c same t) λ x.
    unify_step marks id want x vars s then λ u s. done d 0 u.vars s

abbrev pub accessed_rule : Env → ℕ → ℕ → Bool → ℕ → State → Accessed → Ans
accessed_rule e id want d vars s (Err fault) = refuse fault id s
accessed_rule e id want d vars s (Ok t) = field_type_rule e.p e.c e.same e.marks id t want d vars s

unfoldable pub field_rule : Run → Env → ℕ → ExpressionRow → ℕ → ℕ → State → Ans
field_rule run e id n want vars s =
    fresh_type Var vars s gives λ own vars s.
    run n.a own vars s then λ o s.
    resolving own s λ x s.
    letting (accessed_by e.p e.c e.marks x n.b) (accessed_rule e id want o.diverges o.vars s)

-- ---- "Return (ours): value against the root's return type, or that with unit; diverges." "a = value+1 or 0"

unfoldable pub returned_rule : Run → Env → ℕ → ℕ → ℕ → State → Ans
returned_rule run e id zero vars s = unify_step e.marks id e.ret unit_code vars s
returned_rule run e id (suc v) vars s = run v e.ret vars s

unfoldable pub return_rule : Run → Env → ℕ → ExpressionRow → ℕ → State → Ans
return_rule run e id n vars s = returned_rule run e id n.a vars s then λ o s. done true 0 o.vars s

-- ---- all kinds

-- (a let that is no statement, and a kind past 8, are not met: 15 and 10 come before)
unfoldable pub kind_rule : Run → Env → ℕ → ExpressionRow → ℕ → ℕ → State → ℕ → Ans
kind_rule run e id n want vars s kind =
    pick (eqb kind literal_kind) (literal_rule e.marks id n want vars s)
    (pick (eqb kind slot_kind) (slot_rule e.marks id n want vars s)
    (pick (eqb kind block_kind) (block_rule run e id n want vars s)
    (pick (eqb kind match_kind) (match_rule run e id n want vars s)
    (pick (eqb kind operator_kind) (operator_rule run e id n want vars s)
    (pick (eqb kind record_kind) (record_rule run e id n want vars s)
    (pick (eqb kind field_kind) (field_rule run e id n want vars s)
    (pick (eqb kind return_kind) (return_rule run e id n vars s)
    (refuse StrayLet id s))))))))

-- the expected type is recorded first; then the rule of the node's kind; then the note is sealed
unfoldable pub node_rule : Run → Env → ℕ → ℕ → ℕ → State → Ans
node_rule run e id want vars s =
    letting (expression_row e.p e.c id) λ n.
    letting (recorded s.notes id want) λ l.
    (letting n.kind (kind_rule run e id n want vars (with_notes l s))) then λ o s.
    letting (sealed s.notes id o.diverges o.call) λ w.
    record { step = Ok o; st = with_notes w s }

-- "13: depth over 64": a well-formed pack has none
unfoldable pub expr_rule : ℕ → Env → Run
expr_rule zero e id want vars s = refuse TooDeep id s
expr_rule (suc left) e id want vars s = node_rule (expr_rule left e) e id want vars s
