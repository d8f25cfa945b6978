-- Document 01's worked rules that are marked P, as one table of packs under one statement, computed: what the entries answer.
-- A pack is written as its rows, 32 bits each (two list words in one). The area of an order has two bytes a value, that of a root four an
-- expression, and each one byte more.
-- Assumes nothing.
use Prim.Native.Nat.{ℕ, ◌+◌, ◌*◌, ◌/◌, ◌%◌}
use mathlib.Core.Path.{◌≡◌, refl}
use mathlib.Core.List.{List, [], ◌∷◌, ◌++◌, map}
use lib.ListN.{replicate}
use Rattle.laws.specs.Choice.{pick, letting, by_kind}
use Rattle.laws.specs.Bounded.{get, put}
use Rattle.laws.specs.First.{first, walk}
use Rattle.laws.specs.Lists.{gather}
use Rattle.laws.specs.Answers.{after}
use Rattle.pack.specs.Answer.{needs}
use Rattle.pack.specs.Read.{byte_at, word_at, row32, row64, starts_with}
use Rattle.pack.specs.Counts.{in_limits}
use Rattle.pack.specs.Header.{counts_of, header_of}
use Rattle.pack.specs.Rows.{type_row, definition_row, expression_row, root_row, value_row}
use Rattle.pack.specs.Lists.{list_word, list_len, list_item, pair_of}
use Rattle.pack.specs.Named.{items_of, seconds_of, fields_of, field_types_of, type_parts_of, parts_of, row_statements, row_operands}
use Rattle.lists.specs.Lists.{list_fits, ids_fit, items_fit}
use Rattle.lists.specs.Names.{names_differ, items_rise}
use Rattle.rows.specs.Types.{primitive, type_known, named_fits, type_in_range, type_distinct, type_rule}
use Rattle.rows.specs.Definitions.{definition_kind, definition_known, definition_in_range, definition_distinct, definition_rule}
use Rattle.rows.specs.Expressions.{unused, kind_known, expression_known, expression_in_range, expression_rule}
use Rattle.rows.specs.Roots.{root_in_range, root_rule}
use Rattle.rows.specs.Values.{value_rule}
use Rattle.rows.specs.Tables.{row_rule, table_of, rows_of}
use Rattle.trees.specs.Nodes.{bodies_of, uses_of, stated_of, parent_of, depth_in, depth_of, node_fits, nodes_of}
use Rattle.formed.specs.Formed.{trees_of, body_of, formed_of}
use Rattle.type_cycle.specs.Leads.{over, none_of, inside, types_in, names_in}
use Rattle.type_cycle.specs.Cycles.{resolved, leads, on_cycle, unresolved_of, cycle_of, type_cycles_of}
use Rattle.components.specs.Answers.{any, found, first₅₀, first₅₁, first₅₂, answer}
use Rattle.components.specs.DepthFirst.{meet, meet_all, enter, reached}
use Rattle.components.specs.Tarjan.{follow, follow_all, leave, strong_connect, tarjan}
use Rattle.value_cycle.specs.Area.{bytes_of, written}
use Rattle.value_cycle.specs.Order.{answered, order_of as listing_of}
use Rattle.unionfind.specs.Answers.{selves, set_answer, fresh_answer}
use Rattle.unionfind.specs.Cells.{is_link, trail_in, trail, found as found_in, compressed}
use Rattle.unionfind.specs.Codes.{is_var}
use Rattle.structure.specs.Structure.{numbered, number_of, paired, names_of, pairwise, alike, equal_in, equal, row_number, is_var_kind, any_of, holds_in, holds}
use Rattle.structure.specs.Types.{var_code, plain_code, is_bare, code_for, code_of, code_in, holds_var}
use Rattle.unify.specs.Classes.{primitive_in, is_int, is_float, is_numeric, takes}
use Rattle.unify.specs.Unify.{resolve_of, settled, number_plan, any_plan, plan_of, unify_answer, unify_cells}
use Rattle.operators.specs.Operators.{compared, number, added, divided, remainder, power, operator_plan}
use Rattle.members.specs.Lookup.{is_member, member_of}
use Rattle.members.specs.Marks.{is_marked, any_marked, any_field_marked}
use Rattle.names.specs.Tally.{tally}
use Rattle.members.specs.Places.{any as any_place}
use Rattle.members.specs.Types.{is_row, named_by, is_list}
use Rattle.arms.specs.Match.{subject_for, subject_of, payload_fault, arm_fault, covers, covered, missing_variants}
use Rattle.slots.specs.Slots.{opened, open_all, open_list, open_pairs, shut, close_list, let_slot, close_lets}
use Rattle.words.specs.Notes.{note_of, code_noted, call_noted, diverges_noted, is_seen}
use Rattle.words.specs.Words.{encode, word_byte, put_word, word_of, seen_ids, put_words, words_area}
use Rattle.expr.specs.Rules.{literal_code, recorded, sealed, bare_rule, literal_rule, slot_rule, bool_first, operand_type, result_last, right_rule, operator_rule, guard_rule, payload_opens, payload_closes, body_rule, arm_rule, ends_arms, arms_rule, cases_rule, match_rule, kind_rule, node_rule, expr_rule}
use Rattle.expr.specs.State.{◌then◌, ◌gives◌, resolving, refusing, deciding, fresh_type, unify_step}
use Rattle.expr.specs.Root.{same_of, marks_of, root_rule as check_rule, root_answer_in, root_area_in}
use Rattle.entries.specs.Answers.{Told, told, Result, result}
use Rattle.entries.specs.Ready.{ready_to_check, ready_to_order}
use Rattle.entries.specs.Types.{types_answer, types_of}
use Rattle.entries.specs.Root.{root_checked, root_of}
use Rattle.entries.specs.Order.{order_answer, order_of}

abbrev pub bytes : List ℕ → List ℕ
bytes [] = []
bytes (w ∷ ws) = w / 16777216 ∷ w / 65536 % 256 ∷ w / 256 % 256 ∷ w % 256 ∷ bytes ws

-- a pack's rows, and how many expressions and values it has
pub record Case : Type 0 where
  pub rows : List ℕ
  pub expressions : ℕ
  pub values : ℕ

abbrev pub case : List ℕ → ℕ → ℕ → Case
case rows expressions values = record { rows = rows; expressions = expressions; values = values }

-- what the entries answer; the root is root 0
pub record Answered : Type 0 where
  pub types : Told
  pub root : Result
  pub order : Result

-- an area with one byte more than is needed
abbrev pub fill : ℕ → List ℕ
fill needed = replicate (needed + 1) 7

abbrev pub ran : Case → Answered
ran x =
    record {
      types = types_of (bytes x.rows);
      root = root_of (bytes x.rows) 0 (fill (4 * x.expressions));
      order = order_of (bytes x.rows) (fill (2 * x.values));
    }

-- a pack of values: it has no root 0; the area begins with the listing
abbrev pub lists : List ℕ → Answered
lists listing = record { types = told 0 0 0; root = result (told 5 0 0) (fill 0); order = result (told 0 0 0) (listing ++ 7 ∷ []) }

-- or the order is refused
abbrev pub refuses : ℕ → ℕ → ℕ → Answered
refuses values number place = record { types = told 0 0 0; root = result (told 5 0 0) (fill 0); order = result (told number place 0) (fill (2 * values)) }

-- a pack with one root: the area begins with the words of its nodes
abbrev pub reports : List ℕ → Answered
reports words = record { types = told 0 0 0; root = result (told 0 0 0) (words ++ 7 ∷ []); order = result (told 0 0 0) (fill 0) }

-- or the root is refused
abbrev pub refuses_root : ℕ → ℕ → ℕ → ℕ → Answered
refuses_root expressions number place detail = record { types = told 0 0 0; root = result (told number place detail) (fill (4 * expressions)); order = result (told 0 0 0) (fill 0) }

pub cases : List Case
cases =
    -- "Values, C constant, F function, X context": none
    case (0x52504B01 ∷ 0 ∷ 0 ∷ 0 ∷ []) 0 0
    -- C0{0}
    ∷ case (0x52504B01 ∷ 0 ∷ 0 ∷ 0x00010002 ∷ 0 ∷ 0x00010000 ∷ []) 0 1
    -- C0{1} C1{0}
    ∷ case (0x52504B01 ∷ 0 ∷ 0 ∷ 0x00020004 ∷ 0 ∷ 2 ∷ 0x00010001 ∷ 0x00010000 ∷ []) 0 2
    -- C0{1} F1{0}
    ∷ case (0x52504B01 ∷ 0 ∷ 0 ∷ 0x00020004 ∷ 0 ∷ 0x40000002 ∷ 0x00010001 ∷ 0x00010000 ∷ []) 0 2
    -- F0{1} F1{0}
    ∷ case (0x52504B01 ∷ 0 ∷ 0 ∷ 0x00020004 ∷ 0x40000000 ∷ 0x40000002 ∷ 0x00010001 ∷ 0x00010000 ∷ []) 0 2
    -- C0{1} F1{2} X2, and a word in no list
    ∷ case (0x52504B01 ∷ 0 ∷ 0 ∷ 0x00030006 ∷ 0 ∷ 0x40000002 ∷ 0x80000004 ∷ 0x00010001 ∷ 0x00010002 ∷ 0 ∷ []) 0 3
    -- F0 F1{2,3} F2{1} X3 C4{2}, and a word in no list
    ∷ case (0x52504B01 ∷ 0 ∷ 0 ∷ 0x0005000A ∷ 0x40000000 ∷ 0x40000001 ∷ 0x40000004 ∷ 0x80000006 ∷ 7 ∷ 0x00000002 ∷ 0x00020003 ∷ 0x00010001 ∷ 0x00000001 ∷ 0x00020000 ∷ []) 0 5
    -- the pack that 01 gives in bytes: C0{2} C1 F2{1,2}
    ∷ case (0x52504B01 ∷ 0 ∷ 0 ∷ 0x00030006 ∷ 0 ∷ 2 ∷ 0x40000003 ∷ 0x00010002 ∷ 0x00000002 ∷ 0x00010002 ∷ []) 0 3
    -- "Operators, left node 0, right 1, bool or bare expected": String Lt String
    ∷ case (0x52504B01 ∷ 0x00010000 ∷ 0x00030001 ∷ 0x00000002 ∷ 0x20010000 ∷ 0 ∷ 0 ∷ 0 ∷ 0 ∷ 0x14200000 ∷ 0x01000000 ∷ 0x00080000 ∷ 0 ∷ 0 ∷ []) 3 0
    -- i64 Exp u32
    ∷ case (0x52504B01 ∷ 0x00010000 ∷ 0x00030001 ∷ 0x00000002 ∷ 0x2002C000 ∷ 0x00B00000 ∷ 0 ∷ 0x00E00000 ∷ 0 ∷ 0x14D00000 ∷ 0x01000000 ∷ 0x00080000 ∷ 0 ∷ 0 ∷ []) 3 0
    -- i64 Exp i64
    ∷ case (0x52504B01 ∷ 0x00010000 ∷ 0x00030001 ∷ 0x00000002 ∷ 0x2002C000 ∷ 0x00B00000 ∷ 0 ∷ 0x00B00000 ∷ 0 ∷ 0x14D00000 ∷ 0x01000000 ∷ 0x00080000 ∷ 0 ∷ 0 ∷ []) 3 0
    -- a guarded `_` alone on two variants
    ∷ case (0x52504B01 ∷ 0x00020001 ∷ 0x00040001 ∷ 0x0000000E ∷ 0x20010000 ∷ 0x40000000 ∷ 1 ∷ 0x04000000 ∷ 0 ∷ 0x00400000 ∷ 0 ∷ 0x00400000 ∷ 0 ∷ 0x10000000 ∷ 0x09000000 ∷ 0x000C0000 ∷ 0x01800000 ∷ 0x00000002 ∷ 0 ∷ 0x00010000 ∷ 0x00010000 ∷ 0x00010001 ∷ 0x3FFF0000 ∷ 0x00020002 ∷ []) 4 0
    ∷ []

pub worked : map ran cases ≡
    lists []
    ∷ refuses 1 50 0
    ∷ refuses 2 51 1
    ∷ refuses 2 51 0
    ∷ lists (0 ∷ 1 ∷ 0 ∷ 0 ∷ [])
    ∷ refuses 3 52 0
    ∷ refuses 5 52 4
    ∷ lists (0 ∷ 1 ∷ 0 ∷ 2 ∷ 0 ∷ 0 ∷ [])
    ∷ refuses_root 3 21 0 0
    -- nodes 0, 1 and 2: i64, u32, i64
    ∷ reports (8 ∷ 0 ∷ 0 ∷ 11 ∷ 8 ∷ 0 ∷ 0 ∷ 14 ∷ 8 ∷ 0 ∷ 0 ∷ 11 ∷ [])
    ∷ refuses_root 3 20 1 0
    ∷ refuses_root 4 30 3 2
    ∷ []
unfolding
    cases pick by_kind first walk gather after
    needs byte_at word_at row32 row64 starts_with in_limits counts_of header_of type_row definition_row expression_row root_row value_row list_word list_len list_item items_of seconds_of fields_of field_types_of type_parts_of parts_of row_statements row_operands
    list_fits ids_fit items_fit names_differ items_rise primitive type_known named_fits type_in_range type_distinct type_rule definition_kind definition_known definition_in_range definition_distinct definition_rule unused kind_known expression_known expression_in_range expression_rule root_in_range root_rule value_rule row_rule table_of rows_of
    bodies_of uses_of stated_of parent_of depth_in depth_of node_fits nodes_of trees_of body_of formed_of
    over none_of inside types_in names_in resolved leads on_cycle unresolved_of cycle_of type_cycles_of
    any found first₅₀ first₅₁ first₅₂ answer meet meet_all enter reached follow follow_all leave strong_connect tarjan bytes_of written answered listing_of
    letting get put selves set_answer fresh_answer is_link trail_in trail found_in compressed is_var numbered number_of paired names_of pairwise alike equal_in equal row_number is_var_kind any_of holds_in holds var_code plain_code is_bare code_for code_of code_in holds_var
    primitive_in is_int is_float is_numeric takes resolve_of settled number_plan any_plan plan_of unify_answer unify_cells compared number added divided remainder power operator_plan
    pair_of is_member member_of is_marked any_marked any_field_marked subject_for subject_of payload_fault arm_fault covers covered missing_variants any_place tally is_row named_by is_list
    opened open_all open_list open_pairs shut close_list let_slot close_lets note_of code_noted call_noted diverges_noted is_seen encode word_byte put_word word_of seen_ids put_words words_area
    literal_code recorded sealed bare_rule literal_rule slot_rule bool_first operand_type result_last right_rule operator_rule guard_rule payload_opens payload_closes body_rule arm_rule ends_arms arms_rule cases_rule match_rule kind_rule node_rule expr_rule
    ◌then◌ ◌gives◌ resolving refusing deciding fresh_type unify_step same_of marks_of check_rule root_answer_in root_area_in
    ready_to_check ready_to_order types_answer root_checked order_answer
worked = refl
