-- Small packs with their answers, by computation: one table, one statement. A pack is written as rows of 32 bits.
-- Assumes nothing.
use Prim.Native.Nat.{ℕ, ◌/◌, ◌%◌}
use mathlib.Core.Path.{◌≡◌, refl}
use mathlib.Core.List.{List, [], ◌∷◌}
use mathlib.Core.Bool.{Bool, true, ◌&&◌}
use lib.Dec.{eqb}
use Rattle.laws.specs.Choice.{pick, by_kind}
use Rattle.laws.specs.First.{first, walk}
use Rattle.laws.specs.Lists.{gather}
use Rattle.laws.specs.Answers.{after}
use Rattle.pack.specs.Answer.{needs, number_of, place_of, detail_of}
use Rattle.pack.specs.Read.{byte_at, word_at, row32, row64, starts_with}
use Rattle.pack.specs.Counts.{in_limits}
use Rattle.pack.specs.Header.{counts_of, header_of}
use Rattle.pack.specs.Rows.{type_row, definition_row, expression_row, root_row, value_row}
use Rattle.pack.specs.Lists.{list_word, list_len, list_item}
use Rattle.pack.specs.Named.{items_of, seconds_of, row_statements, row_operands}
use Rattle.lists.specs.Lists.{list_fits, ids_fit, items_fit}
use Rattle.lists.specs.Names.{names_differ, items_rise}
use Rattle.rows.specs.Types.{primitive, type_known, named_fits, type_in_range, type_distinct, type_rule}
use Rattle.rows.specs.Definitions.{definition_kind, definition_known, definition_in_range, definition_distinct, definition_rule}
use Rattle.rows.specs.Expressions.{unused, kind_known, expression_known, expression_in_range, expression_rule}
use Rattle.rows.specs.Roots.{root_in_range, root_rule}
use Rattle.rows.specs.Values.{value_rule}
use Rattle.rows.specs.Tables.{row_rule, table_of, rows_of}
use Rattle.trees.specs.Nodes.{bodies_of, uses_of, stated_of, parent_of, depth_in, depth_of, node_fits, nodes_of}
use Rattle.formed.specs.Formed.{trees_of, body_of, formed_of}

abbrev bytes : List ℕ → List ℕ
bytes [] = []
bytes (w ∷ ws) = w / 16777216 ∷ w / 65536 % 256 ∷ w / 256 % 256 ∷ w % 256 ∷ bytes ws

record Case : Type 0 where
  rows : List ℕ
  number : ℕ
  place : ℕ
  detail : ℕ

abbrev case : List ℕ → ℕ → ℕ → ℕ → Case
case rows n p d = record { rows = rows; number = n; place = p; detail = d }

abbrev cases : List Case
cases =
    -- nothing at all
    case [] 1 0 0
    -- edition 2
    ∷ case (0x52504B02 ∷ 0 ∷ 0 ∷ 0 ∷ []) 2 0 0
    -- the letters RPL
    ∷ case (0x52504C01 ∷ 0 ∷ 0 ∷ 0 ∷ []) 2 0 0
    -- 2,049 types
    ∷ case (0x52504B01 ∷ 0x08010000 ∷ 0 ∷ 0 ∷ []) 3 0 0
    -- one type that is not there
    ∷ case (0x52504B01 ∷ 0x00010000 ∷ 0 ∷ 0 ∷ []) 4 0 0
    -- a pack with nothing in it
    ∷ case (0x52504B01 ∷ 0 ∷ 0 ∷ 0 ∷ []) 0 0 0
    -- document 01's whole example: three values
    ∷ case (0x52504B01 ∷ 0 ∷ 0 ∷ 0x00030006 ∷ 0 ∷ 2 ∷ 0x40000003 ∷ 0x00010002 ∷ 0x00000002 ∷ 0x00010002 ∷ []) 0 0 0
    -- value 2's references fall
    ∷ case (0x52504B01 ∷ 0 ∷ 0 ∷ 0x00030006 ∷ 0 ∷ 2 ∷ 0x40000003 ∷ 0x00010002 ∷ 0x00000002 ∷ 0x00020001 ∷ []) 14 2 4
    -- a bit of value 1 that is to be zero
    ∷ case (0x52504B01 ∷ 0 ∷ 0 ∷ 0x00030006 ∷ 0 ∷ 0x00010002 ∷ 0x40000003 ∷ 0x00010002 ∷ 0x00000002 ∷ 0x00010002 ∷ []) 10 1 4
    -- a record type with names 7, 8, 7
    ∷ case (0x52504B01 ∷ 0x00020000 ∷ 0 ∷ 0x00000008 ∷ 0x10000000 ∷ 0x50000000 ∷ 0x00030007 ∷ 0x00000008 ∷ 0x00000007 ∷ 0 ∷ []) 14 1 0
    -- a function type that returns itself
    ∷ case (0x52504B01 ∷ 0x00010000 ∷ 0 ∷ 0x00000002 ∷ 0x60000000 ∷ 0 ∷ []) 11 0 0
    -- a runtime definition with a list
    ∷ case (0x52504B01 ∷ 0x00000001 ∷ 0 ∷ 0x00000002 ∷ 0x80000001 ∷ 0 ∷ []) 10 0 1
    -- two Strings under Lt: well-formed, to be refused by its types alone
    ∷ case (0x52504B01 ∷ 0x00010000 ∷ 0x00030001 ∷ 0x00000002 ∷ 0x20010000 ∷ 0 ∷ 0 ∷ 0 ∷ 0 ∷ 0x14200000 ∷ 0x01000000 ∷ 0x00080000 ∷ 0 ∷ 0 ∷ []) 0 0 0
    -- the same operator with node 0 as left and right
    ∷ case (0x52504B01 ∷ 0x00010000 ∷ 0x00030001 ∷ 0x00000002 ∷ 0x20010000 ∷ 0 ∷ 0 ∷ 0 ∷ 0 ∷ 0x14200000 ∷ 0 ∷ 0x00080000 ∷ 0 ∷ 0 ∷ []) 12 0 0
    -- a let as root body
    ∷ case (0x52504B01 ∷ 0x00010000 ∷ 0x00020001 ∷ 0x00000002 ∷ 0x20010000 ∷ 0x00400000 ∷ 0 ∷ 0x0C000000 ∷ 0 ∷ 0x00040000 ∷ 0 ∷ 0 ∷ []) 15 1 0
    -- the same let as a block's statement
    ∷ case (0x52504B01 ∷ 0x00010000 ∷ 0x00030001 ∷ 0x00000004 ∷ 0x20010000 ∷ 0x00400000 ∷ 0 ∷ 0x0C000000 ∷ 0 ∷ 0x08000000 ∷ 0 ∷ 0x00080000 ∷ 0x00800000 ∷ 0x00010001 ∷ 0 ∷ []) 0 0 0
    -- a match whose only arm is `_`
    ∷ case (0x52504B01 ∷ 0x00010000 ∷ 0x00030001 ∷ 0x00000006 ∷ 0x20010000 ∷ 0 ∷ 0 ∷ 0 ∷ 0 ∷ 0x10000000 ∷ 0 ∷ 0x00080000 ∷ 0x01400000 ∷ 0x00013FFF ∷ 0 ∷ 0x00010000 ∷ []) 0 0 0
    -- the same with a slot list on `_`
    ∷ case (0x52504B01 ∷ 0x00010000 ∷ 0x00030001 ∷ 0x00000006 ∷ 0x20010000 ∷ 0 ∷ 0 ∷ 0 ∷ 0 ∷ 0x10000000 ∷ 0 ∷ 0x00080000 ∷ 0x01400000 ∷ 0x00013FFF ∷ 0x00060000 ∷ 0x00010000 ∷ []) 11 2 2
    ∷ []

-- the answer on those bytes has that number, place and detail
unfoldable right : Case → Bool
right x =
    eqb (number_of (formed_of (bytes x.rows))) x.number
    && eqb (place_of (formed_of (bytes x.rows))) x.place
    && eqb (detail_of (formed_of (bytes x.rows))) x.detail

unfoldable every : List Case → Bool
every [] = true
every (x ∷ xs) = right x && every xs

each_right : every cases ≡ true
unfolding
    pick by_kind first walk gather after
    needs byte_at word_at row32 row64 starts_with in_limits counts_of header_of type_row definition_row expression_row root_row value_row list_word list_len list_item items_of seconds_of row_statements row_operands
    list_fits ids_fit items_fit names_differ items_rise primitive type_known named_fits type_in_range type_distinct type_rule definition_kind definition_known definition_in_range definition_distinct definition_rule unused kind_known expression_known expression_in_range expression_rule root_in_range root_rule value_rule row_rule table_of rows_of
    bodies_of uses_of stated_of parent_of depth_in depth_of node_fits nodes_of trees_of body_of formed_of right every
each_right = refl
