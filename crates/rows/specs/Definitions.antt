-- "Definition: kind 2 (0 enum, 1 record, 2 runtime, 3 list), parameters 4, zero 12, list 14."
use Rattle.std.specs.Prelude.{ℕ, Bool, true, false, ◌&&◌, List, [], ◌∷◌, eqb, Option}
use Rattle.laws.specs.Choice.{by_kind}
use Rattle.laws.specs.declared.fault.Fault.{Fault}
use Rattle.pack.specs.Rows.{definition_row}
use Rattle.pack.specs.declared.counts.Counts.{Counts}
use Rattle.pack.specs.declared.rows.DefinitionRow.{DefinitionRow}
use Rattle.lists.specs.declared.lists.Items.TheVariants.{Pairs, Variants}
use Rattle.lists.specs.Limits.{names}
use Rattle.lists.specs.Lists.{items_fit}
use Rattle.lists.specs.Names.{names_differ}
use Rattle.rows.specs.Types.{fault_of}

-- 10: "Runtime, list: list unused."
unfoldable pub definition_kind : DefinitionRow → Bool
definition_kind r =
    by_kind r r.kind false ((λ r. true) ∷ (λ r. true) ∷ (λ r. eqb r.list 0) ∷ (λ r. eqb r.list 0) ∷ [])

unfoldable pub definition_known : DefinitionRow → Bool
definition_known r = eqb r.zero 0 && definition_kind r

-- 11: "Enum items: (name, start of a list of field types). Record items: (name, type)."
unfoldable pub definition_in_range : List ℕ → Counts → DefinitionRow → Bool
definition_in_range p c r =
    by_kind r r.kind true
    ((λ r. items_fit p c Variants r.list) ∷ (λ r. items_fit p c (Pairs names c.types) r.list) ∷ [])

-- 14: "a name repeated in .. a definition"
unfoldable pub definition_distinct : List ℕ → Counts → DefinitionRow → Bool
definition_distinct p c r =
    by_kind r r.kind true ((λ r. names_differ p c r.list) ∷ (λ r. names_differ p c r.list) ∷ [])

unfoldable pub definition_rule : List ℕ → Counts → ℕ → Option Fault
definition_rule p c i =
    fault_of (definition_known (definition_row p c i)) (definition_in_range p c (definition_row p c i))
    (definition_distinct p c (definition_row p c i))
