-- The numbers of the kinds of rows, and what it says to decode one.
use Rattle.std.specs.Prelude.{ℕ, ◌≡◌, ◌≤◌, Result, Ok, Err}
use Rattle.pack.specs.declared.kinds.UnknownKind.{UnknownKind}
use Rattle.pack.specs.declared.kinds.TypeKind.{TypeKind}
use Rattle.pack.specs.declared.kinds.DefinitionKind.{DefinitionKind}
use Rattle.pack.specs.declared.kinds.NodeKind.{NodeKind}
use Rattle.pack.specs.declared.kinds.ValueKind.{ValueKind}
use Rattle.pack.specs.declared.kinds.TypeKind.TheVariants as type
use Rattle.pack.specs.declared.kinds.DefinitionKind.TheVariants as definition
use Rattle.pack.specs.declared.kinds.NodeKind.TheVariants as node
use Rattle.pack.specs.declared.kinds.ValueKind.TheVariants as value

-- n is the number of the kind that was found; where none was, n is past all of them, and the answer has it
abbrev pub Decodes : {K : Type 0} → (K → ℕ) → ℕ → ℕ → Result K UnknownKind → Type 0
Decodes number limit n (Ok kind) = n ≡ number kind
Decodes number limit n (Err e) = (limit ≤ n) × (e.0 ≡ n)

abbrev pub type_number : TypeKind → ℕ
type_number type.Never = 0
type_number type.Unit = 1
type_number type.Primitive = 2
type_number type.Explicit = 3
type_number type.Named = 4
type_number type.Record = 5
type_number type.Function = 6
type_number type.Var = 7
type_number type.IntVar = 8
type_number type.FloatVar = 9
type_number type.RecordVar = 10

abbrev pub TypeKindOf : ℕ → Result TypeKind UnknownKind → Type 0
TypeKindOf = Decodes type_number 11

abbrev pub definition_number : DefinitionKind → ℕ
definition_number definition.Enum = 0
definition_number definition.Record = 1
definition_number definition.Runtime = 2
definition_number definition.List = 3

abbrev pub DefinitionKindOf : ℕ → Result DefinitionKind UnknownKind → Type 0
DefinitionKindOf = Decodes definition_number 4

abbrev pub node_number : NodeKind → ℕ
node_number node.Literal = 0
node_number node.Slot = 1
node_number node.Block = 2
node_number node.Let = 3
node_number node.Match = 4
node_number node.Operator = 5
node_number node.Record = 6
node_number node.Field = 7
node_number node.Return = 8

abbrev pub NodeKindOf : ℕ → Result NodeKind UnknownKind → Type 0
NodeKindOf = Decodes node_number 9

abbrev pub value_number : ValueKind → ℕ
value_number value.Constant = 0
value_number value.Function = 1
value_number value.Context = 2
value_number value.Other = 3

abbrev pub ValueKindOf : ℕ → Result ValueKind UnknownKind → Type 0
ValueKindOf = Decodes value_number 4
