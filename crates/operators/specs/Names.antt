-- The numbers that document 01 gives to primitives and calls.
use Rattle.std.specs.Prelude.{ℕ, [], ◌∷◌, get_or, Option, Some, None}
use Rattle.operators.specs.declared.names.Call.{Call}
use Rattle.operators.specs.declared.names.Call.TheVariants.{PrefixNew, StringAppend, ListConcat}
use Rattle.operators.specs.declared.names.Op.{Op}
use Rattle.operators.specs.declared.names.Op.TheVariants as op
use Rattle.operators.specs.declared.names.Primitive.{Primitive}
use Rattle.operators.specs.declared.names.Primitive.TheVariants as primitive

-- "Primitive: 0 String, 1 Char, 2 Asn, 3 IpAddr, 4 bool, 5 Prefix, 8 to 15 i8 i16 i32 i64 u8 u16 u32 u64, 16 f32, 17 f64."
abbrev pub primitive_number : Primitive → ℕ
primitive_number primitive.String = 0
primitive_number primitive.Char = 1
primitive_number primitive.Asn = 2
primitive_number primitive.IpAddr = 3
primitive_number primitive.Bool = 4
primitive_number primitive.Prefix = 5
primitive_number primitive.I8 = 8
primitive_number primitive.I16 = 9
primitive_number primitive.I32 = 10
primitive_number primitive.I64 = 11
primitive_number primitive.U8 = 12
primitive_number primitive.U16 = 13
primitive_number primitive.U32 = 14
primitive_number primitive.U64 = 15
primitive_number primitive.F32 = 16
primitive_number primitive.F64 = 17

-- "And Or Lt Le Gt Ge Eq Ne Add Sub Mul Div Mod Exp as op 0 to 13"; no well-formed pack has a further one, it is taken for Exp
abbrev pub op_of : ℕ → Op
op_of n = get_or (op.And ∷ op.Or ∷ op.Lt ∷ op.Le ∷ op.Gt ∷ op.Ge ∷ op.Eq ∷ op.Ne ∷ op.Add ∷ op.Sub ∷ op.Mul ∷ op.Div ∷ op.Mod ∷ op.Exp ∷ []) n op.Exp

-- "call 2 (1 Prefix new, 2 String append, 3 List concat)", else 0
abbrev pub call_number : Option Call → ℕ
call_number None = 0
call_number (Some PrefixNew) = 1
call_number (Some StringAppend) = 2
call_number (Some ListConcat) = 3
