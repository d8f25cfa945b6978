-- The operators of module 4 once their left side is checked: which refusal is given at the left node, what the right side is checked
-- against, what the operator's own type is, and the call that its word records.
use Rattle.std.specs.Prelude.{ℕ, Bool, eqb, Option, Some, None, Result, Ok, Err}
use Rattle.laws.specs.Choice.{pick}
use Rattle.laws.specs.declared.fault.Fault.{Fault}
use Rattle.laws.specs.declared.fault.Fault.TheVariants.{NotNumeric, NotInteger}
use Rattle.unionfind.specs.Codes.{code, primitive_tag}
use Rattle.unify.specs.Classes.{is_int, is_numeric}
use Rattle.operators.specs.Names.{op_of}
use Rattle.operators.specs.declared.names.Call.{Call}
use Rattle.operators.specs.declared.names.Call.TheVariants.{PrefixNew, StringAppend, ListConcat}
use Rattle.operators.specs.declared.names.Op.{Op}
use Rattle.operators.specs.declared.names.Op.TheVariants as op
use Rattle.operators.specs.declared.plan.OperatorPlan.{OperatorPlan}

-- ---- names

-- the code of a primitive by its number
abbrev pub primitive_code : ℕ → ℕ
primitive_code k = code primitive_tag k

abbrev pub string_code : ℕ
string_code = primitive_code 0

abbrev pub ip_addr_code : ℕ
ip_addr_code = primitive_code 3

abbrev pub bool_code : ℕ
bool_code = primitive_code 4

abbrev pub prefix_code : ℕ
prefix_code = primitive_code 5

abbrev pub u8_code : ℕ
u8_code = primitive_code 12

abbrev pub u32_code : ℕ
u32_code = primitive_code 14

abbrev pub no_call : Option Call
no_call = None

abbrev pub prefix_new : Option Call
prefix_new = Some PrefixNew

abbrev pub string_append : Option Call
string_append = Some StringAppend

abbrev pub list_concat : Option Call
list_concat = Some ListConcat

-- ---- plans, or "21 / 22: left operand not numeric / not integer", at the left node

abbrev pub Plan : Type 0
Plan = Result OperatorPlan Fault

abbrev pub accepted : ℕ → ℕ → Option Call → Plan
accepted right result call = Ok (record { right = right; result = result; call = call })

abbrev pub refused : Fault → Plan
refused fault = Err fault

-- ---- the rules: `own` is what the left side was checked against, `left` what that stands for

-- "right (bool for And, Or; ..)"
abbrev pub logical : Plan
logical = accepted bool_code bool_code no_call

-- "the fresh type otherwise, numeric for the four comparisons, tested before the right"
unfoldable pub compared : ℕ → ℕ → Plan
compared left own = pick (is_numeric left) (accepted own bool_code no_call) (refused NotNumeric)

-- Eq and Ne take any two of one type
abbrev pub equated : ℕ → Plan
equated own = accepted own bool_code no_call

-- "Otherwise Add Sub Mul Div numeric, .. right the same."
unfoldable pub number : ℕ → ℕ → Plan
number left own = pick (is_numeric left) (accepted own own no_call) (refused NotNumeric)

-- "Add: left; if String or a list definition, right the same type."
unfoldable pub added : ℕ → Bool → ℕ → Plan
added left list own = pick (eqb left string_code) (accepted own own string_append) (pick list (accepted own own list_concat) (number left own))

-- "Div: left; if IpAddr, right u8, result Prefix."
unfoldable pub divided : ℕ → ℕ → Plan
divided left own = pick (eqb left ip_addr_code) (accepted u8_code prefix_code prefix_new) (number left own)

-- "Mod integer, right the same."
unfoldable pub remainder : ℕ → ℕ → Plan
remainder left own = pick (is_int left) (accepted own own no_call) (refused NotInteger)

-- "Exp: integer left wants u32 right, other numeric the same."
unfoldable pub power : ℕ → ℕ → Plan
power left own = pick (is_int left) (accepted u32_code own no_call) (number left own)

-- by the operator
abbrev pub plan_of : Op → ℕ → ℕ → Bool → Plan
plan_of op.And own left list = logical
plan_of op.Or own left list = logical
plan_of op.Lt own left list = compared left own
plan_of op.Le own left list = compared left own
plan_of op.Gt own left list = compared left own
plan_of op.Ge own left list = compared left own
plan_of op.Eq own left list = equated own
plan_of op.Ne own left list = equated own
plan_of op.Add own left list = added left list own
plan_of op.Sub own left list = number left own
plan_of op.Mul own left list = number left own
plan_of op.Div own left list = divided left own
plan_of op.Mod own left list = remainder left own
plan_of op.Exp own left list = power left own

-- and by its number
unfoldable pub operator_plan : ℕ → ℕ → ℕ → Bool → Plan
operator_plan op own left list = plan_of (op_of op) own left list
