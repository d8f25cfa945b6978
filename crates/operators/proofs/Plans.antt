-- An operator's plan is one of nine, whatever the operator and its left side: what holds of those holds of it (plan_all).
-- Assumes nothing.
use Prim.Native.Nat.{ℕ}
use mathlib.Core.Bool.{Bool}
use lib.Dec.{eqb}
use Rattle.laws.proofs.Choice.{pick_all}
use Rattle.unify.specs.Classes.{is_int, is_numeric}
use Rattle.operators.specs.Operators.{Plan, string_code, ip_addr_code, bool_code, prefix_code, u8_code, u32_code, no_call, prefix_new, string_append, list_concat, accepted, refused, logical, compared, number, added, divided, remainder, power, plan_of, operator_plan}
use Rattle.operators.specs.Names.{op_of}
use Rattle.operators.specs.declared.names.Op.{Op}
use Rattle.operators.specs.declared.names.Op.TheVariants as op
use Rattle.laws.specs.declared.fault.Fault.TheVariants.{NotNumeric, NotInteger}

module _ (Q : Plan → Type 0) (own : ℕ) where
  pub record Nine : Type 0 where
    pub truths : Q logical
    pub test : Q (accepted own bool_code no_call)
    pub same : Q (accepted own own no_call)
    pub append : Q (accepted own own string_append)
    pub concat : Q (accepted own own list_concat)
    pub prefix : Q (accepted u8_code prefix_code prefix_new)
    pub raise : Q (accepted u32_code own no_call)
    pub no_number : Q (refused NotNumeric)
    pub no_integer : Q (refused NotInteger)

  module _ (n : Nine) (left : ℕ) where
    compared_all : Q (compared left own)
    unfolding compared
    compared_all = pick_all Q (is_numeric left) n.test n.no_number

    number_all : Q (number left own)
    unfolding number
    number_all = pick_all Q (is_numeric left) n.same n.no_number

    added_all : (list : Bool) → Q (added left list own)
    unfolding added
    added_all list = pick_all Q (eqb left string_code) n.append (pick_all Q list n.concat number_all)

    divided_all : Q (divided left own)
    unfolding divided
    divided_all = pick_all Q (eqb left ip_addr_code) n.prefix number_all

    remainder_all : Q (remainder left own)
    unfolding remainder
    remainder_all = pick_all Q (is_int left) n.same n.no_integer

    power_all : Q (power left own)
    unfolding power
    power_all = pick_all Q (is_int left) n.raise number_all

    named_all : (op : Op) (list : Bool) → Q (plan_of op own left list)
    named_all op.And list = n.truths
    named_all op.Or list = n.truths
    named_all op.Lt list = compared_all
    named_all op.Le list = compared_all
    named_all op.Gt list = compared_all
    named_all op.Ge list = compared_all
    named_all op.Eq list = n.test
    named_all op.Ne list = n.test
    named_all op.Add list = added_all list
    named_all op.Sub list = number_all
    named_all op.Mul list = number_all
    named_all op.Div list = divided_all
    named_all op.Mod list = remainder_all
    named_all op.Exp list = power_all

    pub plan_all : (op : ℕ) (list : Bool) → Q (operator_plan op own left list)
    unfolding operator_plan
    plan_all op list = named_all (op_of op) list
