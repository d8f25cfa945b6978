-- What the plans of operators promise.
--     plan_codes     where the left side passes, the right side's code and the operator's own are the left's, bool, u8, u32 or Prefix
--     plan_refused   a refusal is 21 or 22
--     plan_call      a call is one of the four
--     string_ordered    String is refused by the four comparisons: "1.10" < "1.9" does not pass
--     integer_power, address_divided, float_remainder     the cases where the right side is not the left's, and where 22 is not 21
-- Two results that meet the contract are equal: operator_plans_one.
-- Assumes nothing.
use Prim.Native.Nat.{ℕ, zero, suc, ◌<◌, ◌≤◌}
use mathlib.Core.Path.{◌≡◌, refl, sym, ◌∙◌}
use mathlib.Core.Logic.{◌⊎◌, inl, inr}
use mathlib.Core.Bool.{Bool, true, false}
use native.Mathlib.Omega.{arith}
use Rattle.laws.specs.Choice.{pick}
use Rattle.laws.proofs.Choice.{yes, no}
use Rattle.unify.specs.Classes.{primitive_in, is_int, is_float, is_numeric}
use Rattle.operators.specs.Names.{call_number}
use Rattle.operators.specs.Operators.{Plan, string_code, ip_addr_code, bool_code, prefix_code, u8_code, u32_code, no_call, prefix_new, accepted, refused, compared, divided, remainder, power, operator_plan}
use Rattle.operators.specs.declared.plan.OperatorPlan.{OperatorPlan}
use Rattle.std.proofs.Common.{Ok, Err}
use Rattle.laws.specs.declared.fault.Fault.TheVariants.{NotNumeric, NotInteger}
use Rattle.operators.proofs.Plans.{plan_all}

-- what is said of a plan; a refusal says nothing of these
abbrev pub Planned : (OperatorPlan → Type 0) → Plan → Type 0
Planned P (Ok p) = P p
Planned P (Err f) = Unit {0}

-- a refusal is 21 or 22
abbrev pub Refused : Plan → Type 0
Refused (Ok p) = Unit {0}
Refused (Err f) = (f ≡ NotNumeric) ⊎ (f ≡ NotInteger)

module _ (op own left : ℕ) (list : Bool) where
  abbrev plan : Plan
  plan = operator_plan op own left list

  pub plan_codes : (P : ℕ → Type 0) → P own → P bool_code → P u8_code → P u32_code → P prefix_code → Planned (λ p. P p.right × P p.result) plan
  plan_codes P o b u8 u32 x =
      plan_all (Planned (λ p. P p.right × P p.result)) own
      (record {
        truths = (b, b);
        test = (o, b);
        same = (o, o);
        append = (o, o);
        concat = (o, o);
        prefix = (u8, x);
        raise = (u32, o);
        no_number = tt;
        no_integer = tt;
      })
      left op list

  pub plan_refused : Refused plan
  plan_refused =
      plan_all Refused own
      (record {
        truths = tt;
        test = tt;
        same = tt;
        append = tt;
        concat = tt;
        prefix = tt;
        raise = tt;
        no_number = inl refl;
        no_integer = inr refl;
      })
      left op list

  pub plan_call : Planned (λ p. call_number p.call < 4) plan
  plan_call =
      plan_all (Planned (λ p. call_number p.call < 4)) own
      (record {
        truths = omega arith;
        test = omega arith;
        same = omega arith;
        append = omega arith;
        concat = omega arith;
        prefix = omega arith;
        raise = omega arith;
        no_number = tt;
        no_integer = tt;
      })
      left op list

  pub operator_plans_one : (p q : Plan) → p ≡ plan → q ≡ plan → p ≡ q
  operator_plans_one p q e f = e ∙ sym f

-- "String Lt String → 21", and so Le, Gt, Ge, whatever else
pub string_ordered : (op own : ℕ) (list : Bool) → 2 ≤ op → op ≤ 5 → operator_plan op own string_code list ≡ refused NotNumeric
unfolding operator_plan compared is_numeric is_int is_float primitive_in pick
string_ordered zero own list l h = absurd (omega arith)
string_ordered (suc zero) own list l h = absurd (omega arith)
string_ordered (suc (suc zero)) own list l h = refl
string_ordered (suc (suc (suc zero))) own list l h = refl
string_ordered (suc (suc (suc (suc zero)))) own list l h = refl
string_ordered (suc (suc (suc (suc (suc zero))))) own list l h = refl
string_ordered (suc (suc (suc (suc (suc (suc op)))))) own list l h = absurd (omega arith)

module _ (own left : ℕ) (list : Bool) where
  -- "Exp: integer left wants u32 right"
  pub integer_power : is_int left ≡ true → accepted u32_code own no_call ≡ operator_plan 13 own left list
  unfolding operator_plan power
  integer_power t = yes _ _ _ t refl

  -- "Mod integer": a float is refused by 22 there, and by no other operator
  pub float_remainder : is_int left ≡ false → refused NotInteger ≡ operator_plan 12 own left list
  unfolding operator_plan remainder
  float_remainder f = no _ _ _ f refl

  -- "Div: left; if IpAddr, right u8, result Prefix."
  pub address_divided : accepted u8_code prefix_code prefix_new ≡ operator_plan 11 own ip_addr_code list
  unfolding operator_plan divided
  address_divided = yes _ _ _ refl refl
