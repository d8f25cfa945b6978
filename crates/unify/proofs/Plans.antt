-- A plan by cases: what a plan says of the two sides.
-- Assumes nothing.
use mathlib.Core.Path.{◌≡◌, refl}
use mathlib.Core.List.{List}
use mathlib.Core.Bool.{Bool, true, false, ◌&&◌, ◌||◌}
use Prim.Native.Nat.{ℕ}
use lib.Dec.{eqb}
use borrow.Author.Tests.{eqb-true}
use Rattle.laws.specs.Choice.{pick}
use Rattle.laws.proofs.Choice.{and_both}
use Rattle.unionfind.specs.Codes.{tag, number, is_var, any_tag, int_tag, float_tag}
use Rattle.structure.specs.Types.{holds_var}
use Rattle.unify.specs.Classes.{is_int, is_float, takes}
use Rattle.unify.specs.Unify.{number_plan, any_plan, plan_of}
use Rattle.unify.specs.declared.plan.Plan.{Plan}
use Rattle.unify.specs.declared.plan.Plan.TheVariants.{Same, Clash, Store}

-- done where the sides are the same; a store is into the cell of a side that is a variable, of the other side
pub data Planned (a b : ℕ) : Plan → Type 0 where
  same : a ≡ b → Planned a b Same
  clash : Planned a b Clash
  rightwards : is_var a ≡ true → Planned a b (Store (number a) b)
  leftwards : is_var b ≡ true → Planned a b (Store (number b) a)

any_var : (x : ℕ) → eqb (tag x) any_tag ≡ true → is_var x ≡ true
unfolding is_var
any_var x e = rw e

int_var : (x : ℕ) → eqb (tag x) int_tag ≡ true → is_var x ≡ true
unfolding is_var
int_var x e = let t : tag x ≡ int_tag = eqb-true (tag x) int_tag e in rw t

float_var : (x : ℕ) → eqb (tag x) float_tag ≡ true → is_var x ≡ true
unfolding is_var
float_var x e = let t : tag x ≡ float_tag = eqb-true (tag x) float_tag e in rw t

-- what may be let to a number is a variable
pub takes_var : (a b : ℕ) → takes a b ≡ true → is_var a ≡ true
unfolding takes
takes_var a b p = go (eqb (tag a) int_tag && is_int b) refl p
  where
    go : (q : Bool) → (eqb (tag a) int_tag && is_int b) ≡ q → (q || (eqb (tag a) float_tag && is_float b)) ≡ true → is_var a ≡ true
    go true e p = int_var a (and_both (eqb (tag a) int_tag) (is_int b) e).0
    go false e p = float_var a (and_both (eqb (tag a) float_tag) (is_float b) p).0

pub planned : (marks : List ℕ) (a b : ℕ) → Planned a b (plan_of marks a b)
unfolding plan_of any_plan number_plan pick
planned marks a b = go (eqb a b) refl (holds_var marks a || holds_var marks b) (eqb (tag a) any_tag) refl (eqb (tag b) any_tag) refl (takes a b) refl (takes b a) refl
  where
    go : (p : Bool) → eqb a b ≡ p → (q : Bool) → (s : Bool) → eqb (tag a) any_tag ≡ s → (t : Bool) → eqb (tag b) any_tag ≡ t → (u : Bool) → takes a b ≡ u → (v : Bool) → takes b a ≡ v
        → Planned a b (pick p Same (pick q Clash (pick s (Store (number a) b) (pick t (Store (number b) a) (pick u (Store (number a) b) (pick v (Store (number b) a) Clash))))))
    go true i q s e t f u g v h = same (eqb-true a b i)
    go false i true s e t f u g v h = clash
    go false i false true e t f u g v h = rightwards (any_var a e)
    go false i false false e true f u g v h = leftwards (any_var b f)
    go false i false false e false f true g v h = rightwards (takes_var a b g)
    go false i false false e false f false g true h = leftwards (takes_var b a h)
    go false i false false e false f false g false h = clash
