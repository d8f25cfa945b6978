-- Each case of module 2 at a pair of sides, under one statement. Codes: any-variable k is 65536 + k, integer variable k 81920 + k, float
-- variable k 98304 + k; primitive k is 32768 + k (i32 10, f64 17, bool 4); row k is 49152 + k; definition k 114688 + k; unit 16384.
-- Row 5 holds a variable. Assumes nothing.
use mathlib.Core.Path.{◌≡◌, refl}
use mathlib.Core.List.{List, [], ◌∷◌}
use Prim.Native.Nat.{ℕ}
use Rattle.laws.specs.Choice.{pick}
use Rattle.laws.specs.Bounded.{get}
use Rattle.structure.specs.Types.{holds_var}
use Rattle.unify.specs.Classes.{primitive_in, is_int, is_float, takes}
use Rattle.unify.specs.Unify.{number_plan, any_plan, plan_of}
use Rattle.unify.specs.declared.plan.Plan.TheVariants.{Same, Clash, Store}

marks : List ℕ
marks = 0 ∷ 0 ∷ 0 ∷ 0 ∷ 0 ∷ 1 ∷ 0 ∷ []

worked :
    (plan_of marks 49157 49157 ≡ Same)
    × (plan_of marks 65536 49157 ≡ Clash)
    × (plan_of marks 49157 65536 ≡ Clash)
    × (plan_of marks 65536 65537 ≡ Store 0 65537)
    × (plan_of marks 65536 81921 ≡ Store 0 81921)
    × (plan_of marks 81921 65536 ≡ Store 0 81921)
    × (plan_of marks 32772 65536 ≡ Store 0 32772)
    × (plan_of marks 65536 49156 ≡ Store 0 49156)
    × (plan_of marks 81920 81921 ≡ Store 0 81921)
    × (plan_of marks 98304 98305 ≡ Store 0 98305)
    × (plan_of marks 81920 98305 ≡ Clash)
    × (plan_of marks 81920 32778 ≡ Store 0 32778)
    × (plan_of marks 32778 81920 ≡ Store 0 32778)
    × (plan_of marks 81920 32785 ≡ Clash)
    × (plan_of marks 98304 32785 ≡ Store 0 32785)
    × (plan_of marks 32785 98304 ≡ Store 0 32785)
    × (plan_of marks 98304 32778 ≡ Clash)
    × (plan_of marks 32778 32779 ≡ Clash)
    × (plan_of marks 49156 49158 ≡ Clash)
    × (plan_of marks 0 16384 ≡ Clash)
    × (plan_of marks 114689 114689 ≡ Same)
unfolding marks plan_of any_plan number_plan takes is_int is_float primitive_in holds_var get pick
worked = (refl, refl, refl, refl, refl, refl, refl, refl, refl, refl, refl, refl, refl, refl, refl, refl, refl, refl, refl, refl, refl)
