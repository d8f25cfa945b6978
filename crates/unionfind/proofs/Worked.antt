-- Module 1 at a few inputs, under one statement. Variables are any-variables: their tag is 4, so variable k unset is 65536 + k.
-- i32 is 32778. Assumes nothing.
use mathlib.Core.Path.{◌≡◌, refl}
use mathlib.Core.List.{List, [], ◌∷◌}
use Prim.Native.Nat.{ℕ}
use Rattle.laws.specs.Choice.{pick}
use Rattle.unionfind.specs.Codes.{is_var}
use Rattle.unionfind.specs.Cells.{is_link, trail_in, trail, found, compressed}
use Rattle.unionfind.specs.Answers.{full, unknown, closes, set_answer, fresh_answer}
use Rattle.unionfind.specs.declared.codes.Kind.TheVariants.{IntVar, FloatVar}
use Rattle.std.proofs.Common.{Ok}

-- 0 links to 1, 1 to 2, 2 is unset; 3 is set to i32
cells : List ℕ
cells = 65537 ∷ 65538 ∷ 65538 ∷ 32778 ∷ []

worked :
    (found cells 0 ≡ 65538)
    × (compressed cells 0 ≡ 65538 ∷ 65538 ∷ 65538 ∷ 32778 ∷ [])
    × (set_answer 4 cells 4 32778 ≡ unknown 4)
    × (set_answer 4 cells 4 65541 ≡ unknown 4)
    × (set_answer 4 cells 2 65541 ≡ unknown 5)
    × (set_answer 4 cells 2 65536 ≡ closes 2)
    × (set_answer 4 cells 2 65538 ≡ Ok _)
    × (set_answer 4 cells 2 65539 ≡ Ok _)
    × (fresh_answer 2047 IntVar ≡ Ok 83967)
    × (fresh_answer 2048 FloatVar ≡ full)
unfolding cells found trail trail_in compressed is_link is_var set_answer fresh_answer pick
worked = (refl, refl, refl, refl, refl, refl, refl, refl, refl, refl)
