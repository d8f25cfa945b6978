-- What module 1 promises besides each function's contract.
--     agree          find and find_ref give the same
--     finds_keep     find changes what no variable resolves to, and leaves the cells loop-free
--     set_keeps      what resolved to the same thing still does after an unset variable is set
--     set_parts      (of a variable that is set already this does not hold: an example)
--     trail_bound    (of Chains) a chain has at most as many cells as there are
-- That the empty state and each one after fresh and set is loop-free stands in their contracts.
-- Two results that meet one contract are equal: empties_one, finds_one, find_refs_one, sets_one, makes_one.
-- Assumes nothing.
use mathlib.Core.Path.{◌≡◌, refl, sym, ◌∙◌}
use mathlib.Core.List.{List, [], ◌∷◌}
use Prim.Native.Nat.{ℕ, ◌<◌, ◌≤◌}
use lib.ListN.{set}
use Rattle.laws.specs.Choice.{pick}
use Rattle.unionfind.specs.Codes.{is_var}
use Rattle.unionfind.specs.Cells.{capacity, is_link, trail_in, trail, found, LoopFree, Kept}
use Rattle.unionfind.specs.Answers.{Answer, Made, Empties, Finds, set_answer, Sets, Makes}
use Rattle.unionfind.specs.declared.codes.Kind.{Kind}
use Rattle.std.proofs.Common.{Ok}
use Rattle.unionfind.proofs.Stores.{IsUnset, sets_keep}
use Rattle.unionfind.proofs.States.{done_loopfree}

pub agree : {xs : List ℕ} {v r s : ℕ} {ys : List ℕ} → Finds xs v r ys → s ≡ found xs v → r ≡ s
agree f e = f.answer ∙ sym e

pub finds_keep : {xs : List ℕ} {v r : ℕ} {ys : List ℕ} → Finds xs v r ys → Kept xs ys
finds_keep f = f.kept

pub set_keeps : {xs : List ℕ} → LoopFree xs → (n v x : ℕ) → n ≤ capacity → set_answer n xs v x ≡ Ok _ → IsUnset xs v → (u w : ℕ) → u < capacity → w < capacity
    → found xs u ≡ found xs w → found (set xs v x) u ≡ found (set xs v x) w
set_keeps s n v x m e z u w h k = sets_keep s v x (done_loopfree s n v x m e) z u w h k

-- ---- one result

pub empties_one : {m n : ℕ} {xs ys : List ℕ} → Empties m xs → Empties n ys → (m ≡ n) × (xs ≡ ys)
empties_one e f = (e.none ∙ sym f.none, e.cells ∙ sym f.cells)

pub finds_one : {xs : List ℕ} {v r s : ℕ} {ys zs : List ℕ} → Finds xs v r ys → Finds xs v s zs → (r ≡ s) × (ys ≡ zs)
finds_one f g = (f.answer ∙ sym g.answer, f.cells ∙ sym g.cells)

pub find_refs_one : (xs : List ℕ) (v r s : ℕ) → r ≡ found xs v → s ≡ found xs v → r ≡ s
find_refs_one xs v r s e f = e ∙ sym f

pub sets_one : {n : ℕ} {xs : List ℕ} {v x : ℕ} {r s : Answer} {ys zs : List ℕ} → Sets n xs v x r ys → Sets n xs v x s zs → (r ≡ s) × (ys ≡ zs)
sets_one f g = (f.answer ∙ sym g.answer, f.cells ∙ sym g.cells)

pub makes_one : {n : ℕ} {xs : List ℕ} {kind : Kind} {r s : Made} {ys zs : List ℕ} → Makes n xs kind r ys → Makes n xs kind s zs → (r ≡ s) × (ys ≡ zs)
makes_one f g = (f.answer ∙ sym g.answer, f.cells ∙ sym g.cells)

-- ---- examples

-- variables 0 and 1, any both: 0 links to 1, and 1 is unset
two : List ℕ
two = 65537 ∷ 65537 ∷ []

-- 0 and 1 resolve to the same, and no longer after 0, which is set, is set to i32
set_parts : (found two 0 ≡ found two 1) × (set_answer 2 two 0 32778 ≡ Ok _) × (found (set two 0 32778) 0 ≡ 32778) × (found (set two 0 32778) 1 ≡ 65537)
unfolding two found trail trail_in is_link is_var set_answer pick
set_parts = (refl, refl, refl, refl)
