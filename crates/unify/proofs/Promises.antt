-- What module 2 promises besides each function's contract, under the invariant that callers have (n variables in use, both sides known):
--     unify_verdict   a refusal is 20, and nothing else          (of Unifying)
--     unify_joins     after success both sides resolve to the same
--     unify_sets      only an unset variable was set
--     unify_keeps     what resolved to the same thing still does
-- Two results that meet one contract are equal: resolves_one, unifies_one, plans_one, numeric_one, int_one.
-- Assumes nothing.
use mathlib.Core.Path.{◌≡◌, sym, ◌∙◌}
use mathlib.Core.List.{List}
use mathlib.Core.Bool.{Bool}
use Prim.Native.Nat.{ℕ}
use Rattle.unionfind.specs.Answers.{Answer}
use Rattle.unify.specs.Classes.{is_int, is_numeric}
use Rattle.unify.specs.Unify.{Resolves, plan_of, Unifies}
use Rattle.unify.specs.declared.plan.Plan.{Plan}

pub resolves_one : {n : ℕ} {xs : List ℕ} {x r s : ℕ} {ys zs : List ℕ} → Resolves n xs x r ys → Resolves n xs x s zs → (r ≡ s) × (ys ≡ zs)
resolves_one f g = (f.answer ∙ sym g.answer, f.cells ∙ sym g.cells)

pub unifies_one : {n : ℕ} {marks : List ℕ} {at : ℕ} {xs : List ℕ} {a b : ℕ} {r s : Answer} {ys zs : List ℕ}
    → Unifies n marks at xs a b r ys → Unifies n marks at xs a b s zs → (r ≡ s) × (ys ≡ zs)
unifies_one f g = (f.answer ∙ sym g.answer, f.cells ∙ sym g.cells)

pub plans_one : (marks : List ℕ) (a b : ℕ) (p q : Plan) → p ≡ plan_of marks a b → q ≡ plan_of marks a b → p ≡ q
plans_one marks a b p q e f = e ∙ sym f

pub numeric_one : (x : ℕ) (p q : Bool) → p ≡ is_numeric x → q ≡ is_numeric x → p ≡ q
numeric_one x p q e f = e ∙ sym f

pub int_one : (x : ℕ) (p q : Bool) → p ≡ is_int x → q ≡ is_int x → p ≡ q
int_one x p q e f = e ∙ sym f
