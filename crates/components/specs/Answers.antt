-- "5. Order": refusals 50, 51 and 52, or the listing.
use Rattle.std.specs.Prelude.{Bool, false, ◌&&◌, ◌||◌, List, [], ◌∷◌, ℕ, zero, suc, eqb, ltb, leb, length, get_or}
use Rattle.std.proofs.Math.Bool.{not}
use Rattle.laws.specs.declared.fault.Fault.{Fault}
use Rattle.laws.specs.declared.fault.Fault.TheVariants.{ReferencesItself, OnLongerCycle, ReachesContext}
use Rattle.laws.specs.Choice.{pick}
use Rattle.laws.specs.First.{until}
use Rattle.laws.specs.Lists.{count}
use Rattle.components.specs.DepthFirst.{reached}
use Rattle.components.specs.Tarjan.{tarjan, listing}

-- the listing, or a refusal's fault and place
pub data Answer : Type 0 where
  listed : List ℕ → Answer
  refused : Fault → ℕ → Answer

-- y stands in a list
abbrev pub has : ℕ → List ℕ → Bool
has y xs = leb 1 (count y xs)

-- one of a list passes a test
unfoldable pub any : (ℕ → Bool) → List ℕ → Bool
any test [] = false
any test (x ∷ xs) = test x || any test xs

-- x where the count is not 0, else y
abbrev pub over : ℕ → ℕ → ℕ → ℕ
over zero x y = y
over (suc k) x y = x

-- how many members the component of v has
abbrev pub size_in : List (List ℕ) → ℕ → ℕ
size_in [] v = 0
size_in (c ∷ cs) v = over (count v c) (length c) (size_in cs v)

-- the values' kinds and references, and how many values there are
module _ (kind : ℕ → ℕ) (refs : ℕ → List ℕ) (n : ℕ) where
  -- "kind 2 (0 constant, 1 function, 2 context, 3 other)"
  abbrev pub constant : ℕ → Bool
  constant v = eqb (kind v) 0

  abbrev pub context : ℕ → Bool
  context v = eqb (kind v) 2

  -- "50 at the smallest constant listing itself": that constant, or n
  abbrev pub lists_itself : ℕ → Bool
  lists_itself v = constant v && has v (refs v)

  unfoldable pub first₅₀ : ℕ
  first₅₀ = until (λ v. not (lists_itself v)) 0 n

  unfoldable pub found : List (List ℕ)
  unfolding tarjan
  found = (tarjan refs n).components

  abbrev pub order : List ℕ
  order = listing found

  -- "51: the first constant listed in the first component of two or more that has one": its place in the listing, or n
  abbrev pub is_looped : ℕ → Bool
  is_looped v = constant v && leb 2 (size_in found v)

  unfoldable pub first₅₁ : ℕ
  first₅₁ = until (λ d. not (is_looped (get_or order d 0))) 0 n

  -- "52: the smallest constant reaching a context value": that constant, or n
  abbrev pub uses_context : ℕ → Bool
  uses_context v = constant v && any context (reached refs n v)

  unfoldable pub first₅₂ : ℕ
  unfolding reached any
  first₅₂ = until (λ v. not (uses_context v)) 0 n

  unfoldable pub answer : Answer
  unfolding first₅₀ first₅₁ first₅₂
  answer =
      pick (ltb first₅₀ n) (refused ReferencesItself first₅₀)
      (pick (ltb first₅₁ n) (refused OnLongerCycle (get_or order first₅₁ 0))
      (pick (ltb first₅₂ n) (refused ReachesContext first₅₂)
      (listed order)))
