-- Refusal 14: a name repeated, or references that do not rise.
use Rattle.std.specs.Prelude.{ℕ, ◌+◌, ◌*◌, ◌-◌, ◌<◌, ◌≡◌, List, Bool, true, not, eqb, ltb}
use Rattle.laws.specs.First.{all}
use Rattle.pack.specs.Lists.{list_len, list_item}
use Rattle.pack.specs.declared.counts.Counts.{Counts}
use Rattle.lists.specs.Limits.{names}
use Rattle.lists.specs.Lists.{list_fits}

-- the name of pair k
abbrev pub name_at : List ℕ → Counts → ℕ → ℕ → ℕ
name_at p c s k = list_item p c s (2 * k)

-- x is none of the first k names
abbrev pub fresh : (ℕ → ℕ) → ℕ → ℕ → Bool
fresh name k x = all (λ j. not (eqb (name j) x)) 0 k

-- "a name repeated": each name is none of those before it
unfoldable pub names_differ : List ℕ → Counts → ℕ → Bool
names_differ p c s = all (λ k. fresh (name_at p c s) k (name_at p c s k)) 0 (list_len p c s)

-- "a value's references not strictly rising": each item is below the next
unfoldable pub items_rise : List ℕ → Counts → ℕ → Bool
items_rise p c s = all (λ k. ltb (list_item p c s k) (list_item p c s (k + 1))) 0 (list_len p c s - 1)

-- a list of pairs with names: 14 is asked of those only, since 11 comes first
pub record Named (p : List ℕ) (c : Counts) (s : ℕ) : Type 0 where
  pub inside : list_fits c s (2 * list_len p c s) ≡ true
  pub names_below : (k : ℕ) → k < list_len p c s → name_at p c s k < names
