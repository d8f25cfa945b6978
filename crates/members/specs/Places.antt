-- Tests of the places of a list: that one passes (how many do is `tally` of `names`); and what is stored as x+1, or 0 for none.
use Rattle.std.specs.Prelude.{ℕ, zero, suc, Bool, true, false, not}
use Rattle.laws.specs.First.{first}

-- the test holds at one of the places below n
unfoldable pub any : (ℕ → Bool) → ℕ → Bool
any test n = first (λ k. not (test k)) (λ k. true) false 0 n

-- of what is stored as x+1 what is said of x, of 0 what is said of none
abbrev pub perhaps : {A : Type 0} → A → (ℕ → A) → ℕ → A
perhaps none some zero = none
perhaps none some (suc x) = some x
