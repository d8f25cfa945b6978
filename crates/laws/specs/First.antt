-- The first place of a range that is not right. Each "first" and each "all" of document 01 is one of these.
use Rattle.std.specs.Prelude.{ℕ, zero, suc, ◌-◌, Bool, true, false}
use Rattle.laws.specs.Choice.{pick}

-- of the n places from i on (the `let` keeps a computation from going past the first fault)
unfoldable pub walk : {A : Type 0} → (ℕ → Bool) → (ℕ → A) → A → ℕ → ℕ → A
walk ok fault none i zero = none
walk ok fault none i (suc n) = let rest = walk ok fault none (suc i) n in pick (ok i) rest (fault i)

-- what `fault` says of the first place of i .. n - 1 where `ok` fails; `none` where it fails at none
unfoldable pub first : {A : Type 0} → (ℕ → Bool) → (ℕ → A) → A → ℕ → ℕ → A
first ok fault none i n = walk ok fault none i (n - i)

-- `ok` holds at each place of i .. n - 1
abbrev pub all : (ℕ → Bool) → ℕ → ℕ → Bool
all ok i n = first ok (λ k. false) true i n

-- the first place from i on where `ok` fails, n where there is none
abbrev pub until : (ℕ → Bool) → ℕ → ℕ → ℕ
until ok i n = first ok (λ k. k) n i n
