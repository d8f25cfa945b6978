-- The ways in which a rule goes on without a step: a choice, a value that is named, and a table by kind.
-- All are shut, so that a proof takes them one at a time, by the laws of proofs/Choice.antt.
use Rattle.std.specs.Prelude.{ℕ, Bool, true, false, List, get_or}

-- x where the test holds, else y
unfoldable pub pick : {A : Type 0} → Bool → A → A → A
pick true x y = x
pick false x y = y

-- what follows, of a value that it names
unfoldable pub letting : {A B : Type 0} → A → (A → B) → B
letting a k = k a

-- what the rule of a row's kind says of the row, from the rules of all kinds in their order; `other` for a kind past them
unfoldable pub by_kind : {R A : Type 0} → R → ℕ → A → List (R → A) → A
by_kind r kind other rules = get_or rules kind (λ x. other) r
