-- Answers one after the other: "order" in document 01 means that an earlier refusal stands.
use Rattle.std.specs.Prelude.{Bool}
use Rattle.laws.specs.Choice.{pick}

-- the answer itself where it does not pass; where it passes, what follows
unfoldable pub after : {A : Type 0} → (A → Bool) → A → A → A
after passes a next = pick (passes a) next a
