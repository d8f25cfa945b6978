-- "Two results meeting one contract are proved equal": for each entry, the number, the place, the detail and every byte of the area.
-- Assumes nothing.
use Prim.Native.Nat.{ℕ}
use mathlib.Core.Path.{◌≡◌, sym, ◌∙◌}
use mathlib.Core.List.{List}
use Rattle.entries.specs.Answers.{Told, Result}
use Rattle.entries.specs.Types.{types_of}
use Rattle.entries.specs.Root.{root_of}
use Rattle.entries.specs.Order.{order_of}

pub types_one : (p : List ℕ) (a b : Told) → a ≡ types_of p → b ≡ types_of p → a ≡ b
types_one p a b s t = s ∙ sym t

pub root_one : (p : List ℕ) (root : ℕ) (area : List ℕ) (a b : Result) → a ≡ root_of p root area → b ≡ root_of p root area → a ≡ b
root_one p root area a b s t = s ∙ sym t

pub order_one : (p area : List ℕ) (a b : Result) → a ≡ order_of p area → b ≡ order_of p area → a ≡ b
order_one p area a b s t = s ∙ sym t
