-- An answer handed to the host: the numbers of its case, and the area as it was left.
-- Assumes nothing.
use Prim.Native.Nat.{ℕ}
use mathlib.Core.Path.{◌≡◌, ap, ◌∙◌}
use mathlib.Core.List.{List}
use Rattle.value_cycle.specs.Order.{Order, Outcome, outcome}
use Rattle.entries.specs.Answers.{Told, result, answer_told}
use Rattle.entries.specs.Root.{Checked, checked, root_result}
use Rattle.entries.specs.Order.{order_result}
use Rattle.expr.specs.Root.{Checked as Answer}

pub order_handed : {t : Told} {a : Order} {area : List ℕ} {out : Outcome} → t ≡ answer_told a → outcome a area ≡ out → result t area ≡ order_result out
order_handed {area = area} e f = ap (λ (t : Told). result t area) e ∙ ap order_result f

pub root_handed : {t : Told} {a : Answer} {area : List ℕ} {out : Checked} → t ≡ answer_told a → checked a area ≡ out → result t area ≡ root_result out
root_handed {area = area} e f = ap (λ (t : Told). result t area) e ∙ ap root_result f

-- what `check_root` ensures, as one
pub root_both : {a b : Answer} {before after : List ℕ} → (a ≡ b) × (after ≡ before) → checked a after ≡ checked b before
root_both {b = b} {after = after} e = ap (λ (x : Answer). checked x after) e.0 ∙ ap (checked b) e.1
