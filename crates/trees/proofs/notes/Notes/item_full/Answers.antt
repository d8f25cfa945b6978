use mathlib.Core.Path.{◌≡◌, refl, ◌∙◌}
use mathlib.Core.Bool.{Bool, true, false, ◌&&◌}
use Rattle.pack.specs.Lists.{list_len}
use Rattle.trees.proofs.HopLaws.{full_single, full_arm}
use Rattle.trees.proofs.notes.Notes.item_full.Goals as goal

-- two tests, of which the second is asked where the first holds
second : {y z : Bool} → y ≡ true → z ≡ (y && z)
second t = rw t refl

first : {y : Bool} (z : Bool) → y ≡ false → y ≡ (y && z)
first z f = rw f refl

pub returns-in-Items : goal.returns-in-Items
returns-in-Items c = unfold list_len in rw c.in-Items.is (full_single _ c.list_len.ensures.same c.is_full.ensures)

pub returns-in-Seconds : goal.returns-in-Seconds
returns-in-Seconds c = unfold list_len in rw c.in-Seconds.is (full_single _ c.list_len-in-Seconds.ensures.same c.is_full-in-Seconds.ensures)

pub returns-then-optional_full : goal.returns-then-optional_full
returns-then-optional_full c = unfold list_len in rw c.in-Arms.is (second c.if-optional_full.true ∙ full_arm _ c.list_len-in-Arms.ensures.same c.optional_full.ensures c.list_len-then-optional_full.ensures.same c.is_full-then-optional_full.ensures)

pub returns-else-optional_full : goal.returns-else-optional_full
returns-else-optional_full c = unfold list_len in rw c.in-Arms.is (first _ c.if-optional_full.false ∙ full_arm _ c.list_len-in-Arms.ensures.same c.optional_full.ensures refl refl)
