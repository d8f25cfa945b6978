-- The types that a match, a record and a field use are not marked, where no fault was found.
--     chosen, named         what holds of both sides of a choice, and of a value that is named
--     arm_unmarked          the fields of an arm's variant, as many as its slots
--     record_unmarked       the field that a written one names
--     accessed_unmarked     an accessed field
-- Assumes nothing.
use mathlib.Core.Path.{◌≡◌, refl}
use mathlib.Core.List.{List}
use mathlib.Core.Bool.{Bool, true, false}
use Prim.Native.Nat.{ℕ, suc, ◌<◌}
use lib.Dec.{eqb}
use borrow.Author.Tests.{eqb-false}
use Rattle.laws.specs.Choice.{pick, letting}
use Rattle.pack.specs.Lists.{list_len, list_item}
use Rattle.pack.specs.Rows.{definition_row}
use Rattle.pack.specs.declared.counts.Counts.{Counts}
use Rattle.members.specs.Lookup.{name_at, member_of}
use Rattle.members.specs.Marks.{is_marked, any_marked, any_field_marked}
use Rattle.members.specs.Field.{accessed_by}
use Rattle.members.proofs.Counts.{any_none}
use Rattle.members.proofs.Promises.{member_below, Unmarked, field_unmarked}
use Rattle.std.proofs.Common.{Ok, None}
use Rattle.arms.specs.Match.{wild, arm_fault}
use Rattle.arms.proofs.Promises.{payload_right, arm_right}
use Rattle.records.specs.Record.{record_fault}
use Rattle.records.proofs.Promises.{only_members, record_right}

-- ---- choices

-- what holds of both sides of a choice holds of it
pub chosen : {A : Type 0} (P : A → Type 0) (b : Bool) {x y : A} → (b ≡ true → P x) → (b ≡ false → P y) → P (pick b x y)
unfolding pick
chosen P true f g = f refl
chosen P false f g = g refl

-- and so of a value that is named
pub named : {A B : Type 0} (P : B → Type 0) (a : A) (k : A → B) → P (k a) → P (letting a k)
unfolding letting
named P a k h = h

module _ (p : List ℕ) (c : Counts) (marks : List ℕ) where
  -- ---- match

  -- as many slots as fields, and no field marked
  pub record Payload (slots fields : ℕ) : Type 0 where
    pub long : list_len p c slots ≡ list_len p c fields
    pub unmarked : (k : ℕ) → k < list_len p c fields → is_marked marks (list_item p c fields k) ≡ false

  pub arm_unmarked : (list name slots : ℕ) → arm_fault p c marks list name (suc slots) ≡ None → eqb name wild ≡ false → Payload slots (member_of p c list name)
  unfolding any_marked
  arm_unmarked list name slots e f =
      let q = payload_right p c marks (member_of p c list name) slots (arm_right p c marks list name (suc slots) e (eqb-false name wild f)).1 in
      record { long = q.0; unmarked = any_none _ _ q.1 }

  -- ---- record

  pub record_unmarked : (d fields : ℕ) → record_fault p c marks d fields ≡ None
      → (j : ℕ) → j < list_len p c fields → is_marked marks (member_of p c (definition_row p c d).list (name_at p c fields j)) ≡ false
  unfolding any_field_marked member_of
  record_unmarked d fields e j h =
      let r = record_right p c marks d fields e in
      any_none _ _ r.unmarked _ (member_below p c (definition_row p c d).list (name_at p c fields j) (only_members p c (definition_row p c d).list fields r.valid j h))

  -- ---- field

  pub accessed_unmarked : (x name t : ℕ) → accessed_by p c marks x name ≡ Ok t → is_marked marks t ≡ false
  accessed_unmarked x name t e = let k : Unmarked marks (Ok t) = rw e at (field_unmarked p c marks name x) in k
