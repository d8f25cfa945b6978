-- What the decisions on a record mean.
--     only_members, all_named, never_again    what each count of 31 says where it is 0
--     named_once                              where all three are 0, each member is named exactly once, and nothing else is
--     record_right                            a record without a fault
-- Assumes nothing.
use mathlib.Core.Path.{◌≡◌, refl}
use mathlib.Core.List.{List}
use mathlib.Core.Bool.{Bool, true, false, ◌&&◌}
use Prim.Native.Nat.{ℕ, ◌<◌, ◌≤◌}
use native.Mathlib.Omega.{arith}
use lib.Dec.{eqb, ltb}
use borrow.Author.Tests.{not-false, eqb-true, ltb-false, le-ltb}
use Rattle.laws.specs.Choice.{pick}
use Rattle.laws.proofs.Choice.{and_both, fails}
use Rattle.laws.proofs.Members.{by_le}
use Rattle.pack.specs.Lists.{list_len, pair_of}
use Rattle.pack.specs.Rows.{definition_row}
use Rattle.pack.specs.declared.counts.Counts.{Counts}
use Rattle.members.specs.Lookup.{name_at, is_member}
use Rattle.members.specs.Marks.{any_field_marked}
use Rattle.members.proofs.Counts.{tally_zero, zero_tally}
use Rattle.members.proofs.Promises.{member_below, member_named, member_first}
use Rattle.std.proofs.Common.{Option, Some, None, ap}
use Rattle.laws.specs.declared.fault.Fault.TheVariants.{WrongFields, HoldsVariable, NotPlain}
use Rattle.records.specs.declared.answer.RecordFault.{RecordFault}
use Rattle.records.specs.Record.{fault, strangers, invalid_fields, named_before, duplicate_fields, missing_fields, none_wrong, wrong_fields, counted_fault, fields_fault, is_plain_record, record_fault}

module _ (p : List ℕ) (c : Counts) (list fields : ℕ) where
  pub only_members : invalid_fields p c list fields ≡ 0 → (j : ℕ) → j < list_len p c fields → is_member p c list (name_at p c fields j) ≡ true
  unfolding invalid_fields strangers
  only_members e j l = not-false _ (tally_zero _ (list_len p c fields) e j l)

  pub never_again : invalid_fields p c list fields ≡ 0 → duplicate_fields p c list fields ≡ 0 → (j : ℕ) → j < list_len p c fields → j ≤ pair_of p c fields (name_at p c fields j)
  unfolding duplicate_fields named_before
  never_again v e j l = ltb-false (pair_of p c fields (name_at p c fields j)) j (rw (only_members v j l) at (tally_zero _ (list_len p c fields) e j l))

  pub all_named : missing_fields p c list fields ≡ 0 → (k : ℕ) → k < list_len p c list → is_member p c fields (name_at p c list k) ≡ true
  unfolding missing_fields strangers
  all_named e k l = not-false _ (tally_zero _ (list_len p c list) e k l)

  -- field j, and no other, has the name
  pub record Once (name j : ℕ) : Type 0 where
    pub below : j < list_len p c fields
    pub names : name_at p c fields j ≡ name
    pub alone : (i : ℕ) → i < list_len p c fields → name_at p c fields i ≡ name → i ≡ j

  pub named_once : invalid_fields p c list fields ≡ 0 → duplicate_fields p c list fields ≡ 0 → missing_fields p c list fields ≡ 0
      → (k : ℕ) → k < list_len p c list → Once (name_at p c list k) (pair_of p c fields (name_at p c list k))
  named_once v d m k l =
      record {
        below = member_below p c fields (name_at p c list k) (all_named m k l);
        names = member_named p c fields (name_at p c list k) (all_named m k l);
        alone =
            λ i h e.
            let low : i ≤ pair_of p c fields (name_at p c list k) = rw e at (never_again v d i h) in
            by_le (pair_of p c fields (name_at p c list k)) i
            (λ u. omega arith)
            (λ u. absurd (member_first p c fields (name_at p c list k) i u e));
      }

  -- and the other way round
  pub none_again : ((j : ℕ) → j < list_len p c fields → j ≤ pair_of p c fields (name_at p c fields j)) → duplicate_fields p c list fields ≡ 0
  unfolding duplicate_fields named_before
  none_again r = zero_tally _ _ (λ j l. go (is_member p c list (name_at p c fields j)) j (r j l))
    where
      go : (b : Bool) (j : ℕ) → j ≤ pair_of p c fields (name_at p c fields j) → (b && ltb (pair_of p c fields (name_at p c fields j)) j) ≡ false
      go true j h = le-ltb (pair_of p c fields (name_at p c fields j)) j h
      go false j h = refl

-- a record without a fault
pub record Right (p : List ℕ) (c : Counts) (marks : List ℕ) (d fields : ℕ) : Type 0 where
  pub plain : is_plain_record (definition_row p c d) ≡ true
  pub valid : invalid_fields p c (definition_row p c d).list fields ≡ 0
  pub single : duplicate_fields p c (definition_row p c d).list fields ≡ 0
  pub whole : missing_fields p c (definition_row p c d).list fields ≡ 0
  pub unmarked : any_field_marked p c marks (definition_row p c d).list ≡ false

none_wrong_lem : (i d m : ℕ) → none_wrong i d m ≡ true → (i ≡ 0) × (d ≡ 0) × (m ≡ 0)
none_wrong_lem i d m t =
    let h = and_both (eqb i 0 && eqb d 0) (eqb m 0) t in
    let g = and_both (eqb i 0) (eqb d 0) h.0 in
    (eqb-true i 0 g.0, eqb-true d 0 g.1, eqb-true m 0 h.1)

fault_none : {f : RecordFault} → Some f ≡ None → ⊥
fault_none e = fails (ap is_some e)
  where
    is_some : Option RecordFault → Bool
    is_some (Some f) = true
    is_some None = false

pub record_right : (p : List ℕ) (c : Counts) (marks : List ℕ) (d fields : ℕ) → record_fault p c marks d fields ≡ None → Right p c marks d fields
unfolding record_fault fields_fault counted_fault pick
record_right p c marks d fields e = go (is_plain_record (definition_row p c d)) refl (none_wrong i u m) refl (any_field_marked p c marks list) refl e
  where
    list : ℕ
    list = (definition_row p c d).list

    i : ℕ
    i = invalid_fields p c list fields

    u : ℕ
    u = duplicate_fields p c list fields

    m : ℕ
    m = missing_fields p c list fields

    go : (a : Bool) → is_plain_record (definition_row p c d) ≡ a → (b : Bool) → none_wrong i u m ≡ b → (k : Bool) → any_field_marked p c marks list ≡ k
        → pick a (pick b (pick k (fault HoldsVariable 0) None) (fault WrongFields (wrong_fields i u m))) (fault NotPlain 0) ≡ None → Right p c marks d fields
    go true x true y false z q = let h = none_wrong_lem i u m y in record { plain = x; valid = h.0; single = h.1; whole = h.2; unmarked = z }
    go true x true y true z q = absurd (fault_none q)
    go true x false y k z q = absurd (fault_none q)
    go false x b y k z q = absurd (fault_none q)
