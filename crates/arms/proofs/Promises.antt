-- What the decisions on a match mean.
--     missing_few           at most all variants are missing
--     wild_covers           with an unguarded `_` none is
--     guarded_nothing       a guarded arm covers nothing
--     all_guarded           with no other arms all variants are missing
--     all_covered           where none is missing, each variant has an unguarded arm
--     arm_right             an arm without a fault names a variant
--     payload_bare          without a payload it has no fields
--     payload_right         with one it has as many slots as fields, and none holds a variable
-- Assumes nothing.
use mathlib.Core.Path.{◌≡◌, refl, ap, ◌∙◌}
use mathlib.Core.List.{List}
use mathlib.Core.Bool.{Bool, true, false, not}
use Prim.Native.Nat.{ℕ, suc, ◌+◌, ◌*◌, ◌<◌, ◌≤◌}
use native.Mathlib.Omega.{arith}
use lib.Dec.{eqb}
use borrow.Author.Tests.{not-false, eqb-true, ne_eqb}
use Rattle.laws.specs.Choice.{pick}
use Rattle.laws.proofs.Choice.{yes, no, by_test, and_both}
use Rattle.laws.proofs.Tests.{or_right}
use Rattle.pack.specs.Lists.{list_len, list_item}
use Rattle.pack.specs.declared.counts.Counts.{Counts}
use Rattle.members.specs.Lookup.{name_at, is_member, member_of}
use Rattle.members.specs.Marks.{any_marked}
use Rattle.names.proofs.Tally.{tally_few}
use Rattle.members.proofs.Counts.{none_any, found_any, any_found, tally_zero, zero_tally, tally_full}
use Rattle.std.proofs.Common.{Some, None}
use Rattle.laws.proofs.Choice.{some_none}
use Rattle.laws.specs.declared.fault.Fault.TheVariants.{NoSuchVariant, PayloadGiven, PayloadMissing, PayloadLength, HoldsVariable}
use Rattle.arms.specs.Match.{wild, payload_fault, arm_fault, covers, covered, missing_variants}

-- ---- match

module _ (p : List ℕ) (c : Counts) (list arms : ℕ) where
  pub missing_few : missing_variants p c list arms ≤ list_len p c list
  unfolding missing_variants
  missing_few = tally_few _ _

  pub wild_covers : (j : ℕ) → j < list_len p c arms → list_item p c arms (4 * j) ≡ wild → list_item p c arms (4 * j + 2) ≡ 0 → missing_variants p c list arms ≡ 0
  unfolding missing_variants covered covers
  wild_covers j l w g = zero_tally _ _ (λ k h. ap not (found_any _ _ j l (rw (g, w))))

  pub guarded_nothing : (name j : ℕ) → (list_item p c arms (4 * j + 2) ≡ 0 → ⊥) → covers p c arms name j ≡ false
  unfolding covers
  guarded_nothing name j g = rw (ne_eqb (list_item p c arms (4 * j + 2)) 0 g)

  pub all_guarded : ((j : ℕ) → j < list_len p c arms → list_item p c arms (4 * j + 2) ≡ 0 → ⊥) → missing_variants p c list arms ≡ list_len p c list
  unfolding missing_variants covered
  all_guarded g = tally_full _ _ (λ k h. ap not (none_any _ _ (λ j l. guarded_nothing _ j (g j l))))

  -- arm j has no guard, and is of `_` or of the name
  pub record Unguarded (name j : ℕ) : Type 0 where
    pub below : j < list_len p c arms
    pub free : list_item p c arms (4 * j + 2) ≡ 0
    pub meets : (list_item p c arms (4 * j) ≡ wild → ⊥) → list_item p c arms (4 * j) ≡ name

  unguarded : (name j : ℕ) → j < list_len p c arms → covers p c arms name j ≡ true → Unguarded name j
  unfolding covers
  unguarded name j l t =
      let h = and_both (eqb (list_item p c arms (4 * j + 2)) 0) _ t in
      record {
        below = l;
        free = eqb-true (list_item p c arms (4 * j + 2)) 0 h.0;
        meets = λ w. eqb-true (list_item p c arms (4 * j)) name (or_right (eqb (list_item p c arms (4 * j)) wild) _ h.1 (ne_eqb (list_item p c arms (4 * j)) wild w));
      }

  pub all_covered : missing_variants p c list arms ≡ 0 → (k : ℕ) → k < list_len p c list → (j : ℕ) × Unguarded (name_at p c list k) j
  unfolding missing_variants covered
  all_covered e k l =
      let r = any_found _ _ (not-false _ (tally_zero _ (list_len p c list) e k l)) in
      (r.0, unguarded (name_at p c list k) r.0 r.1 r.2)

-- ---- an arm

module _ (p : List ℕ) (c : Counts) (marks : List ℕ) (fields : ℕ) where
  pub payload_bare : payload_fault p c marks fields 0 ≡ None → list_len p c fields ≡ 0
  unfolding payload_fault pick
  payload_bare e = go (eqb (list_len p c fields) 0) refl e
    where
      go : (b : Bool) → eqb (list_len p c fields) 0 ≡ b → pick b None (Some PayloadMissing) ≡ None → list_len p c fields ≡ 0
      go true t q = eqb-true (list_len p c fields) 0 t
      go false t q = absurd (some_none q)

  pub payload_right : (slots : ℕ) → payload_fault p c marks fields (suc slots) ≡ None → (list_len p c slots ≡ list_len p c fields) × (any_marked p c marks fields ≡ false)
  unfolding payload_fault pick
  payload_right slots e = go (eqb (list_len p c fields) 0) (eqb (list_len p c slots) (list_len p c fields)) refl (any_marked p c marks fields) e
    where
      go : (a b : Bool) → eqb (list_len p c slots) (list_len p c fields) ≡ b → (m : Bool) → pick a (Some PayloadGiven) (pick b (pick m (Some HoldsVariable) None) (Some PayloadLength)) ≡ None → (list_len p c slots ≡ list_len p c fields) × (m ≡ false)
      go true b t m q = absurd (some_none q)
      go false true t true q = absurd (some_none q)
      go false true t false q = (eqb-true (list_len p c slots) (list_len p c fields) t, refl)
      go false false t m q = absurd (some_none q)

pub arm_right : (p : List ℕ) (c : Counts) (marks : List ℕ) (list name payload : ℕ) → arm_fault p c marks list name payload ≡ None → (name ≡ wild → ⊥)
    → (is_member p c list name ≡ true) × (payload_fault p c marks (member_of p c list name) payload ≡ None)
unfolding arm_fault
arm_right p c marks list name payload e w =
    by_test (is_member p c list name)
    (λ t. (t, yes (is_member p c list name) _ (Some NoSuchVariant) t refl ∙ q))
    (λ f. absurd (some_none (no (is_member p c list name) (payload_fault p c marks (member_of p c list name) payload) (Some NoSuchVariant) f refl ∙ q)))
  where
    q : pick (is_member p c list name) (payload_fault p c marks (member_of p c list name) payload) (Some NoSuchVariant) ≡ None
    q = no (eqb name wild) None _ (ne_eqb name wild w) refl ∙ e
