-- The four ways in which ordering ends, by what the parts of the code ensure.
-- Assumes nothing.
use Prim.Native.Nat.{ℕ, ◌≤◌, ◌<◌}
use mathlib.Core.Path.{◌≡◌, ap, ◌∙◌}
use mathlib.Core.List.{List}
use native.Mathlib.Omega.{arith}
use lib.ListN.{take}
use Rattle.pack.specs.Named.{refs_of}
use Rattle.pack.specs.declared.counts.Counts.{Counts}
use Rattle.components.specs.Answers.{Answer}
use Rattle.components.proofs.Cases.{is₅₀, is₅₁, is₅₂, is_listed}
use Rattle.tarjan.specs.Search.{Sorted}
use Rattle.tarjan.specs.declared.listing.Listing.{Listing}
use Rattle.tarjan.specs.Values.{kind_of}
use Rattle.tarjan.proofs.Sorts.{is_value}
use Rattle.value_cycle.specs.Area.{written, Writes, Orders}
use Rattle.value_cycle.specs.Order.{Order, all_listed as listed_all, outcome, refusal, answered, order_of, self_at, loop_at, looped_at, context_at}
use Rattle.laws.specs.declared.fault.Fault.TheVariants.{ReferencesItself, OnLongerCycle, ReachesContext}
use Rattle.laws.specs.declared.fault.Fault.{Fault}

-- a place at which a search ended, named as the code has it
at_place : (p : List ℕ) (c : Counts) (area : List ℕ) (fault : Fault) {r : Order} {v w : ℕ} → v ≡ w → r ≡ refusal fault v → outcome r area ≡ outcome (refusal fault w) area
at_place p c area fault e q = ap (λ (x : Order). outcome x area) (q ∙ ap (refusal fault) e)

module _ {p : List ℕ} {c : Counts} {area : List ℕ} (o : Orders p c area) where
  pub refused₅₀ : {r : Order} {v : ℕ} → (self_at p c < c.values) × (v ≡ self_at p c) → r ≡ refusal ReferencesItself v → outcome r area ≡ order_of p c area
  unfolding order_of answered
  refused₅₀ f q = at_place p c area ReferencesItself f.1 q ∙ ap (λ (x : Answer). answered x area) (is₅₀ (kind_of p c) (refs_of p c) c.values f.0)

  module _ (ha : c.values ≤ self_at p c) where
    pub refused₅₁ : {r : Order} {v : ℕ} → (loop_at p c < c.values) × (v ≡ looped_at p c) → r ≡ refusal OnLongerCycle v → outcome r area ≡ order_of p c area
    unfolding order_of answered
    refused₅₁ f q = at_place p c area OnLongerCycle f.1 q ∙ ap (λ (x : Answer). answered x area) (is₅₁ (kind_of p c) (refs_of p c) c.values ha f.0)

    module _ (hb : c.values ≤ loop_at p c) where
      pub refused₅₂ : {r : Order} {v : ℕ} → (context_at p c < c.values) × (v ≡ context_at p c) → r ≡ refusal ReachesContext v → outcome r area ≡ order_of p c area
      unfolding order_of answered
      refused₅₂ f q = at_place p c area ReachesContext f.1 q ∙ ap (λ (x : Answer). answered x area) (is₅₂ (kind_of p c) (refs_of p c) c.values ha hb f.0)

      pub all_listed : {a : Listing} {after : List ℕ} → c.values ≤ context_at p c → Sorted p c a → after ≡ written (take c.values a.values) area → outcome listed_all after ≡ order_of p c area
      unfolding order_of answered
      all_listed l s w =
          ap (outcome listed_all) (w ∙ ap (λ (xs : List ℕ). written xs area) s.listed_is)
          ∙ ap (λ (x : Answer). answered x area) (is_listed (kind_of p c) (refs_of p c) c.values ha hb l)

-- what writing asks for
pub writes : {p : List ℕ} {c : Counts} {area : List ℕ} {a : Listing} → Orders p c area → Sorted p c a → Writes a.values c.values area
writes o s = record { len_listed = s.len_listed; few = o.in_range.few; long = o.long; under = λ k l. omega (arith, is_value o.in_range s k l, o.in_range.few) }
