-- The sizes after the search say which of the listed values is a constant in a component of two or more.
-- Assumes nothing.
use Prim.Native.Nat.{ℕ, ◌+◌, ◌<◌}
use mathlib.Core.Path.{◌≡◌, ap, ◌∙◌}
use mathlib.Core.Bool.{Bool, true, false, not, ◌&&◌}
use mathlib.Core.List.{List}
use native.Mathlib.Omega.{arith}
use lib.Dec.{leb}
use lib.ListN.{get_or}
use Rattle.laws.proofs.First.{Left, goes, stops}
use Rattle.pack.specs.Named.{refs_of}
use Rattle.pack.specs.declared.counts.Counts.{Counts}
use Rattle.components.specs.Answers.{constant, order, is_looped}
use Rattle.tarjan.specs.Search.{Sorted}
use Rattle.tarjan.specs.Values.{capacity, kind_of, InRange}
use Rattle.tarjan.proofs.Sorts.{as_ordered, is_value}
use Rattle.tarjan.specs.declared.listing.Listing.{Listing}
use Rattle.value_cycle.specs.Order.{is_looped_in, loop_at, looped_at}
use Rattle.value_cycle.proofs.Constants.{held, passed_by}

-- from place d of the listing on, the first constant in a component of two or more is the first of the whole listing
abbrev pub Looping : List ℕ → Counts → ℕ → Type 0
Looping p c d =
    let xs : List ℕ = order (kind_of p c) (refs_of p c) c.values in
    Left (λ k. not (is_looped (kind_of p c) (refs_of p c) c.values (get_or xs k 0))) (λ k. k) c.values d c.values (loop_at p c)

-- v is the value that was read at place d
module _ {p : List ℕ} {c : Counts} {a : Listing} {d v : ℕ} (t : InRange p c) (s : Sorted p c a)
    (l : d < c.values) (e : v ≡ get_or a.values d 0) where
  pub listed_small : v < capacity
  listed_small = omega (arith, e, is_value t s d l, t.few)

  looped_is : is_looped_in p c a.sizes v ≡ is_looped (kind_of p c) (refs_of p c) c.values (get_or (order (kind_of p c) (refs_of p c) c.values) d 0)
  looped_is =
      ap (λ (k : ℕ). constant (kind_of p c) (refs_of p c) c.values v && leb 2 k) (s.size_is v listed_small)
      ∙ ap (is_looped (kind_of p c) (refs_of p c) c.values) (e ∙ as_ordered t s d l)

  -- r is what was answered of it
  module _ {r : Bool} (inv : Looping p c d) (b : r ≡ is_looped_in p c a.sizes v) where
    pub loop_found : r ≡ true → (loop_at p c < c.values) × (v ≡ looped_at p c)
    loop_found h =
        let k : d ≡ loop_at p c = stops inv l (held (b ∙ looped_is) h) in
        (omega (arith, k, l), e ∙ as_ordered t s d l ∙ ap (λ (i : ℕ). get_or (order (kind_of p c) (refs_of p c) c.values) i 0) k)

    pub loop_passes : r ≡ false → Looping p c (d + 1)
    loop_passes h = goes inv l (passed_by (b ∙ looped_is) h)
