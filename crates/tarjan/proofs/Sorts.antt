-- The arrays after the search say what the definitions say.
-- Assumes nothing.
use Prim.Native.Nat.{ℕ, ◌<◌}
use mathlib.Core.Path.{◌≡◌, refl, sym, ap, ◌∙◌}
use mathlib.Core.List.{List}
use native.Mathlib.Omega.{arith}
use lib.ListN.{length, get_or, replicate, length-replicate, get_or-replicate, get_or-eq_default}
use lib.Seq.{get_or-take}
use Rattle.laws.proofs.Members.{by_le}
use Rattle.pack.specs.Named.{refs_of}
use Rattle.pack.specs.declared.counts.Counts.{Counts}
use Rattle.components.specs.Answers.{order}
use Rattle.components.proofs.Answers.{at_value}
use Rattle.tarjan.specs.Search.{Blank, Sorted}
use Rattle.tarjan.specs.declared.listing.Listing.{Listing}
use Rattle.tarjan.specs.declared.stack.Stack.{Stack}
use Rattle.tarjan.specs.Values.{capacity, kind_of, InRange}

zeros : (y : ℕ) → get_or (replicate {A = ℕ} capacity 0) y 0 ≡ 0
zeros y = by_le capacity y (λ h. get_or-eq_default (replicate {A = ℕ} capacity 0) 0 {n = y} (omega (arith, length-replicate {A = ℕ} capacity 0))) (λ h. get_or-replicate {A = ℕ} capacity y 0 0 h)

-- before the search
pub blank : {stack : Stack} {listing : Listing} → stack.values ≡ replicate capacity 0 → stack.top ≡ capacity → listing.values ≡ replicate capacity 0 → listing.length ≡ 0 → listing.sizes ≡ replicate capacity 0
    → Blank (record { index = replicate capacity 0; discovered = 0; stack = stack; listing = listing })
blank v t l n s = record {
  len_index = length-replicate {A = ℕ} capacity 0;
  len_stack = ap length v ∙ length-replicate {A = ℕ} capacity 0;
  len_listed = ap length l ∙ length-replicate {A = ℕ} capacity 0;
  len_sizes = ap length s ∙ length-replicate {A = ℕ} capacity 0;
  discovered_is = refl;
  top_is = t;
  length_is = n;
  no_index = zeros;
  no_size = λ y. ap (λ (xs : List ℕ). get_or xs y 0) s ∙ zeros y;
}

module _ {p : List ℕ} {c : Counts} {a : Listing} (t : InRange p c) (s : Sorted p c a) where
  pub as_ordered : (d : ℕ) → d < c.values → get_or a.values d 0 ≡ get_or (order (kind_of p c) (refs_of p c) c.values) d 0
  as_ordered d l = sym (get_or-take c.values a.values d 0 l) ∙ ap (λ (xs : List ℕ). get_or xs d 0) s.listed_is

  pub is_value : (d : ℕ) → d < c.values → get_or a.values d 0 < c.values
  is_value d l = omega (arith, as_ordered d l, at_value (kind_of p c) (refs_of p c) c.values t.fits d l)
