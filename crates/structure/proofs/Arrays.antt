-- Arrays of the table, filled from the first place on.
-- Assumes nothing.
use mathlib.Core.Path.{◌≡◌, sym, ◌∙◌}
use mathlib.Core.List.{List}
use Prim.Native.Nat.{ℕ, ◌+◌, ◌<◌, ◌≤◌}
use native.Mathlib.Omega.{arith}
use lib.ListN.{length, get_or, set, length-set, replicate, length-replicate, get_or-replicate, get_or-eq_default}
use lib.Seq.{get_or-set_same, get_or-set_other}
use Rattle.laws.specs.Bounded.{get}
use Rattle.laws.proofs.Bounded.{get_in, get_out, put_in, get_same}
use Rattle.laws.proofs.Choice.{by_eq, by_test}
use Rattle.structure.specs.Structure.{rows}
use Rattle.structure.specs.Table.{Clear}
use lib.Dec.{ltb}
use borrow.Author.Tests.{ltb-true, ltb-false}

-- n zeros
pub zeros_at : (n k : ℕ) → get_or (replicate {A = ℕ} n 0) k 0 ≡ 0
zeros_at n k =
    by_test (ltb k n)
    (λ t. get_or-replicate {A = ℕ} n k 0 0 (ltb-true k n t))
    (λ f. get_or-eq_default (replicate {A = ℕ} n 0) 0 (omega (arith, length-replicate {A = ℕ} n 0, ltb-false k n f)))

pub clear : Clear (replicate rows 0)
clear = record { size = length-replicate {A = ℕ} rows 0; zero = zeros_at rows }

-- what stands at each place below i
pub record Filled (f : ℕ → ℕ) (xs : List ℕ) (i : ℕ) : Type 0 where
  pub size : length xs ≡ rows
  pub at : (k : ℕ) → k < i → get_or xs k 0 ≡ f k

pub filled_none : (f : ℕ → ℕ) {xs : List ℕ} → Clear xs → Filled f xs 0
filled_none f z = record { size = z.size; at = λ k h. absurd (omega arith) }

pub filled_more : {f : ℕ → ℕ} {xs : List ℕ} {i x : ℕ} → Filled f xs i → i < rows → x ≡ f i → Filled f (set xs i x) (i + 1)
filled_more {xs = xs} {i = i} {x = x} z h e = record {
  size = length-set xs i x ∙ z.size;
  at = λ k l. by_eq k i (λ q. rw (q, get_or-set_same xs i x 0 (omega (arith, z.size))) e) (λ q. get_or-set_other xs i k x 0 q ∙ z.at k (omega arith));
}

pub filled_entry : {f : ℕ → ℕ} {xs : List ℕ} {i : ℕ} → Filled f xs i → i ≤ rows → (k : ℕ) → k < i → get rows xs k ≡ f k
filled_entry {xs = xs} z h k l = sym (get_in rows xs k (omega arith)) ∙ z.at k l

-- and nothing from i on
pub record Empty (xs : List ℕ) (i : ℕ) : Type 0 where
  pub from : (k : ℕ) → i ≤ k → get_or xs k 0 ≡ 0

pub empty_more : {xs : List ℕ} {i : ℕ} (x : ℕ) → Empty xs i → Empty (set xs i x) (i + 1)
empty_more {xs = xs} {i = i} x z = record { from = λ k h. get_or-set_other xs i k x 0 (λ e. omega arith) ∙ z.from k (omega arith) }

-- ---- what is read after a store

pub zeros_get : (n k : ℕ) → get n (replicate n 0) k ≡ 0
zeros_get n k =
    by_test (ltb k n)
    (λ t. sym (get_in n (replicate n 0) k (ltb-true k n t)) ∙ zeros_at n k)
    (λ f. sym (get_out n (replicate n 0) k (ltb-false k n f)))

pub set_here : (n : ℕ) (xs : List ℕ) (i x : ℕ) → length xs ≡ n → i < n → get n (set xs i x) i ≡ x
set_here n xs i x e h = rw (put_in n xs i x h) (get_same n xs i x e h)

pub set_there : (n : ℕ) (xs : List ℕ) (i x k : ℕ) → (k ≡ i → ⊥) → get n (set xs i x) k ≡ get n xs k
set_there n xs i x k d =
    by_test (ltb k n)
    (λ t. sym (get_in n (set xs i x) k (ltb-true k n t)) ∙ get_or-set_other xs i k x 0 d ∙ get_in n xs k (ltb-true k n t))
    (λ f. sym (get_out n (set xs i x) k (ltb-false k n f)) ∙ get_out n xs k (ltb-false k n f))
