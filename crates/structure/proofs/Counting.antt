-- A test of each place of a range, by counting those that fail.
--     counts_on, counts_end     a step of the loop, and its end
-- And run by run:
--     run_clear, run_fails      what a run of the places says of them
--     all_clear                 and that no run fails
-- Assumes nothing.
use Prim.Native.Nat.{ℕ, ◌+◌, ◌-◌, ◌<◌, ◌≤◌}
use mathlib.Core.Path.{◌≡◌, refl, sym, ap, ◌∙◌}
use mathlib.Core.Bool.{Bool, true, false, not}
use native.Mathlib.Omega.{arith}
use lib.Dec.{eqb, ltb}
use borrow.Author.Tests.{eq-eqb, ne_eqb, ltb-true, ltb-false}
use Rattle.laws.specs.First.{all}
use Rattle.laws.proofs.Choice.{by_eq, by_test, fails}
use Rattle.laws.proofs.First.{AllLeft, goes, stops, ends, all_each, all_true}

-- c places below m failed
pub record Counted (test : ℕ → Bool) (m n : ℕ) (whole : Bool) (c : ℕ) : Type 0 where
  pub few : c ≤ m
  pub none : c ≡ 0 → AllLeft test m n whole
  pub some : (c ≡ 0 → ⊥) → whole ≡ false

module _ {test : ℕ → Bool} {m n : ℕ} {whole : Bool} {c : ℕ} (k : Counted test m n whole c) where
  -- place m fails where x is 1
  pub counts_on : m < n → (x : ℕ) → x < 2 → test m ≡ eqb x 0 → Counted test (m + 1) n whole (c + x)
  counts_on h x l e = record {
    few = omega (arith, k.few, l);
    none = λ z. goes (k.none (omega (arith, z))) h (e ∙ eq-eqb x 0 (omega (arith, z)));
    some = λ z. by_eq c 0 (λ q. sym (stops (k.none q) h (e ∙ ne_eqb x 0 (λ y. z (omega (arith, q, y)))))) (λ o. k.some o);
  }

  pub counts_end : n ≤ m → not (eqb c 0) ≡ not whole
  counts_end h = by_eq c 0 (λ q. ap not (eq-eqb c 0 q ∙ ends (k.none q) h)) (λ o. ap not (ne_eqb c 0 o ∙ sym (k.some o)))

not_false : (b : Bool) → not b ≡ false → b ≡ true
not_false true e = refl
not_false false e = absurd (fails e)

not_true : (b : Bool) → not b ≡ true → b ≡ false
not_true true e = absurd (fails (sym e))
not_true false e = refl

-- the len places from b on
module _ (test run : ℕ → Bool) (b len : ℕ) (same : (m : ℕ) → run m ≡ test (b + m)) where
  pub run_clear : not (all run 0 len) ≡ false → {n next : ℕ} → ((k : ℕ) → k < b → k < n → test k ≡ true) → ((k : ℕ) → k < next → k < n → k < b + len)
      → (k : ℕ) → k < next → k < n → test k ≡ true
  run_clear e before most k h l =
      by_test (ltb k b)
      (λ t. before k (ltb-true k b t) l)
      (λ f.
      let q = ltb-false k b f in
      let m : b + (k - b) ≡ k = omega arith in
      ap test (sym m) ∙ sym (same (k - b)) ∙ all_each run len (not_false (all run 0 len) e) (k - b) (omega (arith, most k h l)))

  pub run_fails : (n : ℕ) → not (all run 0 len) ≡ true → b + len ≤ n → not (all test 0 n) ≡ true
  run_fails n e l =
      by_test (all test 0 n)
      (λ t. absurd (fails (sym (all_true run len (λ m h. same m ∙ all_each test n t (b + m) (omega arith))) ∙ not_true (all run 0 len) e)))
      (λ f. ap not f)

pub all_clear : (test : ℕ → Bool) (n : ℕ) → ((k : ℕ) → k < n → test k ≡ true) → false ≡ not (all test 0 n)
all_clear test n r = sym (ap not (all_true test n r))
