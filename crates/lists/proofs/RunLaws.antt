-- The table of runs: its loop from the last word down, and what it tells of a list of ids.
--     Filled      its invariant: every entry from k on is right, and so is the last one found
--     last        at the start only the entry past the last word
--     more        one entry more
--     end_most    the last one found is no place past the last word
--     by_runs     a list of ids is in range exactly if it ends where its run does, or before
-- Assumes nothing.
use Prim.Native.Nat.{ℕ, ◌+◌, ◌<◌, ◌≤◌}
use mathlib.Core.Path.{◌≡◌, sym, ap, ◌∙◌}
use mathlib.Core.Bool.{false}
use mathlib.Core.List.{List}
use native.Mathlib.Omega.{arith}
use lib.Dec.{leb, ltb}
use lib.ListN.{length, get_or, set, length-set}
use lib.Seq.{get_or-set_same, get_or-set_other}
use borrow.Author.Tests.{lt-leb, leb-true, leb-false}
use Rattle.laws.specs.Choice.{pick}
use Rattle.laws.proofs.Choice.{by_eq, by_test}
use Rattle.laws.proofs.First.{first_at, first_past, Until, until_is, all_until}
use Rattle.pack.specs.Lists.{list_word, list_len, list_item}
use Rattle.pack.specs.declared.counts.Counts.{Counts}
use Rattle.lists.specs.Runs.{run_end}
use Rattle.lists.specs.Lists.{list_fits, ids_fit}

pub record Filled (p : List ℕ) (c : Counts) (limit k end : ℕ) (ends : List ℕ) : Type 0 where
  pub long : length ends ≡ 8185
  pub low : k ≤ c.words
  pub now_at : end ≡ run_end p c limit k
  pub right : (j : ℕ) → k ≤ j → j ≤ c.words → get_or ends j 0 ≡ run_end p c limit j

module _ (p : List ℕ) (c : Counts) (limit : ℕ) (few : c.words ≤ 8184) where
  pub last : (ends : List ℕ) → length ends ≡ 8185 → Filled p c limit c.words c.words (set ends c.words c.words)
  last ends long =
      record {
        long = length-set ends c.words c.words ∙ long;
        low = omega arith;
        now_at = sym (first_past (λ k. ltb (list_word p c k) limit) (λ k. k) c.words c.words c.words (omega arith));
        right =
            λ j a b.
            let e : j ≡ c.words = omega arith in
            rw e (get_or-set_same ends c.words c.words 0 (omega arith) ∙ sym (first_past (λ k. ltb (list_word p c k) limit) (λ k. k) c.words c.words c.words (omega arith)));
      }

  pub more : {k₀ end : ℕ} {ends : List ℕ} → Filled p c limit k₀ end ends → (k x : ℕ) → k + 1 ≡ k₀ → x ≡ pick (ltb (list_word p c k) limit) end k → Filled p c limit k x (set ends k x)
  more {k₀} {end} {ends} f k x w e =
      record {
        long = length-set ends k x ∙ f.long;
        low = omega (arith, f.low);
        now_at = here;
        right = λ j a b. by_eq j k (λ q. rw q (get_or-set_same ends k x 0 (omega (arith, f.long, f.low)) ∙ here)) (λ q. get_or-set_other ends k j x 0 q ∙ f.right j (omega arith) b);
      }
    where
      here : x ≡ run_end p c limit k
      here =
          e
          ∙ ap (λ (u : ℕ). pick (ltb (list_word p c k) limit) u k) (f.now_at ∙ ap (run_end p c limit) (sym w))
          ∙ sym (first_at (λ k. ltb (list_word p c k) limit) (λ k. k) c.words k c.words (omega (arith, f.low)))

pub end_most : {p : List ℕ} {c : Counts} {limit k end : ℕ} {ends : List ℕ} → Filled p c limit k end ends → end ≤ c.words
end_most {p} {c} {limit} {k} f = omega (arith, f.now_at, u.high)
  where
    u : Until (λ k. ltb (list_word p c k) limit) k c.words (run_end p c limit k)
    u = until_is (λ k. ltb (list_word p c k) limit) k c.words f.low

-- a list of ids that starts inside the list words
pub by_runs : (p : List ℕ) (c : Counts) (limit s : ℕ) → s < c.words → leb (s + 1 + list_len p c s) (run_end p c limit (s + 1)) ≡ ids_fit p c limit s
unfolding ids_fit list_fits list_item
by_runs p c limit s l =
    by_test (leb (s + 1 + list_len p c s) c.words)
    (λ t. rw t (sym (all_until (λ k. ltb (list_word p c k) limit) (s + 1) (list_len p c s) c.words (leb-true _ _ t))))
    (λ f. rw f (lt-leb (s + 1 + list_len p c s) (run_end p c limit (s + 1)) (omega (arith, leb-false (s + 1 + list_len p c s) c.words f, u.high))))
  where
    u : Until (λ k. ltb (list_word p c k) limit) (s + 1) c.words (run_end p c limit (s + 1))
    u = until_is (λ k. ltb (list_word p c k) limit) (s + 1) c.words (omega arith)

pub past_runs : (p : List ℕ) (c : Counts) (limit s : ℕ) → c.words ≤ s → false ≡ ids_fit p c limit s
unfolding ids_fit list_fits
past_runs p c limit s l = rw (lt-leb (s + 1 + list_len p c s) c.words (omega arith))
