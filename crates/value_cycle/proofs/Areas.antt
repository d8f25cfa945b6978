-- The steps of the loop that writes the listing into the area.
-- Assumes nothing.
use Prim.Native.Nat.{ℕ, suc, ◌+◌, ◌*◌, ◌/◌, ◌%◌, ◌≤◌, ◌<◌}
use mathlib.Core.Path.{◌≡◌, refl, sym, ap, ◌∙◌}
use mathlib.Core.List.{List, [], ◌∷◌, ◌++◌, append_assoc}
use native.Mathlib.Numerals.{add-one}
use native.Mathlib.Omega.{arith}
use lib.ListN.{length, take, drop, get_or, set, length-append}
use lib.Seq.{take-suc, drop-cons, set_at, length-take-le}
use Rattle.value_cycle.specs.Area.{bytes_of, written, Writes}

pub bytes_length : (xs : List ℕ) → length (bytes_of xs) ≡ 2 * length xs
unfolding bytes_of
bytes_length [] = refl
bytes_length (x ∷ xs) = omega (arith, bytes_length xs)

bytes_snoc : (xs : List ℕ) (x : ℕ) → bytes_of (xs ++ (x ∷ [])) ≡ bytes_of xs ++ (x / 256 ∷ x % 256 ∷ [])
unfolding bytes_of
bytes_snoc [] x = refl
bytes_snoc (y ∷ xs) x = ap (λ (l : List ℕ). y / 256 ∷ y % 256 ∷ l) (bytes_snoc xs x)

-- two stores at a seam
set_two : (front : List ℕ) (a b : ℕ) (rest : List ℕ) (m x y : ℕ) → length front ≡ m → set (set (front ++ a ∷ b ∷ rest) m x) (m + 1) y ≡ (front ++ (x ∷ y ∷ [])) ++ rest
set_two front a b rest m x y e =
    ap (λ (l : List ℕ). set l (m + 1) y) (set_at front a (b ∷ rest) x m e ∙ sym (append_assoc front (x ∷ []) (b ∷ rest)))
    ∙ set_at (front ++ (x ∷ [])) b rest y (m + 1) (omega (arith, length-append front (x ∷ [])))
    ∙ append_assoc front (x ∷ []) (y ∷ rest)
    ∙ sym (append_assoc front (x ∷ y ∷ []) rest)

-- the first k of the listing are written
pub record Writing (listed : List ℕ) (n : ℕ) (before area : List ℕ) (k : ℕ) : Type 0 where
  pub asks : Writes listed n before
  pub hi : k ≤ n
  pub so_far : area ≡ bytes_of (take k listed) ++ drop (2 * k) before

pub write_start : {listed : List ℕ} {n : ℕ} {before : List ℕ} → Writes listed n before → Writing listed n before before 0
unfolding bytes_of
write_start q = record { asks = q; hi = omega arith; so_far = refl }

module _ {listed : List ℕ} {n : ℕ} {before area : List ℕ} {k : ℕ} (v : Writing listed n before area k) where
  front_length : length (bytes_of (take k listed)) ≡ 2 * k
  front_length = bytes_length (take k listed) ∙ ap (λ (m : ℕ). 2 * m) (length-take-le k listed (omega (arith, v.hi, v.asks.few, v.asks.len_listed)))

  rest_is : k < n → drop (2 * k) before ≡ get_or before (2 * k) 0 ∷ get_or before (2 * k + 1) 0 ∷ drop (2 * (k + 1)) before
  rest_is l =
      let e : suc (suc (2 * k)) ≡ 2 * (k + 1) = omega arith in
      let f : suc (2 * k) ≡ 2 * k + 1 = omega arith in
      drop-cons before (2 * k) 0 (omega (arith, v.asks.long))
      ∙ ap (λ (l : List ℕ). get_or before (2 * k) 0 ∷ l) (drop-cons before (suc (2 * k)) 0 (omega (arith, v.asks.long)) ∙ ap (λ (j : ℕ). get_or before j 0 ∷ drop (suc (suc (2 * k))) before) f ∙ ap (λ (j : ℕ). get_or before (2 * k + 1) 0 ∷ drop j before) e)

  pub write_turn : {x : ℕ} → k < n → x ≡ get_or listed k 0 → Writing listed n before (set (set area (2 * k) (x / 256)) (2 * k + 1) (x % 256)) (k + 1)
  write_turn {x} l e = record {
    asks = v.asks;
    hi = omega arith;
    so_far = ap (λ (a : List ℕ). set (set a (2 * k) (x / 256)) (2 * k + 1) (x % 256)) (v.so_far ∙ ap (λ (r : List ℕ). bytes_of (take k listed) ++ r) (rest_is l))
        ∙ set_two (bytes_of (take k listed)) (get_or before (2 * k) 0) (get_or before (2 * k + 1) 0) (drop (2 * (k + 1)) before) (2 * k) (x / 256) (x % 256) front_length
        ∙ ap (λ (b : List ℕ). b ++ drop (2 * (k + 1)) before) (sym (bytes_snoc (take k listed) x) ∙ ap bytes_of more);
  }
    where
      more : take k listed ++ (x ∷ []) ≡ take (k + 1) listed
      more = ap (λ (y : ℕ). take k listed ++ (y ∷ [])) e ∙ rw add-one (sym (take-suc listed k 0 (omega (arith, v.asks.few, v.asks.len_listed))))

  pub write_end : n ≤ k → area ≡ written (take n listed) before
  unfolding written
  write_end l =
      let e : k ≡ n = omega (arith, v.hi) in
      v.so_far ∙ ap (λ (j : ℕ). bytes_of (take j listed) ++ drop (2 * j) before) e ∙ ap (λ (j : ℕ). bytes_of (take n listed) ++ drop (2 * j) before) (sym (length-take-le n listed (omega (arith, v.asks.few, v.asks.len_listed))))
