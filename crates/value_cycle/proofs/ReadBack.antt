-- What an order wrote into the area: its numbers are read back, and every byte after them is as before.
-- Assumes nothing.
use Prim.Native.Nat.{ℕ, suc, ◌+◌, ◌*◌, ◌/◌, ◌%◌, ◌-◌, ◌≤◌}
use mathlib.Core.Path.{◌≡◌, refl, sym, ap, ◌∙◌}
use mathlib.Core.List.{List, [], ◌∷◌, ◌++◌, append_assoc}
use native.Mathlib.Nat.{div-add-mod'}
use native.Mathlib.Omega.{arith}
use lib.ListN.{length, drop, get_or, length-append, length-drop}
use lib.Seq.{get_or_at, get_or-append-add, get_or-drop}
use Rattle.laws.specs.Lists.{gather}
use Rattle.pack.specs.Read.{byte_at, word_at}
use Rattle.value_cycle.specs.Area.{bytes_of, written, read_back}
use Rattle.value_cycle.proofs.Areas.{bytes_length}

-- the word at a seam
word_at_seam : (front rest : List ℕ) (a b i : ℕ) (area : List ℕ) → length front ≡ i → area ≡ front ++ a ∷ b ∷ rest → word_at area i ≡ a * 256 + b
unfolding word_at byte_at
word_at_seam front rest a b i area e q =
    let h : get_or area i 0 ≡ a = ap (λ (l : List ℕ). get_or l i 0) q ∙ get_or_at front a (b ∷ rest) 0 i e in
    let l : get_or area (i + 1) 0 ≡ b = ap (λ (l : List ℕ). get_or l (i + 1) 0) (q ∙ sym (append_assoc front (a ∷ []) (b ∷ rest))) ∙ get_or_at (front ++ (a ∷ [])) b rest 0 (i + 1) (omega (arith, length-append front (a ∷ []))) in
    omega (arith, h, l)

read_from : (xs front rest : List ℕ) (i : ℕ) (area : List ℕ) → length front ≡ 2 * i → area ≡ front ++ (bytes_of xs ++ rest) → gather (λ k. word_at area (2 * k) ∷ []) i (length xs) ≡ xs
unfolding gather bytes_of
read_from [] front rest i area e q = refl
read_from (x ∷ xs) front rest i area e q =
    ap (λ (y : ℕ). y ∷ gather (λ k. word_at area (2 * k) ∷ []) (suc i) (length xs)) (word_at_seam front (bytes_of xs ++ rest) (x / 256) (x % 256) (2 * i) area e q ∙ div-add-mod' x 256)
    ∙ ap (λ (l : List ℕ). x ∷ l) (read_from xs (front ++ (x / 256 ∷ x % 256 ∷ [])) rest (suc i) area (omega (arith, length-append front (x / 256 ∷ x % 256 ∷ []))) (q ∙ sym (append_assoc front (x / 256 ∷ x % 256 ∷ []) (bytes_of xs ++ rest))))

pub read_written : (xs area : List ℕ) → read_back (written xs area) (length xs) ≡ xs
unfolding read_back written
read_written xs area = read_from xs [] (drop (2 * length xs) area) 0 (bytes_of xs ++ drop (2 * length xs) area) (omega arith) refl

pub written_rest : (xs area : List ℕ) (i : ℕ) → 2 * length xs ≤ i → get_or (written xs area) i 0 ≡ get_or area i 0
unfolding written
written_rest xs area i h =
    let e : i ≡ length (bytes_of xs) + (i - 2 * length xs) = omega (arith, bytes_length xs) in
    let f : 2 * length xs + (i - 2 * length xs) ≡ i = omega arith in
    ap (λ (j : ℕ). get_or (bytes_of xs ++ drop (2 * length xs) area) j 0) e
    ∙ get_or-append-add (bytes_of xs) (drop (2 * length xs) area) (i - 2 * length xs) 0
    ∙ get_or-drop (2 * length xs) area (i - 2 * length xs) 0
    ∙ ap (λ (j : ℕ). get_or area j 0) f

pub written_length : (xs area : List ℕ) → 2 * length xs ≤ length area → length (written xs area) ≡ length area
unfolding written
written_length xs area h = length-append (bytes_of xs) (drop (2 * length xs) area) ∙ omega (arith, bytes_length xs, length-drop (2 * length xs) area)
