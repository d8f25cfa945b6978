-- An input that is longer than any pack. The program keeps its first 65,537 bytes, and those are refused as the whole input is: with 2, 3 or 4.
-- Assumes nothing.
use Prim.Native.Nat.{ℕ, ◌+◌, ◌≤◌, ◌<◌}
use mathlib.Core.Path.{◌≡◌, refl, sym, ap, ◌∙◌}
use mathlib.Core.Bool.{true, false}
use mathlib.Core.List.{List}
use native.Mathlib.Omega.{arith}
use lib.Dec.{eqb}
use lib.ListN.{length, take}
use lib.Seq.{get_or-take, length-take-le}
use borrow.Author.Tests.{le-leb, ne_eqb}
use Rattle.std.proofs.Common.{Ok}
use Rattle.laws.proofs.Choice.{no, by_test}
use Rattle.laws.proofs.Answers.{stands}
use Rattle.laws.proofs.Tests.{all_same}
use Rattle.laws.specs.Faults.{passes}
use Rattle.laws.specs.declared.fault.Fault.TheVariants.{TooShort, WrongStart, OverLimit, WrongLength}
use Rattle.pack.specs.Answer.{Reading, refuse, needs}
use Rattle.pack.specs.Counts.{in_limits, size_of}
use Rattle.pack.specs.Header.{rpk, counts_of, header_of}
use Rattle.pack.specs.Read.{byte_at, word_at, starts_with}
use Rattle.pack.specs.declared.counts.Counts.{Counts}
use Rattle.pack.proofs.HeaderLaws.{header_passed}
use Rattle.pack.proofs.CountLaws.{limited}
use Rattle.formed.specs.Formed.{formed_of}
use Rattle.entries.specs.Types.{types_answer}

-- as many bytes as the program keeps
abbrev kept : ℕ
kept = 65537

-- no pack within its limits is as long
short : (k : Counts) → in_limits k ≡ true → size_of k < kept
short k e =
    let l = limited k e in
    omega (arith, l.types, l.definitions, l.expressions, l.roots, l.values, l.words)

-- so its length is never exact
last_tests : (k : Counts) (n m : ℕ) → kept ≤ n → kept ≤ m
    → needs (in_limits k) OverLimit (needs (eqb n (size_of k)) WrongLength (Ok k)) ≡ needs (in_limits k) OverLimit (needs (eqb m (size_of k)) WrongLength (Ok k))
unfolding needs
last_tests k n m a b =
    by_test (in_limits k)
    (λ t. rw (ne_eqb n (size_of k) (λ e. omega (arith, short k t)), ne_eqb m (size_of k) (λ e. omega (arith, short k t))) refl)
    (λ f. sym (no (in_limits k) (needs (eqb n (size_of k)) WrongLength (Ok k)) (refuse OverLimit 0 0) f refl) ∙ no (in_limits k) (needs (eqb m (size_of k)) WrongLength (Ok k)) (refuse OverLimit 0 0) f refl)

module _ (q : List ℕ) (l : kept ≤ length q) where
  byte_kept : (i : ℕ) → i < kept → byte_at (take kept q) i ≡ byte_at q i
  unfolding byte_at
  byte_kept i h = get_or-take kept q i 0 h

  word_kept : (i : ℕ) → i + 1 < kept → word_at (take kept q) i ≡ word_at q i
  unfolding word_at
  word_kept i h = rw (byte_kept i (omega arith), byte_kept (i + 1) h) refl

  counts_kept : counts_of (take kept q) ≡ counts_of q
  unfolding counts_of
  counts_kept = rw (word_kept 4 (omega arith), word_kept 6 (omega arith), word_kept 8 (omega arith), word_kept 10 (omega arith), word_kept 12 (omega arith), word_kept 14 (omega arith)) refl

  letters_kept : starts_with (take kept q) rpk ≡ starts_with q rpk
  unfolding starts_with
  letters_kept = all_same (λ i. eqb (byte_at (take kept q) i) (byte_at rpk i)) (λ i. eqb (byte_at q i) (byte_at rpk i)) 3 (λ k h. ap (λ (x : ℕ). eqb x (byte_at rpk k)) (byte_kept k (omega arith)))

  -- the header says the same of the bytes that are kept
  pub longer_same : header_of (take kept q) ≡ header_of q
  unfolding header_of
  longer_same =
      let n : length (take kept q) ≡ kept = length-take-le kept q l in
      rw (counts_kept, letters_kept, byte_kept 3 (omega arith), le-leb 16 (length (take kept q)) (omega arith), le-leb 16 (length q) (omega arith))
      (ap (λ (rest : Reading). needs true TooShort (needs (starts_with q rpk) WrongStart (needs (eqb (byte_at q 3) 1) WrongStart rest))) (last_tests (counts_of q) (length (take kept q)) (length q) (omega arith) l))

  -- and it refuses them
  pub longer_refused : passes (header_of q) ≡ false
  longer_refused = by_test (passes (header_of q)) (λ t. absurd (never t)) (λ f. f)
    where
      never : passes (header_of q) ≡ true → ⊥
      never t =
          let h = (header_passed q t).1 in
          omega (arith, h.exact, short (counts_of q) h.limits)

refused_by_header : (p : List ℕ) → passes (header_of p) ≡ false → types_answer p ≡ header_of p
unfolding types_answer formed_of
refused_by_header p f =
    let g : formed_of p ≡ header_of p = sym (stands passes (header_of p) _ f refl) in
    sym (stands passes (formed_of p) _ (ap passes g ∙ f) refl) ∙ g

-- So the first part of the verdict, which is then the whole of it, is that of the input.
pub longer_types : (q : List ℕ) → kept ≤ length q → types_answer (take kept q) ≡ types_answer q
longer_types q l =
    let e = longer_same q l in
    let f = longer_refused q l in
    refused_by_header (take kept q) (ap passes e ∙ f) ∙ e ∙ sym (refused_by_header q f)
