-- Lists by what they have at their places: two look the same exactly if they have the same there.
-- Assumes nothing.
use mathlib.Core.Path.{◌≡◌, refl, sym, ap, ◌∙◌}
use mathlib.Core.List.{List}
use Prim.Native.Nat.{ℕ, ◌+◌, ◌-◌, ◌*◌, ◌/◌, ◌%◌, ◌<◌}
use native.Mathlib.Omega.{arith}
use lib.Dec.{eqb, ltb}
use borrow.Author.Tests.{eq-eqb, ne_eqb, lt-ltb, le-ltb}
use Rattle.laws.specs.Bounded.{get}
use Rattle.laws.proofs.Choice.{yes, no, by_eq}
use Rattle.pack.specs.Lists.{list_word, list_item}
use Rattle.pack.specs.declared.counts.Counts.{Counts}
use Rattle.structure.specs.Lists.{words, of_pairs, len_at, name_at, part_at, sort_of, Within, name_place, part_place, Spot, part, name, seen}
use Rattle.structure.specs.Words.{looks, look_at}
use Rattle.structure.proofs.Keys.{Like, sort_len}
use Rattle.structure.proofs.Spots.{span_pairs, span_types, place_pairs, place_types, look_is}

module _ (p : List ℕ) (c : Counts) where
  pub sort_half : (s : ℕ) → sort_of p c s / 2 ≡ len_at p c s
  unfolding sort_of
  sort_half s = omega arith

  pub sort_odd : (s : ℕ) → sort_of p c s % 2 ≡ s % 2
  unfolding sort_of
  sort_odd s = omega arith

  -- the word of an item's type, and of its name
  pub part_word : (s m : ℕ) → list_word p c (s / 2 + part_place (s % 2) m) ≡ part_at p c s m
  unfolding part_at of_pairs list_item
  part_word s m =
      by_eq (s % 2) 1
      (λ e.
      let q : s / 2 + part_place (s % 2) m ≡ s / 2 + 1 + (2 * m + 1) = omega (arith, place_pairs (s % 2) m e) in
      yes (eqb (s % 2) 1) _ _ (eq-eqb (s % 2) 1 e) (ap (list_word p c) q))
      (λ e.
      let q : s / 2 + part_place (s % 2) m ≡ s / 2 + 1 + m = omega (arith, place_types (s % 2) m e) in
      no (eqb (s % 2) 1) _ _ (ne_eqb (s % 2) 1 e) (ap (list_word p c) q))

  pub name_word : (s m : ℕ) → s % 2 ≡ 1 → list_word p c (s / 2 + (1 + 2 * m)) ≡ name_at p c s m
  unfolding name_at of_pairs list_item
  name_word s m e = let q : s / 2 + (1 + 2 * m) ≡ s / 2 + 1 + 2 * m = omega arith in yes (eqb (s % 2) 1) _ _ (eq-eqb (s % 2) 1 e) (ap (list_word p c) q)

  pub name_none : (s m : ℕ) → (s % 2 ≡ 1 → ⊥) → 0 ≡ name_at p c s m
  unfolding name_at of_pairs
  name_none s m e = no (eqb (s % 2) 1) _ _ (ne_eqb (s % 2) 1 e) refl

  -- a type's place is below `words`
  pub part_below : (s m : ℕ) → Within s (sort_of p c s) → m < len_at p c s → s / 2 + part_place (s % 2) m < words
  part_below s m w h =
      by_eq (s % 2) 1
      (λ e. omega (arith, place_pairs (s % 2) m e, span_pairs (sort_of p c s) (sort_odd s ∙ e), sort_half s, w))
      (λ e. omega (arith, place_types (s % 2) m e, span_types (sort_of p c s) (λ q. e (sym (sort_odd s) ∙ q)), sort_half s, w))

  module _ (f : ℕ → ℕ) where
    pub seen_part : (s m : ℕ) → Within s (sort_of p c s) → m < len_at p c s → seen p c f s (part_place (s % 2) m) ≡ f (part_at p c s m)
    unfolding seen
    seen_part s m w h = let o = part_place (s % 2) m in sym (yes (ltb o words) (f (list_word p c (s / 2 + o))) (list_word p c (s / 2 + (o - words))) (lt-ltb o words (omega (arith, part_below s m w h))) (ap f (sym (part_word s m))))

    pub seen_name : (s m : ℕ) → s % 2 ≡ 1 → seen p c f s (name_place m) ≡ name_at p c s m
    unfolding seen
    seen_name s m e =
        let q : s / 2 + (1 + 2 * m) ≡ s / 2 + (name_place m - words) = omega arith in
        sym (no (ltb (name_place m) words) (f (list_word p c (s / 2 + name_place m))) (list_word p c (s / 2 + (name_place m - words))) (le-ltb (name_place m) words (omega arith)) (sym (name_word s m e) ∙ ap (list_word p c) q))

    -- lists that look the same have the same at each place
    pub like_seen : (s t : ℕ) → Within s (sort_of p c s) → Within t (sort_of p c t) → Like p c f s t → (o : ℕ) → Spot (sort_of p c s) o → seen p c f s o ≡ seen p c f t o
    like_seen s t w u l o (part m h e) =
        let a : m < len_at p c s = omega (arith, h, sort_half s) in
        let b : m < len_at p c t = omega (arith, a, l.lens) in
        let x : o ≡ part_place (s % 2) m = e ∙ ap (λ (y : ℕ). part_place y m) (sort_odd s) in
        let y : s % 2 ≡ t % 2 = sym (sort_odd s) ∙ ap (λ (z : ℕ). z % 2) l.sorts ∙ sort_odd t in
        rw x (seen_part s m w a) ∙ l.parts m a ∙ sym (rw (x, y) (seen_part t m u b))
    like_seen s t w u l o (name m h q e) =
        let a : m < len_at p c s = omega (arith, h, sort_half s) in
        let x : s % 2 ≡ 1 = sym (sort_odd s) ∙ q in
        let y : t % 2 ≡ 1 = sym (sort_odd t) ∙ ap (λ (z : ℕ). z % 2) (sym l.sorts) ∙ q in
        rw e (seen_name s m x ∙ l.names m a ∙ sym (seen_name t m y))

    pub seen_like : (s t : ℕ) → Within s (sort_of p c s) → Within t (sort_of p c t) → sort_of p c s ≡ sort_of p c t
        → ((o : ℕ) → Spot (sort_of p c s) o → seen p c f s o ≡ seen p c f t o) → Like p c f s t
    seen_like s t w u e q =
        let y : s % 2 ≡ t % 2 = sym (sort_odd s) ∙ ap (λ (z : ℕ). z % 2) e ∙ sort_odd t in
        record {
          sorts = e;
          lens = sort_len p c s t e;
          names = λ m h.
              by_eq (s % 2) 1
              (λ x. sym (seen_name s m x) ∙ q (name_place m) (name m (omega (arith, h, sort_half s)) (sort_odd s ∙ x) refl) ∙ seen_name t m (sym y ∙ x))
              (λ x. sym (name_none s m x) ∙ name_none t m (λ z. x (y ∙ z)));
          parts = λ m h.
              let b : m < len_at p c t = omega (arith, h, sort_len p c s t e) in
              let z : part_place (s % 2) m ≡ part_place (sort_of p c s % 2) m = ap (λ (k : ℕ). part_place k m) (sym (sort_odd s)) in
              sym (seen_part s m w h) ∙ q (part_place (s % 2) m) (part m (omega (arith, h, sort_half s)) z) ∙ rw y (seen_part t m u b);
        }

    -- what is kept of the words is that
    module _ (look : List ℕ) (i : ℕ) (named : (k : ℕ) → k < words → get looks look (words + k) ≡ list_word p c k)
        (typed : (k : ℕ) → k < words → list_word p c k < i → get looks look k ≡ f (list_word p c k)) where
      pub look_seen : (s : ℕ) → Within s (sort_of p c s) → ((m : ℕ) → m < len_at p c s → part_at p c s m < i) → (o : ℕ) → Spot (sort_of p c s) o → look_at look s o ≡ seen p c f s o
      look_seen s w small o (part m h e) =
          let a : m < len_at p c s = omega (arith, h, sort_half s) in
          let x : o ≡ part_place (s % 2) m = e ∙ ap (λ (y : ℕ). part_place y m) (sort_odd s) in
          let b = part_below s m w a in
          rw x
          (look_is look s (part_place (s % 2) m) (omega (arith, b))
          ∙ typed (s / 2 + part_place (s % 2) m) b (rw (part_word s m) (small m a))
          ∙ ap f (part_word s m)
          ∙ sym (seen_part s m w a))
      look_seen s w small o (name m h q e) =
          let x : s % 2 ≡ 1 = sym (sort_odd s) ∙ q in
          let a : m < len_at p c s = omega (arith, h, sort_half s) in
          let z = span_pairs (sort_of p c s) q in
          let b : s / 2 + (1 + 2 * m) < words = omega (arith, a, sort_half s, z, w) in
          let y : s / 2 + name_place m ≡ words + (s / 2 + (1 + 2 * m)) = omega arith in
          rw e
          (look_is look s (name_place m) (omega (arith, b))
          ∙ ap (λ (k : ℕ). get looks look k) y
          ∙ named (s / 2 + (1 + 2 * m)) b
          ∙ name_word s m x
          ∙ sym (seen_name s m x))
