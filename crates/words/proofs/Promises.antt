-- What the area holds after a report, byte by byte.
--     words_length    the area is as long as it was
--     word_there      the four bytes of a node's word, at 4 times its id
--     word_read       which, read as one number, are the word
--     word_else       every other byte is as it was
--     puts_same       words of the same nodes, in another order
-- And of the words: two results that meet one contract are equal (encode_one).
-- Assumes nothing.
use Prim.Native.Nat.{ℕ, zero, suc, ◌+◌, ◌*◌, ◌/◌, ◌%◌, ◌^◌, ◌<◌, ◌≤◌}
use mathlib.Core.Path.{◌≡◌, refl, sym, subst, ◌∙◌}
use mathlib.Core.Logic.{⊎_elim}
use mathlib.Core.Bool.{Bool, true, false}
use mathlib.Core.List.{List, [], ◌∷◌}
use native.Mathlib.Omega.{arith}
use lib.ListN.{length, get_or, set, length-set}
use lib.Seq.{get_or-set_same, get_or-set_other, ext_get_or}
use Rattle.laws.specs.Bounded.{get}
use Rattle.laws.specs.Lists.{count as times, In}
use Rattle.laws.proofs.Choice.{yes, no, by_test, fails}
use Rattle.laws.proofs.Lists.{in_cons, in_one, in_gather, gather_in}
use Rattle.laws.proofs.Members.{in_self, by_le}
use Rattle.pack.specs.Read.{byte_at, word_at, row32}
use Rattle.unify.specs.Unify.{resolve_of}
use Rattle.words.specs.Notes.{nodes, code_noted, call_noted, diverges_noted, is_seen}
use Rattle.words.specs.Words.{encode, word_byte, put_word, word_of, seen_at, seen_ids, put_words, words_area}
use Rattle.words.proofs.Fields.{word_small, bytes_word}
use Rattle.words.proofs.Writing.{put_length}

-- ---- one word

module _ (area : List ℕ) (id w : ℕ) where
  -- the area after each of the four stores
  abbrev one : List ℕ
  one = set area (4 * id) (word_byte w 0)

  abbrev two : List ℕ
  two = set one (4 * id + 1) (word_byte w 1)

  abbrev three : List ℕ
  three = set two (4 * id + 2) (word_byte w 2)

  -- a byte that the last store, or the last two, did not reach
  past_three : (b : ℕ) → (b ≡ 4 * id + 3 → ⊥) → get_or (put_word area id w) b 0 ≡ get_or three b 0
  unfolding put_word
  past_three b n = get_or-set_other three (4 * id + 3) b (word_byte w 3) 0 n

  past_two : (b : ℕ) → (b ≡ 4 * id + 3 → ⊥) → (b ≡ 4 * id + 2 → ⊥) → get_or (put_word area id w) b 0 ≡ get_or two b 0
  past_two b n m = past_three b n ∙ get_or-set_other two (4 * id + 2) b (word_byte w 2) 0 m

  byte_there : (j : ℕ) → j < 4 → 4 * id + 3 < length area → get_or (put_word area id w) (4 * id + j) 0 ≡ word_byte w j
  unfolding put_word
  byte_there zero h l =
      let e : 4 * id + 0 ≡ 4 * id = omega arith in
      rw e
      (past_two (4 * id) (λ q. omega arith) (λ q. omega arith)
      ∙ get_or-set_other one (4 * id + 1) (4 * id) (word_byte w 1) 0 (λ q. omega arith)
      ∙ get_or-set_same area (4 * id) (word_byte w 0) 0 (omega arith))
  byte_there (suc zero) h l = past_two (4 * id + 1) (λ q. omega arith) (λ q. omega arith) ∙ get_or-set_same one (4 * id + 1) (word_byte w 1) 0 (rw length-set (omega arith))
  byte_there (suc (suc zero)) h l = past_three (4 * id + 2) (λ q. omega arith) ∙ get_or-set_same two (4 * id + 2) (word_byte w 2) 0 (rw (length-set, length-set) (omega arith))
  byte_there (suc (suc (suc zero))) h l = get_or-set_same three (4 * id + 3) (word_byte w 3) 0 (rw (length-set, length-set, length-set) (omega arith))
  byte_there (suc (suc (suc (suc j)))) h l = absurd (omega arith)

  byte_else : (b : ℕ) → (b / 4 ≡ id → ⊥) → get_or (put_word area id w) b 0 ≡ get_or area b 0
  byte_else b n =
      past_two b (λ q. n (omega arith)) (λ q. n (omega arith))
      ∙ get_or-set_other one (4 * id + 1) b (word_byte w 1) 0 (λ q. n (omega arith))
      ∙ get_or-set_other area (4 * id) b (word_byte w 0) 0 (λ q. n (omega arith))

-- ---- the words of a list of nodes

module _ (word : ℕ → ℕ) where
  puts_length : (ids area : List ℕ) → length (put_words word ids area) ≡ length area
  unfolding put_words
  puts_length [] area = refl
  puts_length (id ∷ ids) area = puts_length ids (put_word area id (word id)) ∙ put_length area id (word id)

  puts_else : (ids area : List ℕ) (b : ℕ) → (In (b / 4) ids → ⊥) → get_or (put_words word ids area) b 0 ≡ get_or area b 0
  unfolding put_words
  puts_else [] area b n = refl
  puts_else (id ∷ ids) area b n =
      puts_else ids (put_word area id (word id)) b (λ h. n (omega arith))
      ∙ byte_else area id (word id) b (λ e. n (subst (λ (k : ℕ). In k (id ∷ ids)) (sym e) (in_self id ids)))

  puts_there : (ids area : List ℕ) (id j : ℕ) → j < 4 → 4 * id + 3 < length area → In id ids → get_or (put_words word ids area) (4 * id + j) 0 ≡ word_byte (word id) j
  unfolding put_words
  puts_there [] area id j h l i = absurd (omega arith)
  puts_there (k ∷ ids) area id j h l i =
      by_le 1 (times id ids)
      (λ more. puts_there ids (put_word area k (word k)) id j h (rw put_length l) more)
      (λ none.
      let e : id ≡ k = ⊎_elim (λ q. q) (λ (m : In id ids). absurd (omega arith)) (in_cons id k ids i) in
      let f : (4 * id + j) / 4 ≡ id = omega arith in
      puts_else ids (put_word area k (word k)) (4 * id + j) (λ m. absurd (omega (arith, subst (λ (x : ℕ). In x ids) f m)))
      ∙ rw (← e) (byte_there area id (word id) j h l))

  -- nodes in another order, and some twice
  pub puts_same : (ids others area : List ℕ) → ((y : ℕ) → In y ids → In y others) → ((y : ℕ) → In y others → In y ids) → ((y : ℕ) → In y ids → 4 * y + 3 < length area)
      → put_words word ids area ≡ put_words word others area
  puts_same ids others area there back room =
      ext_get_or 0 (put_words word ids area) (put_words word others area) (puts_length ids area ∙ sym (puts_length others area))
      (λ b h.
      by_le 1 (times (b / 4) ids)
      (λ i.
      let e : 4 * (b / 4) + b % 4 ≡ b = omega arith in
      rw e at (puts_there ids area (b / 4) (b % 4) (omega arith) (room (b / 4) i) i ∙ sym (puts_there others area (b / 4) (b % 4) (omega arith) (room (b / 4) i) (there (b / 4) i))))
      (λ o. puts_else ids area b (λ i. omega (arith, o, i)) ∙ sym (puts_else others area b (λ i. omega (arith, o, back (b / 4) i)))))

-- ---- a report

note_small : (cells : List ℕ) (note : ℕ) → word_of cells note < 2 ^ 32
unfolding word_of
note_small cells note = word_small (diverges_noted note) (call_noted note) (resolve_of cells (code_noted note))

module _ (cells notes : List ℕ) (count : ℕ) (area : List ℕ) where
  pub words_length : length (words_area cells notes count area) ≡ length area
  unfolding words_area
  words_length = puts_length (λ id. word_of cells (get nodes notes id)) (seen_ids notes count) area

  pub seen_in : (id : ℕ) → id < count → is_seen (get nodes notes id) ≡ true → In id (seen_ids notes count)
  unfolding seen_ids
  seen_in id h t = in_gather id (seen_at notes) 0 id count (omega arith) (omega arith) (subst (λ (l : List ℕ). In id l) (yes (is_seen (get nodes notes id)) (id ∷ []) [] t refl) (in_self id []))

  pub in_seen : (id : ℕ) → In id (seen_ids notes count) → (id < count) × (is_seen (get nodes notes id) ≡ true)
  unfolding seen_ids
  in_seen id m =
      let r = gather_in id (seen_at notes) count 0 m in
      by_test (is_seen (get nodes notes r.0))
      (λ t.
      let e : id ≡ r.0 = in_one id r.0 (subst (λ (l : List ℕ). In id l) (sym (yes (is_seen (get nodes notes r.0)) (r.0 ∷ []) [] t refl)) r.3) in
      (omega (arith, r.2), rw e t))
      (λ f. absurd (nothing (subst (λ (l : List ℕ). In id l) (sym (no (is_seen (get nodes notes r.0)) (r.0 ∷ []) [] f refl)) r.3)))
    where
      nothing : In id [] → ⊥
      nothing h = omega arith

  pub word_there : (id j : ℕ) → id < count → is_seen (get nodes notes id) ≡ true → j < 4 → 4 * count ≤ length area
      → get_or (words_area cells notes count area) (4 * id + j) 0 ≡ word_byte (word_of cells (get nodes notes id)) j
  unfolding words_area
  word_there id j h t l long = puts_there (λ id. word_of cells (get nodes notes id)) (seen_ids notes count) area id j l (omega arith) (seen_in id h t)

  -- the four bytes read as the pack's rows are
  pub word_read : (id : ℕ) → id < count → is_seen (get nodes notes id) ≡ true → 4 * count ≤ length area → row32 (words_area cells notes count area) (4 * id) ≡ word_of cells (get nodes notes id)
  unfolding row32 word_at byte_at
  word_read id h t long =
      let zero-there : 4 * id + 0 ≡ 4 * id = omega arith in
      let three-there : 4 * id + 2 + 1 ≡ 4 * id + 3 = omega arith in
      rw (three-there, rw zero-there at (word_there id 0 h t (omega arith) long), word_there id 1 h t (omega arith) long, word_there id 2 h t (omega arith) long, word_there id 3 h t (omega arith) long)
      (bytes_word (word_of cells (get nodes notes id)) (note_small cells (get nodes notes id)))

  pub word_else : (b : ℕ) → (b / 4 < count → is_seen (get nodes notes (b / 4)) ≡ false) → get_or (words_area cells notes count area) b 0 ≡ get_or area b 0
  unfolding words_area
  word_else b n =
      puts_else (λ id. word_of cells (get nodes notes id)) (seen_ids notes count) area b
      (λ m. let r = in_seen (b / 4) m in fails (sym r.1 ∙ n r.0))

pub encode_one : (d : Bool) (call x p q : ℕ) → p ≡ encode d call x → q ≡ encode d call x → p ≡ q
encode_one d call x p q e f = e ∙ sym f
