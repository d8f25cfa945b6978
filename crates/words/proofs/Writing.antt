-- One word, and one node: where it was seen its word is written.
-- Assumes nothing.
use Prim.Native.Nat.{ℕ}
use mathlib.Core.Path.{◌≡◌, refl, sym, ap, ◌∙◌}
use mathlib.Core.Bool.{Bool, true, false}
use mathlib.Core.List.{List}
use lib.ListN.{length, length-set}
use Rattle.laws.proofs.Choice.{yes, no}
use Rattle.unionfind.specs.Cells.{Kept, Knows, Live}
use Rattle.unify.proofs.Resolving.{resolved_same}
use Rattle.words.specs.Notes.{code_noted, is_seen}
use Rattle.words.specs.Words.{encode, put_word, word_of, Worded, NodeWritten}

-- ---- one word

pub put_length : (area : List ℕ) (id w : ℕ) → length (put_word area id w) ≡ length area
unfolding put_word
put_length area id w = rw (length-set, length-set, length-set, length-set) refl

-- cells that keep what is found keep the words
pub word_same : {n : ℕ} {xs ys : List ℕ} → Live n xs → (note : ℕ) → Knows n (code_noted note) → Kept xs ys → word_of ys note ≡ word_of xs note
unfolding word_of
word_same l note k kept = ap (encode _ _) (resolved_same l k kept)

-- ---- one node

module _ {n : ℕ} {xs : List ℕ} (l : Live n xs) (note id : ℕ) (before : List ℕ) {b : Bool} (e : b ≡ is_seen note) where
  pub seen_written : b ≡ true → {r : ℕ} {ys after : List ℕ} → Worded n xs note r ys → after ≡ put_word before id r → NodeWritten n xs note id before ys after
  seen_written t w q = record {
    area = yes (is_seen note) _ _ (sym e ∙ t) (q ∙ ap (put_word before id) w.word);
    cells = yes (is_seen note) _ _ (sym e ∙ t) w.cells;
    live = w.live;
    kept = w.kept;
  }

  pub unseen_written : b ≡ false → NodeWritten n xs note id before xs before
  unseen_written f = record {
    area = no (is_seen note) _ _ (sym e ∙ f) refl;
    cells = no (is_seen note) _ _ (sym e ∙ f) refl;
    live = l;
    kept = record { loopfree = l.loopfree; same = λ u h. refl };
  }
