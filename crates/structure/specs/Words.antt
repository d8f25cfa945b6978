-- What is kept of each list word: the word, and what is known of the type that it names. Words of one value are chained, so that a type's
-- are found when its row is done.
use Rattle.std.specs.Prelude.{◌≡◌, List, Bool, false, not, ℕ, ◌+◌, ◌*◌, ◌/◌, ◌%◌, ◌<◌, eqb, length, Option, MatchOption}
use Rattle.laws.specs.Choice.{pick}
use Rattle.laws.specs.First.{all}
use Rattle.laws.specs.Bounded.{get}
use Rattle.pack.specs.Lists.{list_word}
use Rattle.pack.specs.declared.counts.Counts.{Counts}
use Rattle.structure.specs.Lists.{words, Within, part_place}

-- of each word what is known of its type, and from `words` on the words
abbrev pub looks : ℕ
looks = 16384

-- what the list at s has at place o
unfoldable pub look_at : List ℕ → ℕ → ℕ → ℕ
look_at look s o = get looks look ((s / 2 + o) % looks)

-- words x and y have the same
abbrev pub SameWord : List ℕ → ℕ → ℕ → Type 0
SameWord look x y = get looks look x ≡ get looks look y

-- of n words from a and b on, `step` words from one to the next: the first that differ, or none
abbrev pub WordsApart : List ℕ → ℕ → ℕ → ℕ → ℕ → Option ℕ → Type 0
WordsApart look step a b n r =
    MatchOption r
    ((k : ℕ) → k < n → SameWord look (a + step * k) (b + step * k))
    (λ m. (m < n) × (SameWord look (a + step * m) (b + step * m) → ⊥) × ((k : ℕ) → k < m → SameWord look (a + step * k) (b + step * k)))

-- a word of n places names a marked type
abbrev pub odd_from : List ℕ → (ℕ → ℕ) → ℕ → Bool
odd_from look at n = not (all (λ m. eqb (get looks look (at m) % 2) 0) 0 n)

-- a type of the list at s is marked
pub record WordsHeld (look : List ℕ) (s sort : ℕ) (r : Bool) : Type 0 where
  pub empty : sort ≡ 0 → r ≡ false
  pub held : Within s sort → r ≡ odd_from look (λ m. s / 2 + part_place (sort % 2) m) (sort / 2)

-- the words below j are read
pub record Read (p : List ℕ) (c : Counts) (look : List ℕ) (j : ℕ) : Type 0 where
  pub size : length look ≡ looks
  pub word : (k : ℕ) → k < j → get looks look (words + k) ≡ list_word p c k

-- list word k, as it was read
abbrev pub word_in : List ℕ → ℕ → ℕ
word_in look k = get looks look (words + k)

-- type i is x in all words that name it, and the others are as they were
pub record Noted (look look' : List ℕ) (i x : ℕ) : Type 0 where
  pub size : length look' ≡ looks
  pub word : (k : ℕ) → get looks look' (words + k) ≡ get looks look (words + k)
  pub type : (k : ℕ) → k < words → get looks look' k ≡ pick (eqb (get looks look (words + k)) i) x (get looks look k)
