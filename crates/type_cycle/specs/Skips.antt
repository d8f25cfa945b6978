-- How many items from a list word on were visited before. A word can be read as a type, as a field's type or as the start of a variant's list:
-- it has a skip for each.
use Rattle.std.specs.Prelude.{ℕ, ◌+◌, ◌*◌, Bool, true, false, List, [], ◌∷◌}
use Rattle.laws.specs.Bounded.{get, put}
use Rattle.pack.specs.Lists.{list_word}
use Rattle.pack.specs.Named.{items_of}
use Rattle.pack.specs.declared.counts.Counts.{Counts}
use Rattle.type_cycle.specs.declared.skips.Listed.{Listed}
use Rattle.type_cycle.specs.declared.skips.Listed.TheVariants.{Types, Fields, Variants}

-- the word that tells what item k of the list at s is
abbrev pub word_of : Listed → ℕ → ℕ → ℕ
word_of Types s k = s + 1 + k
word_of Fields s k = s + 2 + 2 * k
word_of Variants s k = s + 2 + 2 * k

-- the same word, counted from the list's first
abbrev pub word_in : Listed → ℕ → ℕ
word_in Types k = k
word_in Fields k = 2 * k + 1
word_in Variants k = 2 * k + 1

-- a word that is where a list starts
abbrev pub is_variants : Listed → Bool
is_variants Types = false
is_variants Fields = false
is_variants Variants = true

-- from an item's word to the next
abbrev pub stride : Listed → ℕ
stride Types = 1
stride Fields = 2
stride Variants = 2

-- the types that a word stands for
abbrev pub word_types : List ℕ → Counts → Listed → ℕ → List ℕ
word_types p c Types w = list_word p c w ∷ []
word_types p c Fields w = list_word p c w ∷ []
word_types p c Variants w = items_of p c (list_word p c w)

abbrev pub skip_place : Listed → ℕ → ℕ
skip_place Types w = 3 * w
skip_place Fields w = 3 * w + 1
skip_place Variants w = 3 * w + 2

abbrev pub skip_places : ℕ
skip_places = 24576

abbrev pub skip_of : List ℕ → Listed → ℕ → ℕ
skip_of skips items w = get skip_places skips (skip_place items w)

abbrev pub put_skip : List ℕ → Listed → ℕ → ℕ → List ℕ
put_skip skips items w n = put skip_places skips (skip_place items w) n
