-- Lists in range: the count word and all items lie in the list words, and each item's words are in range.
use Rattle.std.specs.Prelude.{ℕ, zero, suc, ◌+◌, ◌*◌, Bool, true, ◌&&◌, List, leb, ltb}
use Rattle.laws.specs.First.{all}
use Rattle.pack.specs.Lists.{list_len, list_item}
use Rattle.pack.specs.declared.counts.Counts.{Counts}
use Rattle.lists.specs.Limits.{names, wild, slots, optional_below}
use Rattle.lists.specs.declared.lists.Items.{Items}
use Rattle.lists.specs.declared.lists.Items.TheVariants.{Ids, Pairs, Variants, Arms}

-- "A list is a count word, then its items": so many words after the count lie in the table
unfoldable pub list_fits : Counts → ℕ → ℕ → Bool
list_fits c s words = leb (s + 1 + words) c.words

-- a list of ids, each below the limit
unfoldable pub ids_fit : List ℕ → Counts → ℕ → ℕ → Bool
ids_fit p c limit s = list_fits c s (list_len p c s) && all (λ k. ltb (list_item p c s k) limit) 0 (list_len p c s)

-- "slot list+1 or 0 (0 for `_`, else 11)"
abbrev pub slots_fit : List ℕ → Counts → ℕ → ℕ → Bool
slots_fit p c name zero = true
slots_fit p c name (suc s) = ltb name wild && ids_fit p c slots s

-- how many words n items take
abbrev pub words_of : Items → ℕ → ℕ
words_of (Ids limit) n = n
words_of (Pairs first second) n = 2 * n
words_of Variants n = 2 * n
words_of (Arms limit) n = 4 * n

-- item k of the list at s
abbrev pub item_fits : List ℕ → Counts → Items → ℕ → ℕ → Bool
item_fits p c (Ids limit) s k = ltb (list_item p c s k) limit
item_fits p c (Pairs first second) s k = ltb (list_item p c s (2 * k)) first && ltb (list_item p c s (2 * k + 1)) second
item_fits p c Variants s k = ltb (list_item p c s (2 * k)) names && ids_fit p c c.types (list_item p c s (2 * k + 1))
item_fits p c (Arms limit) s k =
    leb (list_item p c s (4 * k)) wild
    && slots_fit p c (list_item p c s (4 * k)) (list_item p c s (4 * k + 1))
    && (optional_below limit (list_item p c s (4 * k + 2)) && ltb (list_item p c s (4 * k + 3)) limit)

-- a list of such items
unfoldable pub items_fit : List ℕ → Counts → Items → ℕ → Bool
items_fit p c items s = list_fits c s (words_of items (list_len p c s)) && all (item_fits p c items s) 0 (list_len p c s)
