-- "A list is a count word, then its items."
use Rattle.std.specs.Prelude.{ℕ, ◌+◌, ◌*◌, List, not, eqb}
use Rattle.laws.specs.First.{until}
use Rattle.pack.specs.Read.{word_at}
use Rattle.pack.specs.Counts.{lists_at}
use Rattle.pack.specs.declared.counts.Counts.{Counts}

-- list word j of the pack
unfoldable pub list_word : List ℕ → Counts → ℕ → ℕ
list_word p c j = word_at p (lists_at c + 2 * j)

-- of the list at word s: how many items, and the word k after its count
unfoldable pub list_len : List ℕ → Counts → ℕ → ℕ
list_len p c s = list_word p c s

unfoldable pub list_item : List ℕ → Counts → ℕ → ℕ → ℕ
list_item p c s k = list_word p c (s + 1 + k)

-- of the list of pairs at word s: the first whose first word is that one, the number of pairs if there is none
unfoldable pub pair_of : List ℕ → Counts → ℕ → ℕ → ℕ
pair_of p c s word = until (λ k. not (eqb (list_item p c s (2 * k)) word)) 0 (list_len p c s)
