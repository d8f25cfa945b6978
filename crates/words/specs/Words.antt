-- The words of a report: "its word records that type as resolved at the end", and "a root's report writes 4 bytes at 4·id for each node of
-- that root; .. big-endian; all else stays."
use Rattle.std.specs.Prelude.{ℕ, ◌+◌, ◌-◌, ◌*◌, ◌/◌, ◌%◌, ◌^◌, ◌≡◌, Bool, List, [], ◌∷◌, set}
use Rattle.laws.specs.Choice.{pick}
use Rattle.laws.specs.Bounded.{get}
use Rattle.laws.specs.Lists.{bit, gather}
use Rattle.unionfind.specs.Codes.{tag, number}
use Rattle.unionfind.specs.Cells.{Kept, Live}
use Rattle.unify.specs.Unify.{resolve_of, settled}
use Rattle.words.specs.Notes.{nodes, code_noted, call_noted, diverges_noted, is_seen}

-- "Word: diverges 1, call 2, tag 3, zero 12, number 14", most significant first
unfoldable pub encode : Bool → ℕ → ℕ → ℕ
encode diverges call x = bit diverges * 2 ^ 31 + call % 4 * 2 ^ 29 + tag x % 8 * 2 ^ 26 + number x

-- ---- one word

-- byte j of a word, big-endian
unfoldable pub word_byte : ℕ → ℕ → ℕ
word_byte word j = word / 256 ^ (3 - j) % 256

-- "4 bytes at 4·id"
unfoldable pub put_word : List ℕ → ℕ → ℕ → List ℕ
put_word area id word =
    set
    (set (set (set area (4 * id) (word_byte word 0)) (4 * id + 1) (word_byte word 1)) (4 * id + 2) (word_byte word 2))
    (4 * id + 3)
    (word_byte word 3)

-- the word of a node with that note, its type as the cells resolve it
unfoldable pub word_of : List ℕ → ℕ → ℕ
word_of cells note = encode (diverges_noted note) (call_noted note) (resolve_of cells (code_noted note))

-- ---- the words of all nodes

-- the node, where it was seen
abbrev pub seen_at : List ℕ → ℕ → List ℕ
seen_at notes id = pick (is_seen (get nodes notes id)) (id ∷ []) []

-- the nodes below count that were seen: those of the root
unfoldable pub seen_ids : List ℕ → ℕ → List ℕ
seen_ids notes count = gather (seen_at notes) 0 count

-- a word for each node of a list, one after the other
unfoldable pub put_words : (ℕ → ℕ) → List ℕ → List ℕ → List ℕ
put_words word [] area = area
put_words word (id ∷ ids) area = put_words word ids (put_word area id (word id))

-- the area after a report
unfoldable pub words_area : List ℕ → List ℕ → ℕ → List ℕ → List ℕ
words_area cells notes count area = put_words (λ id. word_of cells (get nodes notes id)) (seen_ids notes count) area

-- ---- what the functions need and promise

pub record Worded (n : ℕ) (xs : List ℕ) (note r : ℕ) (ys : List ℕ) : Type 0 where
  pub word : r ≡ word_of xs note
  pub cells : ys ≡ settled xs (code_noted note)
  pub live : Live n ys
  pub kept : Kept xs ys

pub record NodeWritten (n : ℕ) (xs : List ℕ) (note id : ℕ) (before ys after : List ℕ) : Type 0 where
  pub area : after ≡ pick (is_seen note) (put_word before id (word_of xs note)) before
  pub cells : ys ≡ pick (is_seen note) (settled xs (code_noted note)) xs
  pub live : Live n ys
  pub kept : Kept xs ys
