-- Runs of items whose children were all named twice. Naming such a child again changes nothing, so a list that comes over such a run
-- passes it in one step, however many rows name it and however lists overlap.
use Rattle.std.specs.Prelude.{ℕ, ◌+◌, ◌*◌, ◌≤◌, ◌<◌, ◌≡◌, Bool, true, ◌&&◌, ◌||◌, List, [], ◌∷◌, ◌++◌, leb, ltb, length, get_or}
use Rattle.laws.specs.Choice.{pick}
use Rattle.laws.specs.Bounded.{get}
use Rattle.laws.specs.Lists.{gather}
use Rattle.pack.specs.Lists.{list_word}
use Rattle.pack.specs.Named.{optional}
use Rattle.pack.specs.declared.counts.Counts.{Counts}
use Rattle.trees.specs.declared.kids.Kids.{Kids}
use Rattle.trees.specs.declared.kids.Kids.TheVariants.{Items, Seconds, Arms}
use Rattle.trees.specs.Notes.{nodes, Notes, note_all, kids_at}

-- how many words an item takes
abbrev pub stride : Kids → ℕ
stride Items = 1
stride Seconds = 2
stride Arms = 4

-- the expressions that the item which starts at word j names
abbrev pub kids_from : List ℕ → Counts → Kids → ℕ → List ℕ
kids_from p c Items j = list_word p c j ∷ []
kids_from p c Seconds j = list_word p c (j + 1) ∷ []
kids_from p c Arms j = optional (list_word p c (j + 2)) ++ list_word p c (j + 3) ∷ []

-- a child that was named twice, or is none
unfoldable pub full : List ℕ → ℕ → Bool
full uses k = leb 2 (get nodes uses k) || leb nodes k

abbrev pub all_full : List ℕ → List ℕ → Bool
all_full uses [] = true
all_full uses (k ∷ ks) = full uses k && all_full uses ks

-- where the hops of each kind of items begin
abbrev pub line : Kids → ℕ
line Items = 0
line Seconds = 8192
line Arms = 16384

-- how many items from word j on are known to be full
unfoldable pub hop_at : List ℕ → Kids → ℕ → ℕ
hop_at hops kids j = pick (ltb j 8192) (get_or hops (line kids + j) 0) 0

-- so many items from word j on are full
pub record Run (p : List ℕ) (c : Counts) (uses : List ℕ) (kids : Kids) (j n : ℕ) : Type 0 where
  pub each_full : (k : ℕ) → k < n → all_full uses (kids_from p c kids (j + stride kids * k)) ≡ true
  pub low : 1 ≤ n → j < 8192
  pub small : 1 ≤ n → j + n ≤ 8195

pub record Hops (p : List ℕ) (c : Counts) (uses hops : List ℕ) : Type 0 where
  pub long : length hops ≡ 24576
  pub run : (kids : Kids) (j : ℕ) → Run p c uses kids j (hop_at hops kids j)

-- r items of the list at s were passed, from item k on: any of them leave the notes that all leave
pub record Passed (p : List ℕ) (c : Counts) (kids : Kids) (s k place : ℕ) (first after : Notes) (hops : List ℕ) (r : ℕ) : Type 0 where
  pub some : 1 ≤ r
  pub few : r ≤ 8195
  pub leaves : (m : ℕ) → 1 ≤ m → m ≤ r → note_all (gather (kids_at p c kids s) k m) place first ≡ after
  pub kept : Hops p c after.uses hops

-- notes as they should be, and the hops with them
pub record Noting (first after : Notes) (p : List ℕ) (c : Counts) (hops : List ℕ) : Type 0 where
  pub is : first ≡ after
  pub kept : Hops p c first.uses hops
