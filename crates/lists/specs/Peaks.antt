-- All items of all lists as the leaves of one tree, whose nodes are the larger of the two below them.
-- With it a list is judged in few steps, however long it is, however many rows name it and however lists overlap.
use Rattle.std.specs.Prelude.{ℕ, zero, suc, ◌+◌, ◌*◌, ◌-◌, ◌/◌, ◌%◌, ◌≤◌, ◌<◌, max, min, ◌≡◌, Bool, ◌&&◌, ◌||◌, List, eqb, leb, ltb, length, get_or}
use Rattle.laws.specs.Choice.{pick}
use Rattle.pack.specs.Lists.{list_word}
use Rattle.pack.specs.declared.counts.Counts.{Counts}
use Rattle.lists.specs.Limits.{names, wild}
use Rattle.lists.specs.Forms.{number, form_at, stride}
use Rattle.lists.specs.Lists.{ids_fit, slots_fit}
use Rattle.lists.specs.declared.forms.Form.{Form}
use Rattle.lists.specs.declared.forms.Form.TheVariants.{Id, Word, Variant, Arm, Name, Reference}
use Rattle.lists.specs.Runs.{Runs}
use Rattle.lists.specs.declared.lists.Items.{Items}
use Rattle.lists.specs.declared.tables.Tables.{Tables}
use Rattle.lists.specs.declared.lists.Items.TheVariants.{Ids, Pairs, Variants, Arms}

-- ---- what stands in a leaf: what the item that starts at word j has to stay below a limit with

-- the weight of an item that is in no range
abbrev pub never : ℕ
never = 65535

-- what the words of an item may weigh too, so that a limit of arms must not be above it
abbrev pub Narrow : Items → Type 0
Narrow (Ids limit) = Unit {0}
Narrow (Pairs first second) = Unit {0}
Narrow Variants = Unit {0}
Narrow (Arms limit) = limit ≤ never

-- (name, start of a list of field types)
abbrev pub variant_weight : List ℕ → Counts → ℕ → ℕ
variant_weight p c j = pick (ltb (list_word p c j) names && ids_fit p c c.types (list_word p c (j + 1))) 0 never

-- an arm: its guard and its body
abbrev pub arm_weight : List ℕ → Counts → ℕ → ℕ
arm_weight p c j =
    pick (leb (list_word p c j) wild && slots_fit p c (list_word p c j) (list_word p c (j + 1)))
    (max (list_word p c (j + 2) - 1) (list_word p c (j + 3)))
    never

-- the last place below n where a test holds, 0 where there is none
abbrev pub last_of : (ℕ → Bool) → ℕ → ℕ
last_of ok zero = 0
last_of ok (suc n) = pick (ok n) n (last_of ok n)

-- words of the same key are the same name, an even number of words apart
abbrev pub key : List ℕ → Counts → ℕ → ℕ
key p c j = 2 * min (list_word p c j) names + j % 2

-- a name: where it stood last before
unfoldable pub earlier : List ℕ → Counts → ℕ → ℕ
earlier p c j = last_of (λ i. eqb (key p c i) (key p c j)) j

-- a reference and the next
abbrev pub rise_weight : List ℕ → Counts → ℕ → ℕ
rise_weight p c j = pick (ltb (list_word p c j) (list_word p c (j + 1))) 0 never

-- by the item's form
unfoldable pub weight : List ℕ → Counts → Form → ℕ → ℕ
weight p c Id j = list_word p c j
weight p c Word j = list_word p c j
weight p c Variant j = variant_weight p c j
weight p c Arm j = arm_weight p c j
weight p c Name j = earlier p c j
weight p c Reference j = rise_weight p c j

-- ---- where it stands

-- each form has so many leaves, for each word one, in as many lanes as an item takes words: the items of a list lie side by side
abbrev pub region : Counts → ℕ
region c = 4 * (c.words / 4 + 1)

abbrev pub leaves : Counts → ℕ
leaves c = 6 * region c

unfoldable pub lane : Counts → Form → ℕ
lane c form = region c / stride form

-- the leaf of the item that starts at word j
unfoldable pub spot : Counts → Form → ℕ → ℕ
spot c form j = region c * number form + (lane c form * (j % stride form) + j / stride form)

-- and the word where the item of a form's leaf y starts
unfoldable pub place : Counts → Form → ℕ → ℕ
place c form y = stride form * (y % lane c form) + y / lane c form

unfoldable pub leaf : List ℕ → Counts → ℕ → ℕ
leaf p c x = weight p c (form_at (x / region c)) (place c (form_at (x / region c)) (x % region c))

-- ---- the tree

-- the leaves below x are filled
pub record Tips (p : List ℕ) (c : Counts) (x : ℕ) (cells : List ℕ) : Type 0 where
  pub long : length cells ≡ 98304
  pub each : (i : ℕ) → i < x → get_or cells (leaves c + i) 0 ≡ leaf p c i

-- so are the nodes from y on, of a tree with n leaves
pub record Nodes (n y : ℕ) (cells : List ℕ) : Type 0 where
  pub larger : (i : ℕ) → y ≤ i → i < n → get_or cells i 0 ≡ max (get_or cells (2 * i) 0) (get_or cells (2 * i + 1) 0)

pub record Peaks (p : List ℕ) (c : Counts) (cells : List ℕ) : Type 0 where
  pub few : c.words ≤ 8184
  pub nodes : Nodes (leaves c) 1 cells
  pub tips : Tips p c (leaves c) cells

-- the table that the leaves of names are taken from
pub record Earlier (p : List ℕ) (c : Counts) (places : List ℕ) : Type 0 where
  pub each : (j : ℕ) → j < region c → get_or places j 0 ≡ earlier p c j

-- all tables: lists of variants and of arms are judged by the first two
pub record Right (p : List ℕ) (c : Counts) (tables : Tables) : Type 0 where
  pub few : c.words ≤ 8184
  pub types_below : Runs p c c.types tables.fields
  pub slots_below : Runs p c 256 tables.slots
  pub names_earlier : Earlier p c tables.earlier

-- the places l and r - 1 at the ends of a range, where they have no neighbour in it under the same node
abbrev pub edges_below : List ℕ → ℕ → ℕ → ℕ → Bool
edges_below cells l r limit =
    (eqb (l % 2) 0 || ltb (get_or cells l 0) limit) && (eqb (r % 2) 0 || ltb (get_or cells (r - 1) 0) limit)
