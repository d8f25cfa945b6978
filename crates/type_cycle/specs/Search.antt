-- What a visit does to the marks, the skips and the list of definitions that were left.
use Rattle.std.specs.Prelude.{ℕ, ◌+◌, ◌*◌, ◌<◌, ◌≤◌, ◌≡◌, ◌⊎◌, Bool, true, List, [], ◌∷◌, length, get_or, replicate, not, false, count_by}
use Rattle.laws.specs.Bounded.{put}
use Rattle.laws.specs.Lists.{In}
use Rattle.pack.specs.Rows.{type_row}
use Rattle.pack.specs.Named.{field_types_of}
use Rattle.pack.specs.declared.counts.Counts.{Counts}
use Rattle.type_cycle.specs.declared.search.Search.{Search}
use Rattle.type_cycle.specs.declared.skips.Listed.{Listed}
use Rattle.type_cycle.specs.declared.skips.Listed.TheVariants.{Types}
use Rattle.type_cycle.specs.Graph.{max_types, max_definitions, at_name, unresolved, places, ahead, Path, Reach, Round, Within, RowInside, item_types, list_types}
use Rattle.type_cycle.specs.Skips.{stride, word_types, skip_places, skip_of}

pub record State : Type 0 where
  pub marks : List Bool
  pub skips : List ℕ
  pub order : List ℕ
  pub left : ℕ

abbrev pub st : List Bool → List ℕ → List ℕ → ℕ → State
st marks skips order left = record { marks = marks; skips = skips; order = order; left = left }

-- the state that a search is in
abbrev pub state : Search → State
state a = st a.marks a.skips.cells a.order.names a.order.left

-- nothing is met yet
pub record Fresh (s : State) : Type 0 where
  pub marks_are : s.marks ≡ replicate places false
  pub skips_are : s.skips ≡ replicate skip_places 0
  pub order_is : s.order ≡ replicate places 0
  pub left_is : s.left ≡ 0

abbrev pub Seen : List Bool → ℕ → Type 0
Seen marks x = get_or marks x false ≡ true

-- how many places have no mark
abbrev pub unmarked : List Bool → ℕ
unmarked marks = count_by not marks

abbrev pub AllSeen : List Bool → List ℕ → Type 0
AllSeen marks xs = (x : ℕ) → In x xs → Seen marks x

-- ---- what a pack whose rows have no fault gives

pub record Ready (p : List ℕ) (c : Counts) : Type 0 where
  pub few_types : c.types ≤ max_types
  pub few_definitions : c.definitions ≤ max_definitions
  pub rows : (t : ℕ) → t < c.types → RowInside p c (type_row p t)
  pub fields : (d : ℕ) → d < c.definitions → Within c (field_types_of p c d)

pub record Can (p : List ℕ) (c : Counts) (marks : List Bool) : Type 0 where
  pub ready : Ready p c
  pub long : length marks ≡ places

-- ---- skips

-- each item that a skip passes has been visited
pub record Skipped (p : List ℕ) (c : Counts) (marks : List Bool) (skips : List ℕ) : Type 0 where
  pub done : (items : Listed) (w j : ℕ) → j < skip_of skips items w → AllSeen marks (word_types p c items (w + stride items * j))

-- from item k of the list at s to item r
pub record Passes (items : Listed) (s k n : ℕ) (skips after : List ℕ) (r : ℕ) : Type 0 where
  pub low : k < r
  pub high : r ≤ n
  pub done : (p : List ℕ) (c : Counts) (marks : List Bool) → Skipped p c marks skips → (j : ℕ) → k ≤ j → j < r → AllSeen marks (item_types p c items s j)
  pub kept : (p : List ℕ) (c : Counts) (marks : List Bool) → Skipped p c marks skips → Skipped p c marks after

-- ---- the list of definitions that were left

pub record Pushes (n d : ℕ) (order after : List ℕ) (r : ℕ) : Type 0 where
  pub stored : after ≡ put places order n d
  pub more : n < places → r ≡ n + 1
  pub most : r ≤ n + 1

-- ---- a visit

-- Every place that has a mark leads only to such places, but for those that are still open; and the skips are right.
pub record Closed (p : List ℕ) (c : Counts) (opened : List ℕ) (s : State) : Type 0 where
  pub done : (x : ℕ) → Seen s.marks x → In x opened ⊎ AllSeen s.marks (ahead p c x)
  pub skips : Skipped p c s.marks s.skips

-- the definition that was left after i others
abbrev pub left_at : State → ℕ → ℕ
left_at s i = get_or s.order i 0

-- Definitions are listed as they are left. One that leads to a definition that is left later lies on a cycle.
pub record Ordered (p : List ℕ) (c : Counts) (opened : List ℕ) (s : State) : Type 0 where
  pub long : length s.order ≡ places
  pub room : s.left + unmarked s.marks ≤ places
  pub open_seen : (x : ℕ) → In x opened → Seen s.marks x
  pub listed : (d : ℕ) → d < max_definitions → Seen s.marks (at_name d) → In (at_name d) opened ⊎ ((i : ℕ) × (i < s.left) × (left_at s i ≡ d))
  pub left_seen : (i : ℕ) → i < s.left → (left_at s i < max_definitions) × Seen s.marks (at_name (left_at s i)) × (In (at_name (left_at s i)) opened → ⊥)
  pub before : (i j : ℕ) → i < j → j < s.left → Round p c (at_name (left_at s i)) (at_name (left_at s j)) → Round p c (at_name (left_at s i)) (at_name (left_at s i))
  pub later : (i e : ℕ) → i < s.left → e < max_definitions → ((j : ℕ) → j < s.left → left_at s j ≡ e → ⊥) → Round p c (at_name (left_at s i)) (at_name e)
      → Round p c (at_name (left_at s i)) (at_name (left_at s i))

-- from a list of places on: what was met is what they lead to
pub record Visited (p : List ℕ) (c : Counts) (xs : List ℕ) (s t : State) : Type 0 where
  pub long : length t.marks ≡ length s.marks
  pub fewer : unmarked t.marks ≤ unmarked s.marks
  pub room : t.left + unmarked t.marks ≤ s.left + unmarked s.marks
  pub grows : (x : ℕ) → Seen s.marks x → Seen t.marks x
  pub sound : (y : ℕ) → Seen t.marks y → Seen s.marks y ⊎ ((x : ℕ) × In x xs × Path p c s.marks x y)
  pub closes : (opened : List ℕ) → Closed p c opened s → Closed p c opened t × AllSeen t.marks xs
  pub orders : (opened : List ℕ) → Closed p c opened s → Ordered p c opened s → ((g x : ℕ) → In g opened → In x xs → Reach p c g x) → Ordered p c opened t

-- the mark for an unresolved variable, whatever the pack is
pub record MeetsVariable (s t : State) : Type 0 where
  pub visited : (p : List ℕ) (c : Counts) → Visited p c (unresolved ∷ []) s t

-- a list of types that were all visited before: visiting it again changes nothing
pub record Settled (p : List ℕ) (c : Counts) (s : ℕ) (skips : List ℕ) (r : Bool) : Type 0 where
  pub all : r ≡ true → (marks : List Bool) (order : List ℕ) (n : ℕ) → Visited p c (list_types p c Types s) (st marks skips order n) (st marks skips order n)
