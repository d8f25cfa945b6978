-- What the arrays of the search stand for: a state of the search as `components` defines it.
use Rattle.std.specs.Prelude.{ℕ, ◌+◌, ◌-◌, ◌≤◌, ◌<◌, ◌≡◌, List, ◌++◌, length, take, drop, set, get_or}
use Rattle.laws.specs.Lists.{count}
use Rattle.pack.specs.Named.{refs_of}
use Rattle.pack.specs.declared.counts.Counts.{Counts}
use Rattle.components.specs.Answers.{over, size_in, found, order}
use Rattle.components.specs.Found.{index as number}
use Rattle.components.specs.Tarjan.{State, listing, strong_connect}
use Rattle.components.specs.Invariant.{Good}
use Rattle.tarjan.specs.Values.{capacity, kind_of, InRange}
use Rattle.tarjan.specs.declared.listing.Listing.{Listing}
use Rattle.tarjan.specs.declared.search.Search.{Search}
use Rattle.tarjan.specs.declared.stack.Stack.{Stack}

-- v on top of a stack
abbrev pub pushed : ℕ → Stack → Stack
pushed v a = record { values = set a.values (a.top - 1) v; top = a.top - 1 }

-- a visit in the pack's table
abbrev pub visit : List ℕ → Counts → ℕ → State → ℕ × State
visit p c = strong_connect (refs_of p c) c.values

-- where the search is stands for s
pub record Holds (p : List ℕ) (c : Counts) (a : Search) (s : State) : Type 0 where
  pub in_range : InRange p c
  pub good : Good (refs_of p c) c.values s
  pub len_index : length a.index ≡ capacity
  pub len_stack : length a.stack.values ≡ capacity
  pub len_listed : length a.listing.values ≡ capacity
  pub len_sizes : length a.listing.sizes ≡ capacity
  pub discovered_is : a.discovered ≡ length s.found
  pub top_le : a.stack.top ≤ capacity
  pub length_le : a.listing.length ≤ capacity
  -- the stack, its top first, and the listing
  pub stack_is : drop a.stack.top a.stack.values ≡ s.stack
  pub listed_is : take a.listing.length a.listing.values ≡ listing s.components
  -- each value's index, and the size of its component
  pub index_is : (y : ℕ) → y < capacity → get_or a.index y 0 ≡ number y s.found
  pub size_is : (y : ℕ) → y < capacity → get_or a.listing.sizes y 0 ≡ size_in s.components y

-- the search stands for the state that a part of it gives, and `low` is the lowest index that it gives
pub record Gives (p : List ℕ) (c : Counts) (a : Search) (low : ℕ) (result : ℕ × State) : Type 0 where
  pub holds : Holds p c a result.1
  pub low_is : low ≡ result.0

-- the search stands for some state
abbrev pub Stands : List ℕ → Counts → Search → Type 0
Stands p c a = (s : State) × Holds p c a s

-- whatever state a stood for, b stands with `low` for what is given from that state
abbrev pub Leads : List ℕ → Counts → Search → Search → ℕ → (State → ℕ × State) → Type 0
Leads p c a b low result = (s : State) → Holds p c a s → Gives p c b low (result s)

-- the members of a component, which fit into the listing
pub record Takes (members : List ℕ) (a : Listing) : Type 0 where
  pub len_listed : length a.values ≡ capacity
  pub len_sizes : length a.sizes ≡ capacity
  pub space : a.length + length members ≤ capacity
  pub under : (i : ℕ) → i < length members → get_or members i 0 < capacity

-- they are listed, and each has their number as its size
pub record Taken (members : List ℕ) (a b : Listing) : Type 0 where
  pub len_listed : length b.values ≡ capacity
  pub len_sizes : length b.sizes ≡ capacity
  pub length_is : b.length ≡ a.length + length members
  pub listed_is : take b.length b.values ≡ take a.length a.values ++ members
  pub size_is : (y : ℕ) → y < capacity → get_or b.sizes y 0 ≡ over (count y members) (length members) (get_or a.sizes y 0)

-- the values from the stack's top up to `end`
abbrev pub above : Stack → ℕ → List ℕ
above a end = take (end - a.top) (drop a.top a.values)

-- they are a component's members
pub record Pops (a : Search) (end : ℕ) : Type 0 where
  pub len_stack : length a.stack.values ≡ capacity
  pub lo : a.stack.top ≤ end
  pub hi : end ≤ capacity
  pub takes : Takes (above a.stack end) a.listing

-- they are listed and have left the stack
pub record Popped (a : Search) (end : ℕ) (b : Search) : Type 0 where
  pub index_is : b.index ≡ a.index
  pub discovered_is : b.discovered ≡ a.discovered
  pub stack_is : b.stack ≡ record { values = a.stack.values; top = end }
  pub taken : Taken (above a.stack end) a.listing b.listing

-- nothing is discovered yet
pub record Blank (a : Search) : Type 0 where
  pub len_index : length a.index ≡ capacity
  pub len_stack : length a.stack.values ≡ capacity
  pub len_listed : length a.listing.values ≡ capacity
  pub len_sizes : length a.listing.sizes ≡ capacity
  pub discovered_is : a.discovered ≡ 0
  pub top_is : a.stack.top ≡ capacity
  pub length_is : a.listing.length ≡ 0
  pub no_index : (y : ℕ) → get_or a.index y 0 ≡ 0
  pub no_size : (y : ℕ) → get_or a.listing.sizes y 0 ≡ 0

-- the listing and the sizes after the search
pub record Sorted (p : List ℕ) (c : Counts) (a : Listing) : Type 0 where
  pub len_listed : length a.values ≡ capacity
  pub len_sizes : length a.sizes ≡ capacity
  pub listed_is : take c.values a.values ≡ order (kind_of p c) (refs_of p c) c.values
  pub size_is : (y : ℕ) → y < capacity → get_or a.sizes y 0 ≡ size_in (found (kind_of p c) (refs_of p c) c.values) y
