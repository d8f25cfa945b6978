-- What an answer has to say, in terms of walks alone: the account that the search is held to.
use Rattle.std.specs.Prelude.{◌≡◌, ◌↔◌, ℕ, ◌<◌, get_or}
use mathlib.Core.List.{List, Memᴰ}
use Rattle.laws.specs.declared.fault.Fault.{Fault}
use Rattle.laws.specs.declared.fault.Fault.TheVariants.{ReferencesItself, OnLongerCycle, ReachesContext}
use Rattle.laws.specs.Lists.{count, In}
use Rattle.components.specs.Answers.{Answer, listed, refused}
use Rattle.components.specs.DepthFirst.{depth_first}
use Rattle.components.specs.Found.{Part}
use Rattle.components.specs.Tarjan.{listing, first_members}
use Rattle.components.specs.Walks.{Edge, Walk, Reach, Before}

-- the values' kinds and references, and how many values there are
module _ (kind : ℕ → ℕ) (refs : ℕ → List ℕ) (n : ℕ) where
  -- v has a walk to a context value
  abbrev pub Uses : ℕ → Type 0
  Uses v = (x : ℕ) × Walk refs v x × (kind x ≡ 2)

  -- xs lists the values as 01 wants them
  pub record Lists (xs : List ℕ) : Type 0 where
    -- each value exactly once, and nothing else
    pub once : (y : ℕ) → y < n → count y xs ≡ 1
    pub only : (y : ℕ) → In y xs → y < n
    -- if a has a walk to b, and b none to a, then b comes first
    pub first : (a b : ℕ) → a < n → Walk refs a b → ¬ Walk refs b a → Before b a xs
    -- xs is the components one after the other (here the last one first)
    pub components : List (List ℕ)
    pub joined : xs ≡ listing components
    pub some : (c : List ℕ) → Memᴰ c components → (x : ℕ) × In x c
    -- "classes of mutual reach"
    pub classes : (c : List ℕ) → Memᴰ c components → (a b : ℕ) → In a c → In b c ↔ (Reach refs a b × Reach refs b a)
    -- "members by falling discovery"
    pub falling : (c : List ℕ) → Memᴰ c components → Part c (depth_first refs n).found
    -- "come as their first-discovered member finishes"
    pub finishing : Part (first_members components) (depth_first refs n).finished

  -- no constant has a walk to itself, and none has a walk to a context value
  abbrev pub Orderable : Type 0
  Orderable = (v : ℕ) → v < n → kind v ≡ 0 → (¬ Walk refs v v) × (¬ Uses v)

  pub data Refuses : Fault → ℕ → Type 0 where
    -- 50 at the smallest constant that lists itself
    is₅₀ : {v : ℕ} → v < n → kind v ≡ 0 → Edge refs v v → ((u : ℕ) → u < v → kind u ≡ 0 → ¬ Edge refs u u) → Refuses ReferencesItself v
    -- else 51 at the first listed constant that has a walk to itself
    is₅₁ : {v : ℕ} → ((u : ℕ) → u < n → kind u ≡ 0 → ¬ Edge refs u u) → (xs : List ℕ) → Lists xs → (d : ℕ) → d < n → v ≡ get_or xs d 0 → kind v ≡ 0 → Walk refs v v → ((e : ℕ) → e < d → kind (get_or xs e 0) ≡ 0 → ¬ Walk refs (get_or xs e 0) (get_or xs e 0)) → Refuses OnLongerCycle v
    -- else 52 at the smallest constant that has a walk to a context value
    is₅₂ : {v : ℕ} → ((u : ℕ) → u < n → kind u ≡ 0 → ¬ Walk refs u u) → v < n → kind v ≡ 0 → Uses v → ((u : ℕ) → u < v → kind u ≡ 0 → ¬ Uses u) → Refuses ReachesContext v

  abbrev pub Says : Answer → Type 0
  Says (listed xs) = Lists xs × Orderable
  Says (refused fault place) = Refuses fault place
