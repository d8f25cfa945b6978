-- The invariant of Tarjan's search.
--     Emitted    what holds of the components that are finished
--     Good       what holds of a state
use Rattle.std.specs.Prelude.{◌≡◌, ◌⊎◌, ℕ, ◌+◌, ◌≤◌, ◌<◌}
use mathlib.Core.List.{List, [], ◌∷◌, Memᴰ}
use Rattle.laws.specs.Lists.{count, In}
use Rattle.components.specs.Found.{Part}
use Rattle.components.specs.Tarjan.{State, flat}
use Rattle.components.specs.Walks.{Edge, Reach}

module _ (refs : ℕ → List ℕ) where
  -- each component's members reach each other, and what they reference is in it or in an earlier one
  pub data Emitted : List (List ℕ) → Type 0 where
    nothing : Emitted []
    also : {c : List ℕ} {cs : List (List ℕ)} → ((a b : ℕ) → In a c → In b c → Reach refs a b) → ((a b : ℕ) → In a c → Edge refs a b → In b c ⊎ In b (flat cs)) → Emitted cs → Emitted (c ∷ cs)

  module _ (n : ℕ) where
    pub record Good (s : State) : Type 0 where
      -- a value is found once, and then it is on the stack or in a component
      pub once : (y : ℕ) → count y s.found ≤ 1
      pub split : (y : ℕ) → count y s.found ≡ count y s.stack + count y (flat s.components)
      pub under : (y : ℕ) → In y s.found → y < n
      pub emitted : Emitted s.components
      -- the stack and each component stand by falling discovery
      pub falls : Part s.stack s.found
      pub each_falls : (c : List ℕ) → Memᴰ c s.components → Part c s.found
      -- and no component is empty
      pub each_some : (c : List ℕ) → Memᴰ c s.components → (x : ℕ) × In x c
