-- Tarjan's search: "components, classes of mutual reach, come as their first-discovered member finishes, members by falling discovery".
-- Names follow the Rust: the stack, the index of a vertex, its lowlink, the components.
use Rattle.std.specs.Prelude.{Bool, true, false, List, [], ◌∷◌, ◌++◌, eqb, length, take}
use Prim.Native.Nat.{ℕ, zero, suc, ◌-◌, min}
use Rattle.laws.specs.Lists.{count}
use Rattle.components.specs.Found.{index, below}

-- the values discovered, the stack, and the components, each with the last one first
pub record State : Type 0 where
  pub found : List ℕ
  pub stack : List ℕ
  pub components : List (List ℕ)

abbrev pub start : State
start = record { found = []; stack = []; components = [] }

abbrev pub push : ℕ → State → State
push x s = record { found = x ∷ s.found; stack = x ∷ s.stack; components = s.components }

-- the lowest index so far, and one of a value that stands k times on the stack
abbrev pub lower : ℕ → ℕ → ℕ → ℕ
lower low i zero = low
lower low i (suc k) = min low i

-- one reference: a value not yet discovered is visited; one on the stack lowers the lowest index; any other changes nothing
unfoldable pub follow : (ℕ → State → ℕ × State) → ℕ → State → ℕ → ℕ → ℕ × State
follow visit w s low zero = let r = visit w s in (min low r.0, r.1)
follow visit w s low (suc i) = (lower low (suc i) (count w s.stack), s)

unfoldable pub follow_all : (ℕ → State → ℕ × State) → List ℕ → State → ℕ → ℕ × State
unfolding follow
follow_all visit [] s low = (low, s)
follow_all visit (w ∷ ws) s low = let r = follow visit w s low (index w s.found) in follow_all visit ws r.1 r.0

-- what stands on the stack above that of s becomes a component
abbrev pub pop : State → State → State
pop s t = record { found = t.found; stack = s.stack; components = take (length t.stack - length s.stack) t.stack ∷ t.components }

-- a value that was visited at the state s finishes; the test says whether the lowest index met is its own
unfoldable pub leave : State → ℕ × State → Bool → ℕ × State
leave s r true = (r.0, pop s r.1)
leave s r false = r

module _ (refs : ℕ → List ℕ) where
  -- gives the lowest index met; the first argument is how many values may still be discovered
  unfoldable pub strong_connect : ℕ → ℕ → State → ℕ × State
  unfolding follow_all leave
  strong_connect zero x s = (0, s)
  strong_connect (suc f) x s =
      let i = suc (length s.found) in
      let r = follow_all (strong_connect f) (refs x) (push x s) i in
      leave s r (eqb r.0 i)

  -- the search over the values below n
  unfoldable pub tarjan : ℕ → State
  unfolding strong_connect follow_all
  tarjan n = (follow_all (strong_connect n) (below n 0) start 0).1

-- the members of all components
abbrev pub flat : List (List ℕ) → List ℕ
flat [] = []
flat (c ∷ cs) = c ++ flat cs

-- the listing: the components in order
abbrev pub listing : List (List ℕ) → List ℕ
listing [] = []
listing (c ∷ cs) = listing cs ++ c

-- the first-discovered member of each component, the last component's first
abbrev pub last_of : ℕ → List ℕ → ℕ
last_of d [] = d
last_of d (x ∷ xs) = last_of x xs

abbrev pub first_members : List (List ℕ) → List ℕ
first_members [] = []
first_members (c ∷ cs) = last_of 0 c ∷ first_members cs
