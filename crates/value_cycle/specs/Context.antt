-- The search for a context value: what its array of visited values says.
use Rattle.std.specs.Prelude.{ℕ, ◌≤◌, ◌≡◌, ◌⊎◌, Bool, true, false, List, [], ◌∷◌, length, get_or, not, count_by}
use Rattle.laws.specs.Lists.{In}
use Rattle.pack.specs.Named.{refs_of}
use Rattle.pack.specs.declared.counts.Counts.{Counts}
use Rattle.components.specs.Answers.{uses_context}
use Rattle.components.specs.Walks.{Edge, Reach}
use Rattle.tarjan.specs.Values.{capacity, kind_of}

abbrev pub Sized : List Bool → Type 0
Sized l = length l ≡ capacity

-- y was visited
abbrev pub Visited : List Bool → ℕ → Type 0
Visited l y = get_or l y false ≡ true

-- how many places were not
abbrev pub unvisited : List Bool → ℕ
unvisited l = count_by not l

module _ (p : List ℕ) (c : Counts) where
  -- y is no context value, and all that it references was visited
  abbrev pub Passed : List Bool → ℕ → Type 0
  Passed l y = (kind_of p c y ≡ 2 → ⊥) × ((w : ℕ) → Edge (refs_of p c) y w → Visited l w)

  -- so does each value that was visited: none of them reaches a context value
  abbrev pub Clear : List Bool → Type 0
  Clear l = (y : ℕ) → Visited l y → Passed l y

  -- xs were asked and none reaches a context value: they are visited, and what is visited now and was not before is passed
  pub record Grew (l : List Bool) (xs : List ℕ) (l' : List Bool) : Type 0 where
    pub stays : (y : ℕ) → Visited l y → Visited l' y
    pub has : (w : ℕ) → In w xs → Visited l' w
    pub new : (y : ℕ) → Visited l' y → Visited l y ⊎ Passed l' y

  -- whether one of xs is or reaches a context value; where no value is found to, the visited values are closed
  pub record SeeksIn (l : List Bool) (xs : List ℕ) (r : Bool) (l' : List Bool) : Type 0 where
    pub sized : Sized l'
    pub fewer : unvisited l' ≤ unvisited l
    pub meets : r ≡ true → (a : ℕ) × In a xs × ((x : ℕ) × Reach (refs_of p c) a x × (kind_of p c x ≡ 2))
    pub grew : r ≡ false → Grew l xs l'

  abbrev pub Seeks : List Bool → ℕ → Bool → List Bool → Type 0
  Seeks l v r l' = SeeksIn l (v ∷ []) r l'

  -- whether v is a constant that reaches a context value, where no visited value does
  pub record Asks (l : List Bool) (v : ℕ) (r : Bool) (l' : List Bool) : Type 0 where
    pub sized : Sized l'
    pub is : Clear l → r ≡ uses_context (kind_of p c) (refs_of p c) c.values v
    pub clear : Clear l → r ≡ false → Clear l'
