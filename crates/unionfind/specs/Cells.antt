-- "1. Union-find. Up to 2,048 cells; a variable mapping to itself is unset. `find` follows links and sets every cell passed to what it
-- found". A cell holds a type's code.
use Rattle.std.specs.Prelude.{◌≡◌, List, [], ◌∷◌, Bool, true, false, not, ◌&&◌, ◌||◌, ℕ, zero, suc, ◌<◌, ◌≤◌, length, get_or, set, eqb}
use Rattle.laws.specs.Choice.{pick}
use Rattle.unionfind.specs.Codes.{number, is_var, any_tag, own_code}

abbrev pub capacity : ℕ
capacity = 2048

-- the cell v, which holds x, links to another: x is a variable's code and names another than v
unfoldable pub is_link : ℕ → ℕ → Bool
is_link v x = is_var x && not (eqb (number x) v)

-- The cells passed from v on, v first; the last links no further. A chain that ends passes no cell twice, so as many steps as there are
-- cells are enough.
unfoldable pub trail_in : ℕ → List ℕ → ℕ → List ℕ
trail_in zero xs v = []
trail_in (suc f) xs v = v ∷ pick (is_link v (get_or xs v 0)) (trail_in f xs (number (get_or xs v 0))) []

unfoldable pub trail : List ℕ → ℕ → List ℕ
trail xs v = trail_in (length xs) xs v

abbrev pub last_of : ℕ → List ℕ → ℕ
last_of d [] = d
last_of d (x ∷ t) = last_of x t

-- what is found: what stands in the last cell passed
unfoldable pub found : List ℕ → ℕ → ℕ
found xs v = get_or xs (last_of v (trail xs v)) 0

-- each cell of a list set to r
abbrev pub set_all : List ℕ → List ℕ → ℕ → List ℕ
set_all xs [] r = xs
set_all xs (v ∷ t) r = set (set_all xs t r) v r

-- "sets every cell passed to what it found"
unfoldable pub compressed : List ℕ → ℕ → List ℕ
compressed xs v = set_all xs (trail xs v) (found xs v)

-- v is among the cells of t
abbrev pub among : ℕ → List ℕ → Bool
among v [] = false
among v (x ∷ t) = eqb x v || among v t

-- ---- the states that are met

-- t is the chain from v on, and it ends
pub data Chain (xs : List ℕ) : ℕ → List ℕ → Type 0 where
  stop : {v : ℕ} → v < capacity → is_link v (get_or xs v 0) ≡ false → Chain xs v (v ∷ [])
  step : {v : ℕ} {t : List ℕ} → v < capacity → is_link v (get_or xs v 0) ≡ true → Chain xs (number (get_or xs v 0)) t → Chain xs v (v ∷ t)

-- every chain ends
pub record LoopFree (xs : List ℕ) : Type 0 where
  pub size : length xs ≡ capacity
  pub ends : (v : ℕ) → v < capacity → (t : List ℕ) × Chain xs v t

-- ys is loop-free, and each variable resolves in it as in xs
pub record Kept (xs ys : List ℕ) : Type 0 where
  pub loopfree : LoopFree ys
  pub same : (u : ℕ) → u < capacity → found ys u ≡ found xs u

-- a code that, where it is a variable's, is that of one of the n in use
pub record Knows (n x : ℕ) : Type 0 where
  pub var : is_var x ≡ true → number x < n

-- n variables in use: their cells name no others, and the cells after them map to themselves
pub record Live (n : ℕ) (xs : List ℕ) : Type 0 where
  pub room : n ≤ capacity
  pub loopfree : LoopFree xs
  pub known : (v : ℕ) → v < n → Knows n (get_or xs v 0)
  pub unused : (v : ℕ) → n ≤ v → v < capacity → get_or xs v 0 ≡ own_code any_tag v
