-- The nodes that the checker of a root meets: a node, then the trees of its children, in checking order. A child that is named is met each
-- time that it is named. (That the notes change at these alone, and that all of them are noted, is said of them in the proofs.)
use Rattle.std.specs.Prelude.{ℕ, zero, suc, ◌+◌, List, [], ◌∷◌, ◌++◌}
use Rattle.pack.specs.Named.{kids_of}
use Rattle.pack.specs.declared.counts.Counts.{Counts}

-- the lists of several numbers, one after the other
unfoldable pub together : (ℕ → List ℕ) → List ℕ → List ℕ
together f [] = []
together f (x ∷ xs) = f x ++ together f xs

-- the sum of what several numbers count
abbrev pub sum : (ℕ → ℕ) → List ℕ → ℕ
sum f [] = 0
sum f (x ∷ xs) = f x + sum f xs

-- the nodes from id down, so many levels
unfoldable pub tree_of : ℕ → List ℕ → Counts → ℕ → List ℕ
tree_of zero p c id = []
tree_of (suc left) p c id = id ∷ together (tree_of left p c) (kids_of p c id)
