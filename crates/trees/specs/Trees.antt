-- What the notes say once all rows from i on, and all roots, were walked.
use Rattle.std.specs.Prelude.{ℕ, ◌+◌, ◌*◌, ◌-◌, ◌≤◌, ◌<◌, min, ◌≡◌, List, length, replicate}
use Rattle.laws.specs.Bounded.{get}
use Rattle.laws.specs.Lists.{count, In, gather}
use Rattle.pack.specs.Named.{kids_of}
use Rattle.pack.specs.declared.counts.Counts.{Counts}
use Rattle.trees.specs.declared.notes.Notes.{Notes as Held}
use Rattle.trees.specs.Nodes.{bodies_of, uses_of, stated_of, depth_of}
use Rattle.trees.specs.declared.node_test.NodeTest.{NodeTest}
use Rattle.trees.specs.declared.node_test.NodeTest.TheVariants.{UsedOnce}
use Rattle.trees.specs.Notes.{nodes, Notes}

-- how often the rows from i on and the roots name e
abbrev pub uses_from : List ℕ → Counts → ℕ → ℕ → ℕ
uses_from p c i e = count e (gather (kids_of p c) i (c.expressions - i)) + count e (bodies_of p c)

-- where e stands: twice its depth, counted up to 65, and one more for a statement
abbrev pub place_of : List ℕ → Counts → ℕ → ℕ
place_of p c e = 2 * min 65 (depth_of p c e) + stated_of p c e

-- "Children have smaller ids", and each expression is used once
pub record Trees (p : List ℕ) (c : Counts) : Type 0 where
  pub smaller : (e k : ℕ) → e < c.expressions → In k (kids_of p c e) → k < e
  pub once : (e : ℕ) → e < c.expressions → uses_of p c e ≡ 1

pub record Clean (held : Held) : Type 0 where
  pub no_uses : held.uses ≡ replicate 4096 0
  pub no_places : held.places ≡ replicate 4096 0
  pub no_hops : held.hops ≡ replicate 24576 0

pub record Noted (p : List ℕ) (c : Counts) (i : ℕ) (s : Notes) : Type 0 where
  pub low : i ≤ c.expressions
  pub few : c.expressions ≤ nodes
  pub long_uses : length s.uses ≡ nodes
  pub long_places : length s.places ≡ nodes
  pub counted : (e : ℕ) → e < nodes → get nodes s.uses e ≡ min 2 (uses_from p c i e)
  pub placed : Trees p c → (e : ℕ) → e < c.expressions → 1 ≤ uses_from p c i e → get nodes s.places e ≡ place_of p c e

-- the notes are whole, and past 12 the expressions are trees
pub record Ready (p : List ℕ) (c : Counts) (test : NodeTest) (s : Notes) : Type 0 where
  pub noted : Noted p c 0 s
  pub trees : (test ≡ UsedOnce → ⊥) → Trees p c
