-- Refusals 12, 15 and 13: what holds of each expression "over all".
use Rattle.std.specs.Prelude.{Ok, ℕ, zero, suc, Bool, true, List, [], ◌∷◌, ◌++◌, eqb, leb, ltb}
use Rattle.laws.specs.Choice.{pick}
use Rattle.laws.specs.First.{first, until}
use Rattle.laws.specs.Lists.{count, gather}
use Rattle.pack.specs.Rows.{expression_row, root_row}
use Rattle.pack.specs.Named.{kids_of, statements_of}
use Rattle.pack.specs.Answer.{Reading, refuse}
use Rattle.pack.specs.declared.counts.Counts.{Counts}
use Rattle.laws.specs.declared.fault.Fault.{Fault}
use Rattle.laws.specs.declared.fault.Fault.TheVariants.{NotUsedOnce, StrayLet, TooDeep}
use Rattle.trees.specs.declared.node_test.NodeTest.{NodeTest}
use Rattle.trees.specs.declared.node_test.NodeTest.TheVariants.{UsedOnce, LetStated, Shallow}

-- the bodies of all roots
unfoldable pub bodies_of : List ℕ → Counts → List ℕ
bodies_of p c = gather (λ r. (root_row p c r).body ∷ []) 0 c.roots

-- how often an expression is named, "as child and as root body"
unfoldable pub uses_of : List ℕ → Counts → ℕ → ℕ
uses_of p c e = count e (gather (kids_of p c) 0 c.expressions ++ bodies_of p c)

-- how often it is named as a statement of a block
unfoldable pub stated_of : List ℕ → Counts → ℕ → ℕ
stated_of p c e = count e (gather (statements_of p c) 0 c.expressions)

-- the row that names e as a child; the number of rows where none does
unfoldable pub parent_of : List ℕ → Counts → ℕ → ℕ
parent_of p c e = until (λ i. eqb (count e (kids_of p c i)) 0) 0 c.expressions

-- how far it lies below its root, in at most so many steps: "a root body has 1"
unfoldable pub depth_in : List ℕ → Counts → ℕ → ℕ → ℕ
depth_in p c zero e = 0
depth_in p c (suc n) e = let below = suc (depth_in p c n (parent_of p c e)) in pick (ltb (parent_of p c e) c.expressions) below 1

unfoldable pub depth_of : List ℕ → Counts → ℕ → ℕ
depth_of p c e = depth_in p c c.expressions e

abbrev pub max_depth : ℕ
max_depth = 64

-- "12: expression whose uses as child and as root body are not exactly one"
abbrev pub used_once : List ℕ → Counts → ℕ → Bool
used_once p c e = eqb (uses_of p c e) 1

-- "15: let that isn't a block statement"
abbrev pub let_stated : List ℕ → Counts → ℕ → Bool
let_stated p c e = pick (eqb (expression_row p c e).kind 3) (leb 1 (stated_of p c e)) true

-- "13: depth over 64"
abbrev pub shallow : List ℕ → Counts → ℕ → Bool
shallow p c e = leb (depth_of p c e) max_depth

-- each of these tests
unfoldable pub node_fits : List ℕ → Counts → NodeTest → ℕ → Bool
node_fits p c UsedOnce e = used_once p c e
node_fits p c LetStated e = let_stated p c e
node_fits p c Shallow e = shallow p c e

-- and its refusal
abbrev pub test_fault : NodeTest → Fault
test_fault UsedOnce = NotUsedOnce
test_fault LetStated = StrayLet
test_fault Shallow = TooDeep

-- "12, 13, 15: smallest such id."
unfoldable pub nodes_of : List ℕ → Counts → NodeTest → Reading
nodes_of p c test = first (node_fits p c test) (λ e. refuse (test_fault test) e 0) (Ok c) 0 c.expressions
