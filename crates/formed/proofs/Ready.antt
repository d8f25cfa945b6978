-- When each test may be asked: 12 of any notes; 15 and 13 once each expression is known to be used once.
-- Assumes nothing.
use Prim.Native.Nat.{ℕ}
use mathlib.Core.Path.{◌≡◌, refl}
use mathlib.Core.Bool.{true}
use mathlib.Core.List.{List}
use native.Mathlib.Omega.{arith}
use borrow.Author.Tests.{eqb-true}
use Rattle.laws.proofs.First.{each}
use Rattle.std.proofs.Common.{Ok}
use Rattle.laws.specs.Faults.{passes}
use Rattle.pack.specs.Answer.{refuse}
use Rattle.pack.specs.declared.counts.Counts.{Counts}
use Rattle.rows.specs.Tables.{rows_of}
use Rattle.rows.proofs.Promises.{kids_smaller}
use Rattle.trees.specs.declared.node_test.NodeTest.{NodeTest}
use Rattle.trees.specs.declared.node_test.NodeTest.TheVariants.{UsedOnce}
use Rattle.trees.specs.Nodes.{uses_of, node_fits, test_fault, nodes_of}
use Rattle.trees.specs.Notes.{Notes}
use Rattle.trees.specs.Trees.{Trees, Noted, Ready}
use Rattle.laws.specs.Choice.{pick}

pub at_first_test : {p : List ℕ} {c : Counts} {s : Notes} → Noted p c 0 s → Ready p c UsedOnce s
at_first_test n = record { noted = n; trees = λ h. absurd (h refl) }

-- rows without a fault, and 12 passed: trees
pub grown : (p : List ℕ) (c : Counts) → passes (rows_of p c) ≡ true → passes (nodes_of p c UsedOnce) ≡ true → Trees p c
unfolding nodes_of node_fits pick
grown p c r u =
    record {
      smaller = λ e k l m. kids_smaller p c r e k l m;
      once = λ e l. eqb-true (uses_of p c e) 1 (each (node_fits p c UsedOnce) (λ e. refuse (test_fault UsedOnce) e 0) (Ok c) passes (λ k f. refl) c.expressions 0 u e (omega arith) l);
    }

pub past_first_test : {p : List ℕ} {c : Counts} {s : Notes} (test : NodeTest) → Noted p c 0 s → passes (rows_of p c) ≡ true → passes (nodes_of p c UsedOnce) ≡ true → Ready p c test s
past_first_test {p} {c} test n r u = record { noted = n; trees = λ h. grown p c r u }
