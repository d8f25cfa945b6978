-- The steps of the whole: each part's answer is known.
-- Assumes nothing.
use Prim.Native.Nat.{ℕ, ◌+◌, ◌≤◌, ◌<◌}
use mathlib.Core.Path.{◌≡◌, refl, sym, ap, ◌∙◌}
use mathlib.Core.List.{List}
use native.Mathlib.Omega.{arith}
use lib.ListN.{length}
use Rattle.laws.specs.Faults.{passes}
use Rattle.laws.proofs.First.{Left, goes, stops, ends}
use Rattle.pack.specs.declared.counts.Counts.{Counts}
use Rattle.laws.specs.declared.refusal.Refusal.{Refusal}
use Rattle.pack.proofs.CountLaws.{Limited, limited}
use Rattle.formed.specs.Formed.{formed_of}
use Rattle.formed.proofs.Promises.{well_formed}
use Rattle.structure.specs.Table.{Numbers}
use Rattle.expr.specs.Root.{Checks, root_answer, Checked}
use Rattle.value_cycle.specs.Area.{Orders}
use Rattle.value_cycle.specs.Order.{Order, Outcome, outcome}
use Rattle.value_cycle.proofs.WellFormed.{orders}
use Rattle.entries.specs.Types.{types_answer}
use Rattle.entries.proofs.ReadyLaws.{root_checks}
use Rattle.check_pack.specs.Whole.{Whole, whole, order_verdict, order_part, roots_answer, after_roots, roots_part, after_types, whole_of}
use Rattle.check_pack.specs.declared.whole.Verdict.TheVariants.{NoTypes}
use Rattle.std.proofs.Common.{Ok, Err}

pub few : (p : List ℕ) (c : Counts) → formed_of p ≡ Ok c → Limited c
few p c e = limited c (well_formed p c e).headed.limits

-- the order's answer is o, which is of the case a
pub order_part_lem : {o a : Order} {area : List ℕ} {out : Outcome} (c : Counts) → o ≡ a → outcome o area ≡ out → whole (order_verdict c a) area ≡ order_part c out
order_part_lem {area = area} c q e = ap (λ (x : Order). whole (order_verdict c x) area) (sym q) ∙ ap (order_part c) e

-- the roots' answer is o, which is of the case a
pub roots_part_lem : {w : Whole} {o a : Checked} (p : List ℕ) (c : Counts) (area : List ℕ) → o ≡ a → o ≡ roots_answer p c → w ≡ after_roots p c area a → w ≡ roots_part p c area
roots_part_lem p c area q e s = s ∙ ap (after_roots p c area) (sym q ∙ e)

pub types_pass : {w : Whole} (p area : List ℕ) (c : Counts) → types_answer p ≡ Ok c → w ≡ roots_part p c area → w ≡ whole_of p area
unfolding whole_of
types_pass p area c e q = q ∙ ap (after_types p area) (sym e)

pub types_stop : (p area : List ℕ) (r : Refusal) → types_answer p ≡ Err r → whole (NoTypes r) area ≡ whole_of p area
unfolding whole_of
types_stop p area r e = ap (after_types p area) (sym e)

-- a well-formed pack has at most 1,024 values, so an area of 2,048 bytes is long enough for their order
pub has_room : (p area : List ℕ) (c : Counts) → formed_of p ≡ Ok c → 2048 ≤ length area → Orders p c area
has_room p area c e l = orders p c area e (omega (arith, (few p c e).values))

-- and at most 4,096 expressions, so 16,384 bytes are long enough for their words
pub checks : {p same marks words : List ℕ} {c : Counts} {i : ℕ} → formed_of p ≡ Ok c → i < c.roots → Numbers p c same marks → length words ≡ 16384 → Checks p c same marks i words
checks {p = p} {c = c} e i t n = root_checks e i t (omega (arith, (few p c e).expressions))

-- ---- the loop over the roots

-- the roots from i on say what all of them say
pub record RootsLeft (p : List ℕ) (c : Counts) (i : ℕ) : Type 0 where
  pub left : Left (λ i. passes (root_answer p c i)) (root_answer p c) (Ok tt) i c.roots (roots_answer p c)

pub roots_start : (p : List ℕ) (c : Counts) → RootsLeft p c 0
unfolding roots_answer
roots_start p c = record { left = record { says = refl } }

module _ {p : List ℕ} {c : Counts} {i : ℕ} (l : RootsLeft p c i) where
  -- the answer of root i is a, which is of the case b
  pub root_goes : {a : Checked} → i < c.roots → a ≡ root_answer p c i → a ≡ Ok tt → RootsLeft p c (i + 1)
  root_goes h e q = record { left = goes l.left h (ap passes (sym e ∙ q)) }

  pub root_stops : {a : Checked} {r : Refusal} → i < c.roots → a ≡ root_answer p c i → a ≡ Err r → Err r ≡ roots_answer p c
  root_stops h e q = sym q ∙ e ∙ stops l.left h (ap passes (sym e ∙ q))

  pub roots_end : c.roots ≤ i → Ok tt ≡ roots_answer p c
  roots_end h = ends l.left h
