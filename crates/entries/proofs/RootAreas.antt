-- What a root leaves in the area: a refusal leaves it as it was, and a report changes only the bytes of nodes that were visited.
-- Assumes nothing.
use Prim.Native.Nat.{ℕ, ◌/◌, ◌<◌}
use mathlib.Core.Path.{◌≡◌, refl, sym, ap, subst}
use mathlib.Core.Bool.{Bool, true, false}
use mathlib.Core.List.{List}
use lib.ListN.{length, get_or}
use Rattle.laws.specs.Bounded.{get}
use Rattle.laws.specs.Lists.{In}
use Rattle.laws.proofs.Choice.{by_test, fails}
use Rattle.pack.specs.declared.counts.Counts.{Counts}
use Rattle.laws.specs.Faults.{number_of}
use Rattle.laws.specs.declared.refusal.Refusal.{Refusal}
use Rattle.words.specs.Notes.{nodes, is_seen}
use Rattle.words.proofs.Promises.{words_length, word_else}
use Rattle.expr.specs.State.{State, Step}
use Rattle.expr.specs.Root.{root_rule, checked_as, written, root_answer_in, root_area_in, Checked}
use Rattle.entries.specs.Answers.{answer_told}
use Rattle.entries.specs.Numbers.{of_rules}
use Rattle.entries.proofs.RootNumbers.{Fine, of_root_lem}
use Rattle.std.proofs.Common.{Ok, Err}

-- a report is no refusal
pub no_report : {r : Refusal} → ◌≡◌ {A = Checked} (Err r) (Ok tt) → ⊥
no_report e = fails (sym (ap is_report e))
  where
    is_report : Checked → Bool
    is_report (Ok u) = true
    is_report (Err r) = false

-- two refusals that are one have one number
pub one_number : {f r : Refusal} → ◌≡◌ {A = Checked} (Err f) (Err r) → (number_of f.fault) ≡ (number_of r.fault)
one_number e = ap (λ (a : Checked). (answer_told a).number) e

-- by the case of the step
refused_step : (c : Counts) (t : Step) (s : State) (area : List ℕ) (r : Refusal) → checked_as t ≡ Err r → Fine t → (written c t s area ≡ area) × In (number_of r.fault) of_rules
refused_step c (Ok o) s area r e h = absurd (no_report (sym e))
refused_step c (Err f) s area r e h = (refl, subst (λ (x : ℕ). In x of_rules) (one_number e) h)

-- byte b is of a node that was visited
pub record Visited (c : Counts) (notes : List ℕ) (b : ℕ) : Type 0 where
  pub inside : b / 4 < c.expressions
  pub seen : is_seen (get nodes notes (b / 4)) ≡ true

reported_step : (c : Counts) (t : Step) (s : State) (area : List ℕ) → checked_as t ≡ Ok tt
    → (length (written c t s area) ≡ length area) × ((b : ℕ) → (Visited c s.notes b → ⊥) → get_or (written c t s area) b 0 ≡ get_or area b 0)
reported_step c (Ok o) s area e = (
  words_length s.cells s.notes c.expressions area,
  λ b h. word_else s.cells s.notes c.expressions area b (λ l. by_test (is_seen (get nodes s.notes (b / 4))) (λ t. absurd (h (record { inside = l; seen = t }))) (λ f. f)),
)
reported_step c (Err f) s area e = absurd (no_report e)

-- the byte is one that 01 names: "4 bytes at 4·id for each node of that root"
abbrev pub NodeByte : List ℕ → Counts → List ℕ → List ℕ → ℕ → ℕ → Type 0
NodeByte p c same marks root b = Visited c (root_rule p c same marks root).st.notes b

module _ (p : List ℕ) (c : Counts) (same marks : List ℕ) (root : ℕ) (area : List ℕ) where
  pub root_refused : (r : Refusal) → root_answer_in p c same marks root ≡ Err r → (root_area_in p c same marks root area ≡ area) × In (number_of r.fault) of_rules
  unfolding root_answer_in root_area_in
  root_refused r e = refused_step c (root_rule p c same marks root).step (root_rule p c same marks root).st area r e (of_root_lem p c same marks root).inside

  pub root_reported : root_answer_in p c same marks root ≡ Ok tt
      → (length (root_area_in p c same marks root area) ≡ length area) × ((b : ℕ) → (NodeByte p c same marks root b → ⊥) → get_or (root_area_in p c same marks root area) b 0 ≡ get_or area b 0)
  unfolding root_answer_in root_area_in
  root_reported e = reported_step c (root_rule p c same marks root).step (root_rule p c same marks root).st area e
