-- What a mark, a look-up and a field that is found mean.
--     marked_holds          a marked row holds a variable, and no other is marked
--     member_named          a member that is found has the name, and is the first that has it
--     field_unmarked        a field that is found holds no variable
-- Assumes nothing.
use mathlib.Core.Path.{◌≡◌, refl, sym, ◌∙◌}
use mathlib.Core.List.{List}
use mathlib.Core.Bool.{Bool, true, false, not}
use Prim.Native.Nat.{ℕ, ◌<◌}
use native.Mathlib.Omega.{arith}
use lib.Dec.{eqb}
use borrow.Author.Tests.{not-true, not-false, eqb-true, eq-eqb, ltb-true, lt-ltb}
use Rattle.std.proofs.Common.{Option, Some, None, option_map, unwrap_or}
use Rattle.laws.specs.Choice.{pick}
use Rattle.laws.proofs.Choice.{fails}
use Rattle.laws.proofs.First.{Until, until_is}
use Rattle.laws.proofs.Bounded.{get_in}
use Rattle.laws.proofs.Members.{by_le}
use Rattle.pack.specs.Lists.{list_len, pair_of}
use Rattle.pack.specs.Rows.{definition_row}
use Rattle.pack.specs.declared.counts.Counts.{Counts}
use Rattle.pack.specs.declared.rows.DefinitionRow.{DefinitionRow}
use Rattle.structure.specs.Structure.{rows, PartsSmaller, holds}
use Rattle.structure.specs.Table.{Numbers}
use Rattle.members.specs.Types.{named_by}
use Rattle.members.specs.Lookup.{name_at, is_member, member_of}
use Rattle.members.specs.Marks.{is_marked}
use Rattle.members.specs.Field.{Accessed, field_in, field_of_definition, field_of_type, accessed_by}
use Rattle.std.proofs.Common.{Ok, Err}
use Rattle.laws.specs.declared.fault.Fault.TheVariants.{NoSuchField, HoldsVariable, NotPlain}
use Rattle.members.proofs.Counts.{not_bit}

-- ---- marks

pub marked_holds : (p : List ℕ) (c : Counts) (same marks : List ℕ) → Numbers p c same marks → PartsSmaller p c → (i : ℕ) → i < c.types → i < rows
    → is_marked marks i ≡ holds p c i
unfolding is_marked
marked_holds p c same marks t s i l h = rw (← get_in rows marks i h, t.mark s i l h) (not_bit (holds p c i))

-- ---- look-ups

module _ (p : List ℕ) (c : Counts) (list name : ℕ) where
  place : Until (λ k. not (eqb (name_at p c list k) name)) 0 (list_len p c list) (pair_of p c list name)
  unfolding pair_of
  place = until_is (λ k. not (eqb (name_at p c list k) name)) 0 (list_len p c list) (omega arith)

  pub member_below : is_member p c list name ≡ true → pair_of p c list name < list_len p c list
  unfolding is_member
  member_below t = ltb-true (pair_of p c list name) (list_len p c list) t

  pub member_named : is_member p c list name ≡ true → name_at p c list (pair_of p c list name) ≡ name
  member_named t = eqb-true (name_at p c list (pair_of p c list name)) name (not-false (eqb (name_at p c list (pair_of p c list name)) name) (place.wrong (member_below t)))

  -- no pair before it has the name
  pub member_first : (k : ℕ) → k < pair_of p c list name → name_at p c list k ≡ name → ⊥
  member_first k l e = fails (sym (eq-eqb (name_at p c list k) name e) ∙ not-true (eqb (name_at p c list k) name) (place.right k (omega arith) l))

  -- a pair that has the name makes it a member
  pub named_member : (k : ℕ) → k < list_len p c list → name_at p c list k ≡ name → is_member p c list name ≡ true
  unfolding is_member
  named_member k l e = by_le (pair_of p c list name) k (λ h. lt-ltb (pair_of p c list name) (list_len p c list) (omega arith)) (λ h. absurd (member_first k h e))

-- ---- a field

-- a type that is found holds no variable
abbrev pub Unmarked : List ℕ → Accessed → Type 0
Unmarked marks (Ok t) = is_marked marks t ≡ false
Unmarked marks (Err f) = Unit {0}

module _ (p : List ℕ) (c : Counts) (marks : List ℕ) (name : ℕ) where
  in_unmarked : (list : ℕ) → Unmarked marks (field_in p c marks list name)
  unfolding field_in pick
  in_unmarked list = go (is_member p c list name) (is_marked marks (member_of p c list name)) refl
    where
      go : (a b : Bool) → is_marked marks (member_of p c list name) ≡ b → Unmarked marks (pick a (pick b (Err HoldsVariable) (Ok (member_of p c list name))) (Err NoSuchField))
      go true true e = tt
      go true false e = e
      go false b e = tt

  choice_unmarked : (b : Bool) (x y : Accessed) → Unmarked marks x → Unmarked marks y → Unmarked marks (pick b x y)
  unfolding pick
  choice_unmarked true x y f g = f
  choice_unmarked false x y f g = g

  definition_unmarked : (r : DefinitionRow) → Unmarked marks (field_of_definition p c marks name r)
  unfolding field_of_definition
  definition_unmarked r = choice_unmarked _ _ _ (choice_unmarked _ _ _ (in_unmarked r.list) tt) tt

  type_unmarked : (x : ℕ) → Unmarked marks (field_of_type p c marks name x)
  unfolding field_of_type
  type_unmarked x = choice_unmarked _ _ _ (in_unmarked _) tt

  pub field_unmarked : (x : ℕ) → Unmarked marks (accessed_by p c marks x name)
  unfolding accessed_by
  field_unmarked x = go (named_by p x)
    where
      go : (d : Option ℕ) → Unmarked marks (unwrap_or (option_map (λ d. field_of_definition p c marks name (definition_row p c d)) d) (field_of_type p c marks name x))
      go None = type_unmarked x
      go (Some d) = definition_unmarked (definition_row p c d)
