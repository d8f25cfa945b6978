-- Which refusal numbers an answer can carry, layer by layer.
-- Assumes nothing.
use Prim.Native.Nat.{ℕ, zero, suc, ◌-◌}
use mathlib.Core.Path.{◌≡◌, refl, ap, subst}
use mathlib.Core.Bool.{Bool, true, false}
use mathlib.Core.List.{List, [], ◌∷◌, ◌++◌}
use native.Mathlib.Omega.{arith}
use lib.Dec.{lit≤}
use borrow.Author.Tests.{eqb-false}
use Rattle.laws.specs.Choice.{pick, by_kind}
use Rattle.laws.specs.First.{first, walk}
use Rattle.laws.specs.Lists.{In}
use Rattle.laws.specs.Answers.{after}
use Rattle.laws.proofs.Choice.{fails}
use Rattle.laws.proofs.Lists.{count_append}
use Rattle.std.proofs.Common.{Option, Some, None, Ok, Err}
use Rattle.laws.specs.Faults.{passes, faulted, number_of}
use Rattle.laws.specs.declared.fault.Fault.TheVariants.{TooShort, WrongStart, OverLimit, WrongLength, NoSuchRoot, AreaTooShort, Unresolved, TypeCycle}
use Rattle.laws.specs.declared.fault.Fault.{Fault}
use Rattle.pack.specs.Answer.{Reading, refuse, needs, number_of as reading_number}
use Rattle.pack.specs.Header.{header_of}
use Rattle.pack.specs.declared.counts.Counts.{Counts}
use Rattle.laws.specs.declared.refusal.Refusal.{Refusal}
use Rattle.rows.specs.Types.{fault_of, type_rule}
use Rattle.rows.specs.Definitions.{definition_rule}
use Rattle.rows.specs.Expressions.{expression_rule}
use Rattle.rows.specs.Roots.{root_rule}
use Rattle.rows.specs.Values.{value_rule}
use Rattle.rows.specs.Tables.{row_rule, table_of, rows_of}
use Rattle.trees.specs.Nodes.{test_fault, nodes_of}
use Rattle.trees.specs.declared.node_test.NodeTest.{NodeTest}
use Rattle.trees.specs.declared.node_test.NodeTest.TheVariants.{UsedOnce, LetStated, Shallow}
use Rattle.formed.specs.Formed.{trees_of, body_of, formed_of}
use Rattle.type_cycle.specs.Cycles.{unresolved_of, cycle_of, type_cycles_of}
use Rattle.entries.specs.Numbers.{of_pack, of_types, of_rules, of_root, of_order}
use Rattle.entries.specs.Ready.{ready_to_check, ready_to_order}
use Rattle.entries.specs.Types.{types_answer}

-- a refusal carries one of these numbers
pub record Numbered (numbers : List ℕ) (a : Reading) : Type 0 where
  pub inside : (r : Refusal) → a ≡ Err r → In (number_of r.fault) numbers

-- one number is among these or those
pub among_first : (x : ℕ) (ns ms : List ℕ) → In x ns → In x (ns ++ ms)
among_first x ns ms h = omega (arith, count_append x ns ms)

pub among_last : (x : ℕ) (ns ms : List ℕ) → In x ms → In x (ns ++ ms)
among_last x ns ms h = omega (arith, count_append x ns ms)

pub more_numbers : {ns : List ℕ} (ms : List ℕ) {a : Reading} → Numbered ns a → Numbered (ns ++ ms) a
more_numbers {ns = ns} ms n = record { inside = λ r e. among_first (number_of r.fault) ns ms (n.inside r e) }

module _ {ns : List ℕ} where
  pub of_report : (c : Counts) → Numbered ns (Ok c)
  of_report c = record { inside = λ r e. absurd (fails (ap passes e)) }

  pub of_refusal : (fault : Fault) (place detail : ℕ) → In (number_of fault) ns → Numbered ns (refuse fault place detail)
  of_refusal fault place detail h = record { inside = λ r e. subst (λ x. In x ns) (ap reading_number e) h }

  of_choice : (b : Bool) (x y : Reading) → Numbered ns x → (b ≡ false → Numbered ns y) → Numbered ns (pick b x y)
  unfolding pick
  of_choice true x y n m = n
  of_choice false x y n m = m refl

  pub of_need : (b : Bool) (fault : Fault) (rest : Reading) → In (number_of fault) ns → Numbered ns rest → Numbered ns (needs b fault rest)
  unfolding needs
  of_need b fault rest h n = of_choice b rest (refuse fault 0 0) n (λ f. of_refusal fault 0 0 h)

  pub of_after : (a b : Reading) → Numbered ns a → Numbered ns b → Numbered ns (after passes a b)
  unfolding after
  of_after a b n m = of_choice (passes a) b a m (λ f. n)

  of_walk : (ok : ℕ → Bool) (fault : ℕ → Reading) (none : Reading) → ((k : ℕ) → ok k ≡ false → Numbered ns (fault k)) → Numbered ns none → (n i : ℕ) → Numbered ns (walk ok fault none i n)
  unfolding walk
  of_walk ok fault none f n zero i = n
  of_walk ok fault none f n (suc m) i = of_choice (ok i) (walk ok fault none (suc i) m) (fault i) (of_walk ok fault none f n m (suc i)) (f i)

  pub of_first : (ok : ℕ → Bool) (fault : ℕ → Reading) (none : Reading) (i n : ℕ) → ((k : ℕ) → ok k ≡ false → Numbered ns (fault k)) → Numbered ns none → Numbered ns (first ok fault none i n)
  unfolding first
  of_first ok fault none i n f m = of_walk ok fault none f m (n - i) i

-- ---- the layers

-- 1 to 4
pub header_numbers : (p : List ℕ) → Numbered of_pack (header_of p)
unfolding header_of
header_numbers p =
    of_need _ TooShort _ (lit≤ tt)
    (of_need _ WrongStart _ (lit≤ tt)
    (of_need _ WrongStart _ (lit≤ tt)
    (of_need _ OverLimit _ (lit≤ tt)
    (of_need _ WrongLength _ (lit≤ tt)
    (of_report _)))))

-- 10, 11, 14 of a row, or none
abbrev FoundIn : List ℕ → Option Fault → Type 0
FoundIn ns None = Unit {0}
FoundIn ns (Some fault) = In (number_of fault) ns

fault_number : (known ranged distinct : Bool) → FoundIn of_pack (fault_of known ranged distinct)
unfolding pick
fault_number true true true = tt
fault_number true true false = lit≤ tt
fault_number true false distinct = lit≤ tt
fault_number false ranged distinct = lit≤ tt

row_number : (p : List ℕ) (c : Counts) (table i : ℕ) → FoundIn of_pack (row_rule p c table i)
unfolding row_rule by_kind type_rule definition_rule expression_rule root_rule value_rule
row_number p c zero i = fault_number _ _ _
row_number p c (suc zero) i = fault_number _ _ _
row_number p c (suc (suc zero)) i = fault_number _ _ _
row_number p c (suc (suc (suc zero))) i = fault_number _ _ _
row_number p c (suc (suc (suc (suc zero)))) i = fault_number _ _ _
row_number p c (suc (suc (suc (suc (suc t))))) i = tt

of_faulted : (found : Option Fault) (place detail : ℕ) (c : Counts) → FoundIn of_pack found → Numbered of_pack (faulted found place detail (Ok c))
of_faulted None place detail c h = of_report c
of_faulted (Some fault) place detail c h = of_refusal fault place detail h

pub rows_numbers : (p : List ℕ) (c : Counts) → Numbered of_pack (rows_of p c)
unfolding rows_of table_of
rows_numbers p c =
    of_first _ _ _ 0 5
    (λ table f. of_first _ _ _ 0 _ (λ i g. of_faulted _ i table c (row_number p c table i)) (of_report c))
    (of_report c)

-- 12, 15, 13
node_numbers : (p : List ℕ) (c : Counts) (test : NodeTest) → In (number_of (test_fault test)) of_pack → Numbered of_pack (nodes_of p c test)
unfolding nodes_of
node_numbers p c test h = of_first _ _ _ 0 _ (λ e f. of_refusal (test_fault test) e 0 h) (of_report c)

pub body_numbers : (p : List ℕ) (c : Counts) → Numbered of_pack (body_of p c)
unfolding body_of trees_of
body_numbers p c =
    of_after _ _ (rows_numbers p c)
    (of_after _ _ (node_numbers p c UsedOnce (lit≤ tt)) (of_after _ _ (node_numbers p c LetStated (lit≤ tt)) (node_numbers p c Shallow (lit≤ tt))))

pub formed_numbers : (p : List ℕ) → Numbered of_pack (formed_of p)
unfolding formed_of
formed_numbers p = of_after _ _ (header_numbers p) (body_numbers p _)

-- 40, 41
pub cycle_numbers : (p : List ℕ) (c : Counts) → Numbered (40 ∷ 41 ∷ []) (type_cycles_of p c)
unfolding type_cycles_of unresolved_of cycle_of
cycle_numbers p c =
    of_after _ _
    (of_first _ _ _ 0 _ (λ d f. of_refusal Unresolved d 0 (lit≤ tt)) (of_report c))
    (of_first _ _ _ 0 _ (λ d f. of_refusal TypeCycle d 0 (lit≤ tt)) (of_report c))

-- ---- the entries

pub types_numbers : (p : List ℕ) → Numbered of_types (types_answer p)
unfolding types_answer
types_numbers p =
    of_after _ _
    (more_numbers (40 ∷ 41 ∷ []) (formed_numbers p))
    (record { inside = λ r e. among_last (number_of r.fault) of_pack (40 ∷ 41 ∷ []) ((cycle_numbers p _).inside r e) })

pub ready_root_numbers : (p : List ℕ) (root room : ℕ) → Numbered of_root (ready_to_check p root room)
unfolding ready_to_check
ready_root_numbers p root room =
    of_after _ _
    (more_numbers (5 ∷ 6 ∷ of_rules) (header_numbers p))
    (of_need _ NoSuchRoot _ (lit≤ tt) (of_need _ AreaTooShort _ (lit≤ tt) (more_numbers (5 ∷ 6 ∷ of_rules) (body_numbers p _))))

pub ready_order_numbers : (p : List ℕ) (room : ℕ) → Numbered of_order (ready_to_order p room)
unfolding ready_to_order
ready_order_numbers p room =
    of_after _ _
    (more_numbers (6 ∷ 50 ∷ 51 ∷ 52 ∷ []) (header_numbers p))
    (of_need _ AreaTooShort _ (lit≤ tt) (more_numbers (6 ∷ 50 ∷ 51 ∷ 52 ∷ []) (body_numbers p _)))
