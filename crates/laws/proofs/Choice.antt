-- The laws of a choice and of a named value: each takes one of them off the right side of a goal.
--     yes, no      a choice whose test is known
--     lets         a value that is named
--     pick_all     what holds of both sides of a choice
--     past_kinds   a kind past all rules
--     by_eq        two numbers are equal or not
--     by_test      a test holds or fails
--     tested       a fault that was not given: the test held, and what follows gave none either
--     fails        no test both holds and fails
--     and_both     a conjunction that holds
-- Assumes nothing.
use Prim.Native.Nat.{ℕ, zero, suc, ◌≤◌}
use mathlib.Core.Path.{◌≡◌, refl, ap, sym}
use mathlib.Core.Bool.{Bool, true, false, ◌&&◌}
use mathlib.Core.List.{List}
use native.Mathlib.Omega.{arith}
use lib.Dec.{eqb}
use lib.ListN.{length, get_or-eq_default}
use borrow.Author.Tests.{eqb-true, eqb-false}
use Rattle.std.proofs.Common.{Option, Some, None}
use Rattle.laws.specs.Faults.{clean}
use Rattle.laws.specs.declared.fault.Fault.{Fault}
use Rattle.laws.specs.Choice.{pick, letting, by_kind}

pub yes : {A : Type 0} {z : A} (b : Bool) (x y : A) → b ≡ true → z ≡ x → z ≡ pick b x y
unfolding pick
yes b x y t e = rw t e

pub no : {A : Type 0} {z : A} (b : Bool) (x y : A) → b ≡ false → z ≡ y → z ≡ pick b x y
unfolding pick
no b x y f e = rw f e

pub pick_all : {A : Type 0} (Q : A → Type 0) (b : Bool) {x y : A} → Q x → Q y → Q (pick b x y)
unfolding pick
pick_all Q true p q = p
pick_all Q false p q = q

pub lets : {A B : Type 0} {x y : A} {z : B} (k : A → B) → x ≡ y → z ≡ k x → z ≡ letting y k
unfolding letting
lets {z = z} k e q = rw (← e) q

-- k is none of 0 .. n - 1, as the last arm of a `match` has it
abbrev pub NoneOf : ℕ → ℕ → Type 0
NoneOf k zero = Unit {0}
NoneOf k (suc n) = NoneOf k n × (k ≡ n → ⊥)

pub past : (k n : ℕ) → NoneOf k n → n ≤ k
past k zero r = omega arith
past k (suc n) r = omega (arith, past k n r.0, r.1)

pub past_kinds : {R A : Type 0} (r : R) (kind : ℕ) (other : A) (rules : List (R → A)) → NoneOf kind (length rules) → other ≡ by_kind r kind other rules
unfolding by_kind
past_kinds r kind other rules h = ap (λ f. f r) (sym (get_or-eq_default rules (λ x. other) (past kind (length rules) h)))

pub by_test : (b : Bool) {P : Type 0} → (b ≡ true → P) → (b ≡ false → P) → P
by_test true y n = y refl
by_test false y n = n refl

pub by_eq : (a b : ℕ) {P : Type 0} → (a ≡ b → P) → ((a ≡ b → ⊥) → P) → P
by_eq a b y n = by_test (eqb a b) (λ t. y (eqb-true a b t)) (λ f. n (eqb-false a b f))

pub fails : true ≡ false → ⊥
fails q = let w : ◌≡◌ {A = ℕ} (told true) (told false) = ap told q in omega arith
  where
    told : Bool → ℕ
    told true = 1
    told false = 0

pub tested : (b : Bool) (rest : Option Fault) (fault : Fault) → pick b rest (Some fault) ≡ None → (b ≡ true) × (rest ≡ None)
unfolding pick
tested true rest fault e = (refl, e)
tested false rest fault e = absurd (fails (sym (ap clean e)))

-- a fault is not none
pub some_none : {fault : Fault} → Some fault ≡ None → ⊥
some_none e = fails (sym (ap clean e))

pub and_both : (a b : Bool) → (a && b) ≡ true → (a ≡ true) × (b ≡ true)
and_both true b e = (refl, e)
and_both false b e = (e, absurd (fails (sym e)))
