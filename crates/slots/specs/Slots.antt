-- Slots: "34: slot bound before in this root". "Let: 35, value, then its slot opens to the block's end." "35, then slots open for guard and
-- body". "Root first: 35 over parameters and return type, then 34." A slot holds 0 where it was never bound in this root, 1 where it is
-- closed, and 2 more than the code of its type while it is open.
use Rattle.std.specs.Prelude.{ℕ, zero, suc, ◌+◌, ◌*◌, Bool, true, false, List, [], ◌∷◌, eqb}
use Rattle.laws.specs.Choice.{pick}
use Rattle.laws.specs.Bounded.{get, put}
use Rattle.laws.specs.Lists.{gather}
use Rattle.pack.specs.Rows.{expression_row}
use Rattle.pack.specs.Lists.{list_len, list_item}
use Rattle.pack.specs.Named.{items_of}
use Rattle.pack.specs.declared.counts.Counts.{Counts}
use Rattle.structure.specs.Types.{code_in}

-- "Slots are 0 to 255."
abbrev pub slots : ℕ
slots = 256

abbrev pub closed : ℕ
closed = 1

abbrev pub open_with : ℕ → ℕ
open_with code = 2 + code

-- ---- opening

-- not bound before in this root, be it closed or not
abbrev pub unbound : List ℕ → ℕ → Bool
unbound xs a = eqb (get slots xs a) 0

unfoldable pub opened : List ℕ → ℕ → ℕ → List ℕ
opened xs a code = pick (unbound xs a) (put slots xs a (open_with code)) xs

-- whether all slots were opened, and the slots after it
pub record Opening : Type 0 where
  pub ok : Bool
  pub slots : List ℕ

abbrev pub opening : Bool → List ℕ → Opening
opening ok xs = record { ok = ok; slots = xs }

-- the n slots from the k-th on, one after the other, up to the first that was bound before (the `let` keeps a computation from going past it)
unfoldable pub open_all : (ℕ → ℕ) → (ℕ → ℕ) → ℕ → ℕ → List ℕ → Opening
open_all slot_at code_at k zero xs = opening true xs
open_all slot_at code_at k (suc n) xs =
    let rest = open_all slot_at code_at (suc k) n (put slots xs (slot_at k) (open_with (code_at k))) in
    pick (unbound xs (slot_at k)) rest (opening false xs)

-- the slots at each `step` items of a list, each with the type `first` items further on in a list of types
abbrev pub open_each : ℕ → ℕ → List ℕ → Counts → List ℕ → ℕ → ℕ → List ℕ → Opening
open_each step first p c same list fields xs =
    open_all (λ k. list_item p c list (step * k)) (λ k. code_in p c same (list_item p c fields (step * k + first))) 0 (list_len p c list) xs

-- a slot list beside a list of field types
unfoldable pub open_list : List ℕ → Counts → List ℕ → ℕ → ℕ → List ℕ → Opening
open_list p c same list fields xs = open_all (λ k. list_item p c list k) (λ k. code_in p c same (list_item p c fields k)) 0 (list_len p c list) xs

-- "Root: .. list of (slot, type)"
unfoldable pub open_pairs : List ℕ → Counts → List ℕ → ℕ → List ℕ → Opening
open_pairs p c same list xs = open_all (λ k. list_item p c list (2 * k)) (λ k. code_in p c same (list_item p c list (2 * k + 1))) 0 (list_len p c list) xs

-- ---- closing

-- each slot of a list closed
unfoldable pub shut : List ℕ → List ℕ → List ℕ
shut xs [] = xs
shut xs (a ∷ list) = shut (put slots xs a closed) list

unfoldable pub close_list : List ℕ → Counts → ℕ → List ℕ → List ℕ
close_list p c list xs = shut xs (items_of p c list)

-- "3 let: slot a": the slot of a statement that is a let, else none
unfoldable pub let_slot : List ℕ → Counts → ℕ → List ℕ
let_slot p c e = pick (eqb (expression_row p c e).kind 3) ((expression_row p c e).a ∷ []) []

unfoldable pub close_lets : List ℕ → Counts → ℕ → List ℕ → List ℕ
close_lets p c list xs = shut xs (gather (λ k. let_slot p c (list_item p c list k)) 0 (list_len p c list))
