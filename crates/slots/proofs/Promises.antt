-- What slots promise whatever is opened and closed.
--     slots_none    what holds of 0 holds of all slots of a root that is not begun
--     slots_all     what holds of the codes of all slots, and of 0, still does after a store of one of which it holds
--     opened_all, open_list_all, open_pairs_all     and so after slots are opened with codes of which it holds
--     close_list_all, close_lets_all                and after slots are closed
--     closed_bound  a slot that was closed can't be bound again
-- Two results that meet one contract are equal: openings_one.
-- Assumes nothing.
use Prim.Native.Nat.{ℕ, zero, suc, ◌+◌, ◌-◌, ◌*◌, ◌<◌, ◌≤◌}
use mathlib.Core.Path.{◌≡◌, sym, ◌∙◌}
use mathlib.Core.Bool.{false}
use mathlib.Core.List.{List, [], ◌∷◌}
use native.Mathlib.Omega.{arith}
use lib.ListN.{replicate}
use borrow.Author.Tests.{ne_eqb}
use Rattle.laws.proofs.Choice.{pick_all}
use Rattle.laws.specs.Bounded.{get, put}
use Rattle.pack.specs.Lists.{list_len, list_item}
use Rattle.pack.specs.declared.counts.Counts.{Counts}
use Rattle.structure.specs.Types.{code_in}
use Rattle.structure.proofs.Arrays.{zeros_get}
use Rattle.slots.specs.Slots.{slots, closed, open_with, unbound, opened, Opening, open_all, open_list, open_pairs, shut, close_list, close_lets}
use Rattle.slots.proofs.Stores.{put_all}

-- the codes of all slots; a slot that is not open counts as 0
abbrev pub AllSlots : (ℕ → Type 0) → List ℕ → Type 0
AllSlots P xs = (i : ℕ) → P (get slots xs i - 2)

module _ (P : ℕ → Type 0) (none : P 0) where
  pub slots_none : AllSlots P (replicate slots 0)
  slots_none i = rw (zeros_get slots i) none

  pub slots_all : (xs : List ℕ) (a v : ℕ) → P (v - 2) → AllSlots P xs → AllSlots P (put slots xs a v)
  slots_all xs a v q all = put_all (λ (x : ℕ). P (x - 2)) none slots xs a v q all

  -- ---- opening

  stored_all : (xs : List ℕ) (a code : ℕ) → P code → AllSlots P xs → AllSlots P (put slots xs a (open_with code))
  stored_all xs a code q all = let e : open_with code - 2 ≡ code = omega arith in slots_all xs a (open_with code) (rw e q) all

  pub opened_all : (xs : List ℕ) (a code : ℕ) → P code → AllSlots P xs → AllSlots P (opened xs a code)
  unfolding opened
  opened_all xs a code q all = pick_all (AllSlots P) (unbound xs a) (stored_all xs a code q all) all

  open_all_lem : (slot_at code_at : ℕ → ℕ) (n k : ℕ) → ((j : ℕ) → k ≤ j → j < k + n → P (code_at j)) → (xs : List ℕ) → AllSlots P xs → AllSlots P (open_all slot_at code_at k n xs).slots
  unfolding open_all
  open_all_lem slot_at code_at zero k q xs all = all
  open_all_lem slot_at code_at (suc n) k q xs all =
      pick_all (λ (o : Opening). AllSlots P o.slots) (unbound xs (slot_at k))
      (open_all_lem slot_at code_at n (suc k) (λ j l h. q j (omega arith) (omega arith)) (put slots xs (slot_at k) (open_with (code_at k)))
      (stored_all xs (slot_at k) (code_at k) (q k (omega arith) (omega arith)) all))
      all

  module _ (p : List ℕ) (c : Counts) (same : List ℕ) (list : ℕ) (xs : List ℕ) (all : AllSlots P xs) where
    pub open_list_all : (fields : ℕ) → ((k : ℕ) → k < list_len p c list → P (code_in p c same (list_item p c fields k))) → AllSlots P (open_list p c same list fields xs).slots
    unfolding open_list
    open_list_all fields q = open_all_lem (λ k. list_item p c list k) (λ k. code_in p c same (list_item p c fields k)) (list_len p c list) 0 (λ k l h. q k (omega arith)) xs all

    pub open_pairs_all : ((k : ℕ) → k < list_len p c list → P (code_in p c same (list_item p c list (2 * k + 1)))) → AllSlots P (open_pairs p c same list xs).slots
    unfolding open_pairs
    open_pairs_all q = open_all_lem (λ k. list_item p c list (2 * k)) (λ k. code_in p c same (list_item p c list (2 * k + 1))) (list_len p c list) 0 (λ k l h. q k (omega arith)) xs all

  -- ---- closing

  shut_all : (list xs : List ℕ) → AllSlots P xs → AllSlots P (shut xs list)
  unfolding shut
  shut_all [] xs all = all
  shut_all (a ∷ list) xs all = shut_all list (put slots xs a closed) (slots_all xs a closed none all)

  module _ (p : List ℕ) (c : Counts) (list : ℕ) (xs : List ℕ) (all : AllSlots P xs) where
    pub close_list_all : AllSlots P (close_list p c list xs)
    unfolding close_list
    close_list_all = shut_all _ xs all

    pub close_lets_all : AllSlots P (close_lets p c list xs)
    unfolding close_lets
    close_lets_all = shut_all _ xs all

-- "34: slot bound before in this root": closed or not
pub closed_bound : (xs : List ℕ) (a : ℕ) → get slots xs a ≡ closed → unbound xs a ≡ false
closed_bound xs a e = ne_eqb (get slots xs a) 0 (λ q. omega arith)

pub openings_one : (w o q : Opening) → o ≡ w → q ≡ w → o ≡ q
openings_one w o q e f = e ∙ sym f
