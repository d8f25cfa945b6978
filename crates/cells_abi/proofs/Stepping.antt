-- An operation of a script, by what the function that it calls answered.
--     made_code, made_none     fresh gave a code, or 37
--     found_step, ref_step_lem     find and find_ref of a variable in use
--     cell_step_lem                what stands in its cell
--     unknown_find, unknown_ref, unknown_cell   of another: 38
--     set_done, set_refused    set was done, or refused
--     past_operations          a number past the others is set's
-- Assumes nothing.
use Prim.Native.Nat.{ℕ, ◌+◌, ◌<◌, ◌≤◌}
use mathlib.Core.Path.{◌≡◌, refl, sym, ap, ◌∙◌}
use mathlib.Core.List.{List}
use lib.Dec.{ltb}
use lib.ListN.{get_or, set}
use borrow.Author.Tests.{lt-ltb, le-ltb}
use Rattle.std.proofs.Common.{Ok, Err}
use Rattle.laws.specs.Faults.{number_of}
use Rattle.laws.proofs.Choice.{yes, no, NoneOf, past_kinds}
use Rattle.laws.specs.declared.refusal.Refusal.{Refusal}
use Rattle.unionfind.specs.Cells.{found, Live}
use Rattle.unionfind.specs.Answers.{Answer, Made, Finds, set_answer, if_done, Sets, fresh_answer, Makes}
use Rattle.unionfind.specs.declared.codes.Kind.{Kind}
use Rattle.unionfind.proofs.States.{done_known, live_compressed, live_set}
use Rattle.cells_abi.specs.Script.{if_made, make_step, find_step, ref_step, cell_step, if_set, set_step, operation_of, Steps}

module _ {n : ℕ} {xs ys : List ℕ} {kind : Kind} {r : Made} (m : Makes n xs kind r ys) where
  pub made_code : {x : ℕ} → r ≡ Ok x → Steps (make_step kind n xs) (record { answer = x; place = 0; len = n + 1 }) ys
  unfolding make_step
  made_code e = record {
    same = ap (if_made n ys) (sym e ∙ m.answer) ∙ ap (λ zs. if_made n zs (fresh_answer n kind)) m.cells;
    live = (rw e at m.live).0;
  }

  pub made_none : {q : Refusal} → r ≡ Err q → Steps (make_step kind n xs) (record { answer = number_of q.fault; place = q.place; len = n }) ys
  unfolding make_step
  made_none e = record {
    same = ap (if_made n ys) (sym e ∙ m.answer) ∙ ap (λ zs. if_made n zs (fresh_answer n kind)) m.cells;
    live = rw e at m.live;
  }

module _ {n : ℕ} {xs : List ℕ} (l : Live n xs) (v : ℕ) where
  pub found_step : {r : ℕ} {ys : List ℕ} → v < n → Finds xs v r ys → Steps (find_step v n xs) (record { answer = r; place = 0; len = n }) ys
  unfolding find_step
  found_step h f = record { same = yes (ltb v n) _ _ (lt-ltb v n h) (rw (f.answer, f.cells) refl); live = rw f.cells (live_compressed l v h) }

  pub ref_step_lem : {r : ℕ} → v < n → r ≡ found xs v → Steps (ref_step v n xs) (record { answer = r; place = 0; len = n }) xs
  unfolding ref_step
  ref_step_lem h e = record { same = yes (ltb v n) _ _ (lt-ltb v n h) (rw e refl); live = l }

  pub cell_step_lem : {r : ℕ} → v < n → r ≡ get_or xs v 0 → Steps (cell_step v n xs) (record { answer = r; place = 0; len = n }) xs
  unfolding cell_step
  cell_step_lem h e = record { same = yes (ltb v n) _ _ (lt-ltb v n h) (rw e refl); live = l }

  pub unknown_cell : n ≤ v → Steps (cell_step v n xs) (record { answer = 38; place = v; len = n }) xs
  unfolding cell_step
  unknown_cell h = record { same = no (ltb v n) _ _ (le-ltb v n h) refl; live = l }

  pub unknown_find : n ≤ v → Steps (find_step v n xs) (record { answer = 38; place = v; len = n }) xs
  unfolding find_step
  unknown_find h = record { same = no (ltb v n) _ _ (le-ltb v n h) refl; live = l }

  pub unknown_ref : n ≤ v → Steps (ref_step v n xs) (record { answer = 38; place = v; len = n }) xs
  unfolding ref_step
  unknown_ref h = record { same = no (ltb v n) _ _ (le-ltb v n h) refl; live = l }

module _ {n : ℕ} {xs ys : List ℕ} (l : Live n xs) {v x : ℕ} {r : Answer} (s : Sets n xs v x r ys) where
  pub set_done : r ≡ Ok _ → Steps (set_step v x n xs) (record { answer = 0; place = 0; len = n }) ys
  unfolding set_step
  set_done e = record {
    same = ap (if_set n ys) (sym e ∙ s.answer) ∙ ap (λ zs. if_set n zs (set_answer n xs v x)) s.cells;
    live = rw s.cells (live_set l v x (record { var = (done_known n xs v x (sym s.answer ∙ e)).target }));
  }

  same_cells : {q : Refusal} → r ≡ Err q → ys ≡ xs
  same_cells e = s.cells ∙ ap (λ a. if_done a (set xs v x) xs) (sym s.answer ∙ e)

  pub set_refused : {q : Refusal} → r ≡ Err q → Steps (set_step v x n xs) (record { answer = number_of q.fault; place = q.place; len = n }) ys
  unfolding set_step
  set_refused e = record {
    same = ap (if_set n ys) (sym e ∙ s.answer) ∙ ap (λ zs. if_set n zs (set_answer n xs v x)) s.cells;
    live = rw (same_cells e) l;
  }

pub past_operations : (op v x n : ℕ) (xs : List ℕ) → NoneOf op 6 → set_step v x n xs ≡ operation_of op v x n xs
unfolding operation_of
past_operations op v x n xs h = past_kinds xs op _ _ h
