-- What resolving a type keeps.
--     resolves          the rest of resolve_type's contract, from the answer
--     resolved_same     to resolve one side changes nothing of the other
--     resolved_unset    a resolved side that is a variable is unset, also after the other is resolved
-- Assumes nothing.
use mathlib.Core.Path.{◌≡◌, refl, sym, ◌∙◌}
use mathlib.Core.List.{List}
use mathlib.Core.Bool.{true, false}
use Prim.Native.Nat.{ℕ, ◌<◌}
use native.Mathlib.Omega.{arith}
use Rattle.laws.proofs.Choice.{yes, no, by_test}
use Rattle.unionfind.specs.Codes.{number, is_var}
use Rattle.unionfind.specs.Cells.{capacity, found, compressed, Kept, Knows, Live}
use Rattle.unionfind.specs.Answers.{Finds}
use Rattle.unionfind.proofs.Chains.{not_both}
use Rattle.unionfind.proofs.Stores.{Unset, found_unset, compressed_kept}
use Rattle.unionfind.proofs.States.{found_live, live_compressed}
use Rattle.unify.specs.Unify.{resolve_of, settled, Resolves}

-- of a variable, and of any other type
module _ (xs : List ℕ) (x : ℕ) where
  pub resolve_var : is_var x ≡ true → found xs (number x) ≡ resolve_of xs x
  unfolding resolve_of
  resolve_var e = yes _ _ _ e refl

  pub resolve_other : is_var x ≡ false → x ≡ resolve_of xs x
  unfolding resolve_of
  resolve_other e = no _ _ _ e refl

  pub settle_var : is_var x ≡ true → compressed xs (number x) ≡ settled xs x
  unfolding settled
  settle_var e = yes _ _ _ e refl

  pub settle_other : is_var x ≡ false → xs ≡ settled xs x
  unfolding settled
  settle_other e = no _ _ _ e refl

-- where a variable in use has its cell
pub cell_below : {n : ℕ} {xs : List ℕ} → Live n xs → {x : ℕ} → Knows n x → is_var x ≡ true → number x < capacity
cell_below l k e = omega (arith, l.room, k.var e)

module _ {n : ℕ} {xs : List ℕ} (l : Live n xs) {x : ℕ} (k : Knows n x) where
  pub resolves : Resolves n xs x (resolve_of xs x) (settled xs x)
  resolves =
      by_test (is_var x)
      (λ e.
      rw (← resolve_var xs x e, ← settle_var xs x e)
      (record {
        answer = resolve_var xs x e;
        cells = settle_var xs x e;
        live = live_compressed l (number x) (k.var e);
        known = found_live l (Knows n) l.known (number x) (k.var e);
        kept = compressed_kept l.loopfree (number x) (cell_below l k e);
      }))
      (λ e.
      rw (← resolve_other xs x e, ← settle_other xs x e)
      (record {
        answer = resolve_other xs x e;
        cells = settle_other xs x e;
        live = l;
        known = k;
        kept = record { loopfree = l.loopfree; same = λ u h. refl };
      }))

  -- the answer of find, where x is a variable
  pub from_find : is_var x ≡ true → {v r : ℕ} {ys : List ℕ} → v ≡ number x → Finds xs v r ys → Resolves n xs x r ys
  from_find e q f =
      let r' = rw q at f.answer ∙ resolve_var xs x e in
      let y' = rw q at f.cells ∙ settle_var xs x e in
      rw (r', y') resolves

  pub from_itself : is_var x ≡ false → Resolves n xs x x xs
  from_itself e = rw (← resolve_other xs x e, ← settle_other xs x e) at resolves

  -- cells that keep what is found keep what is resolved
  pub resolved_same : {ys : List ℕ} → Kept xs ys → resolve_of ys x ≡ resolve_of xs x
  resolved_same {ys = ys} kept =
      by_test (is_var x)
      (λ e. sym (resolve_var ys x e) ∙ kept.same (number x) (cell_below l k e) ∙ resolve_var xs x e)
      (λ e. sym (resolve_other ys x e) ∙ resolve_other xs x e)

  -- a resolved side that is a variable is unset
  pub resolved_unset : {ys : List ℕ} → Kept xs ys → is_var (resolve_of xs x) ≡ true → Unset ys (resolve_of xs x)
  resolved_unset {ys = ys} kept p =
      by_test (is_var x)
      (λ e.
      let r : found ys (number x) ≡ resolve_of xs x = kept.same (number x) (cell_below l k e) ∙ resolve_var xs x e in
      rw r at (found_unset kept.loopfree (number x) (cell_below l k e) (rw r p)))
      (λ e. absurd (not_both (rw (resolve_other xs x e) at e) p))

-- one side after the other
pub kept_both : {xs ys zs : List ℕ} → Kept xs ys → Kept ys zs → Kept xs zs
kept_both p q = record { loopfree = q.loopfree; same = λ u h. q.same u h ∙ p.same u h }
