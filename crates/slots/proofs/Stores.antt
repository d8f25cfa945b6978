-- What holds of all that an array holds, and of 0, after a store (put_all).
-- Assumes nothing.
use Prim.Native.Nat.{ℕ, ◌<◌}
use mathlib.Core.Path.{◌≡◌, sym, ap, subst, ◌∙◌}
use mathlib.Core.List.{List}
use lib.ListN.{length, get_or, set, length-set, get_or-eq_default}
use lib.Seq.{get_or-set_same}
use Rattle.laws.specs.Bounded.{get, put}
use Rattle.laws.proofs.Bounded.{get_in, get_out, put_in, get_other, by_bound}
use Rattle.laws.proofs.Choice.{by_eq}
use Rattle.laws.proofs.Members.{by_le}

module _ (Q : ℕ → Type 0) (none : Q 0) (n : ℕ) (xs : List ℕ) (i v : ℕ) (new : Q v) where
  -- what is read where it was stored: what was stored, or nothing
  stored : Q (get n (put n xs i v) i)
  stored =
      by_bound n xs i
      (λ h.
      by_le (length xs) i
      (λ l. subst Q (sym (get_or-eq_default (set xs i v) 0 (rw length-set l)) ∙ read h) none)
      (λ l. subst Q (sym (get_or-set_same xs i v 0 l) ∙ read h) new))
      (λ h. subst Q (get_out n (put n xs i v) i h) none)
    where
      read : i < n → get_or (set xs i v) i 0 ≡ get n (put n xs i v) i
      read h = get_in n (set xs i v) i h ∙ ap (λ (l : List ℕ). get n l i) (put_in n xs i v h)

  pub put_all : ((j : ℕ) → Q (get n xs j)) → (j : ℕ) → Q (get n (put n xs i v) j)
  put_all all j = by_eq j i (λ e. rw e stored) (λ d. rw (get_other n xs i v j d) (all j))
