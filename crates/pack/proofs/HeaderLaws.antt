-- What a header that was not refused says: the counts are those of the bytes, within their limits, and the length is exact.
-- Assumes nothing.
use Prim.Native.Nat.{ℕ}
use mathlib.Core.Path.{◌≡◌, refl, sym, ap, ◌∙◌}
use mathlib.Core.Bool.{Bool, true, false}
use mathlib.Core.List.{List}
use lib.ListN.{length}
use borrow.Author.Tests.{eqb-true}
use Rattle.laws.specs.Choice.{pick}
use Rattle.laws.proofs.Choice.{fails}
use Rattle.std.proofs.Common.{Ok}
use Rattle.laws.specs.Faults.{passes}
use Rattle.laws.specs.declared.fault.Fault.{Fault}
use Rattle.laws.specs.declared.fault.Fault.TheVariants.{TooShort, WrongStart, OverLimit, WrongLength}
use Rattle.pack.specs.Answer.{Reading, needs}
use Rattle.pack.specs.Counts.{in_limits, size_of}
use Rattle.pack.specs.Header.{counts_of, header_of}
use Rattle.pack.specs.declared.counts.Counts.{Counts}

pub record Headed (p : List ℕ) (c : Counts) : Type 0 where
  pub counts : c ≡ counts_of p
  pub limits : in_limits c ≡ true
  pub exact : length p ≡ size_of c

-- a test that was passed
pub kept : (b : Bool) (fault : Fault) (rest : Reading) → passes (needs b fault rest) ≡ true → (b ≡ true) × (needs b fault rest ≡ rest)
unfolding needs pick
kept true fault rest e = (refl, refl)
kept false fault rest e = absurd (fails (sym e))

-- a header that passes: its answer, and what that says
pub header_passed : (p : List ℕ) → passes (header_of p) ≡ true → (header_of p ≡ Ok (counts_of p)) × Headed p (counts_of p)
unfolding header_of
header_passed p t =
    let long = kept _ TooShort _ t in
    let named = kept _ WrongStart _ (ap passes (sym long.1) ∙ t) in
    let edition = kept _ WrongStart _ (ap passes (sym named.1) ∙ ap passes (sym long.1) ∙ t) in
    let so_far = long.1 ∙ named.1 ∙ edition.1 in
    let limited = kept _ OverLimit _ (ap passes (sym so_far) ∙ t) in
    let exact = kept _ WrongLength _ (ap passes (sym (so_far ∙ limited.1)) ∙ t) in
    (so_far ∙ limited.1 ∙ exact.1, record { counts = refl; limits = limited.0; exact = eqb-true _ _ exact.0 })

pub pack_same : {x y : Counts} → ◌≡◌ {A = Reading} (Ok x) (Ok y) → x ≡ y
pack_same q = cc

pub header_is : (p : List ℕ) (c : Counts) → header_of p ≡ Ok c → Headed p c
header_is p c e =
    let h = header_passed p (ap passes e) in
    let same : c ≡ counts_of p = pack_same (sym e ∙ h.0) in
    rw same h.1
