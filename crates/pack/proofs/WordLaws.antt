-- A word from its bytes.
-- Assumes nothing.
use Prim.Native.Nat.{ℕ, ◌+◌, ◌*◌}
use mathlib.Core.List.{List}
use native.Mathlib.Omega.{arith}
use Rattle.laws.specs.Bounded.{Reads}
use Rattle.pack.specs.Read.{byte_at, word_at}

-- two bytes make a word
pub joined : (p : List ℕ) (i : ℕ) {a b : ℕ} → Reads a (byte_at p i) 256 → Reads b (byte_at p (i + 1)) 256 → Reads (a * 256 + b) (word_at p i) 65536
unfolding word_at
joined p i r q = record { same = omega (arith, r.same, q.same); small = omega (arith, r.small, q.small) }
