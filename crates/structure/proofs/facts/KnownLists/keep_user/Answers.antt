use mathlib.Core.Path.{ap}
use mathlib.Core.List.{List}
use Prim.Native.Nat.{ℕ}
use Rattle.laws.proofs.Bounded.{put_in, put_out}
use Rattle.structure.proofs.facts.KnownLists.keep_user.Goals as goal

pub returns-then-s-lt-SLOTS : goal.returns-then-s-lt-SLOTS
returns-then-s-lt-SLOTS c = ap (λ (us : List ℕ). record c.args.self.now { users = us }) (put_in _ _ _ _ c.if-s-lt-SLOTS.true)

pub returns-else-s-lt-SLOTS : goal.returns-else-s-lt-SLOTS
returns-else-s-lt-SLOTS c = ap (λ (us : List ℕ). record c.args.self.now { users = us }) (put_out _ _ _ _ c.if-s-lt-SLOTS.false)
