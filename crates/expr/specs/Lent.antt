-- What the rules of module 4 are lent as structs, in the words of the rules: for the contracts of the functions below `check_root`.
use Rattle.std.specs.Prelude.{◌≡◌, ℕ}
use Rattle.expr.specs.State.{Env, State, Ans, Step, env, st}
use Rattle.expr.specs.Ready.{Ran}
use Rattle.expr.specs.declared.state.Env.{Env as Lent}
use Rattle.expr.specs.declared.state.State.{State as Changed}

-- what every rule may read
abbrev pub env_of : Lent → Env
env_of e = env e.pack.now e.counts e.same.now e.marks.now e.ret

-- what they change
abbrev pub state_of : Changed → State
state_of s = st s.cells.now s.slots.now s.notes.now

-- the answer of a rule's function, and what it leaves in the tables
abbrev pub Leaves : ℕ → Ans → Step → Changed → Type 0
Leaves vars a r s = Ran vars a r s.cells.now s.slots.now s.notes.now

-- the tables are still those that were lent
pub record SameLoans (before after : Changed) : Type 0 where
  pub cells : after.cells.ghost_name ≡ before.cells.ghost_name
  pub slots : after.slots.ghost_name ≡ before.slots.ghost_name
  pub notes : after.notes.ghost_name ≡ before.notes.ghost_name
