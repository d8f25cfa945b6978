-- A note: what is recorded of a node while its root is checked. Fields from the highest bit down: seen 1, diverges 1, call 2, code 17.
use Rattle.std.specs.Prelude.{ℕ, ◌+◌, ◌*◌, ◌/◌, ◌%◌, Bool, eqb}
use Rattle.laws.specs.Lists.{bit}
use Rattle.unionfind.specs.Codes.{codes}

-- "expressions x ≤ 4,096"
abbrev pub nodes : ℕ
nodes = 4096

-- "call 2 (1 Prefix new, 2 String append, 3 List concat)"
abbrev pub calls : ℕ
calls = 4

-- where the fields above the code start
abbrev pub call_at : ℕ
call_at = codes

abbrev pub diverges_at : ℕ
diverges_at = 524288

abbrev pub seen_at : ℕ
seen_at = 1048576

unfoldable pub note_of : Bool → ℕ → ℕ → ℕ
note_of diverges call x = seen_at + bit diverges * diverges_at + call % calls * call_at + x % codes

unfoldable pub code_noted : ℕ → ℕ
code_noted note = note % codes

unfoldable pub call_noted : ℕ → ℕ
call_noted note = note / call_at % calls

unfoldable pub diverges_noted : ℕ → Bool
diverges_noted note = eqb (note / diverges_at % 2) 1

unfoldable pub is_seen : ℕ → Bool
is_seen note = eqb (note / seen_at % 2) 1
