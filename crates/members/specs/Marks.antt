-- "35: annotation, parameter, return or used field type holds kind 7 to 10 anywhere in its rows": the table of structures marks such rows.
use Rattle.std.specs.Prelude.{ℕ, ◌+◌, ◌*◌, List, Bool, not, eqb}
use Rattle.pack.specs.Lists.{list_len, list_item}
use Rattle.pack.specs.declared.counts.Counts.{Counts}
use Rattle.structure.specs.Table.{entry}
use Rattle.members.specs.Places.{any}

-- type row i holds a variable
unfoldable pub is_marked : List ℕ → ℕ → Bool
is_marked marks i = not (eqb (entry marks i) 0)

-- one of a list of types does
unfoldable pub any_marked : List ℕ → Counts → List ℕ → ℕ → Bool
any_marked p c marks list = any (λ k. is_marked marks (list_item p c list k)) (list_len p c list)

-- one of the types of a list of (name, type) does
unfoldable pub any_field_marked : List ℕ → Counts → List ℕ → ℕ → Bool
any_field_marked p c marks list = any (λ k. is_marked marks (list_item p c list (2 * k + 1))) (list_len p c list)
