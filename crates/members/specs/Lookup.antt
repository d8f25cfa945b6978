-- "Enum items: (name, start of a list of field types). Record items: (name, type).", "5 record, list b of (name, type)" and "6 record of
-- definition a, list b of (name, expression)": all are lists of pairs, looked up by name.
use Rattle.std.specs.Prelude.{ℕ, ◌+◌, ◌*◌, List, Bool, ltb}
use Rattle.pack.specs.Lists.{list_len, list_item, pair_of}
use Rattle.pack.specs.declared.counts.Counts.{Counts}

-- the name of pair k
abbrev pub name_at : List ℕ → Counts → ℕ → ℕ → ℕ
name_at p c list k = list_item p c list (2 * k)

-- whether a pair has that name
unfoldable pub is_member : List ℕ → Counts → ℕ → ℕ → Bool
is_member p c list name = ltb (pair_of p c list name) (list_len p c list)

-- the second word of the first that has it
unfoldable pub member_of : List ℕ → Counts → ℕ → ℕ → ℕ
member_of p c list name = list_item p c list (2 * pair_of p c list name + 1)
