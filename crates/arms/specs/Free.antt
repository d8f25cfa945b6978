-- What an arm without a guard covers by name: so that the arms of one name can be asked for.
use Rattle.std.specs.Prelude.{List, Bool, ◌&&◌, ℕ, ◌+◌, ◌*◌, ◌%◌, eqb}
use Rattle.pack.specs.Lists.{list_item}
use Rattle.pack.specs.declared.counts.Counts.{Counts}

-- arm j has no guard, and its first word is x
abbrev pub arm_has : List ℕ → Counts → ℕ → ℕ → ℕ → Bool
arm_has p c arms x j = eqb (list_item p c arms (4 * j + 2)) 0 && eqb (list_item p c arms (4 * j)) x

-- item 2k is the first word of an arm, which has no guard
unfoldable pub is_free : List ℕ → Counts → ℕ → ℕ → Bool
is_free p c arms k = eqb (k % 2) 0 && eqb (list_item p c arms (2 * k + 2)) 0
