-- The children of an expression by their places, in checking order: each place has one child or none.
use Rattle.std.specs.Prelude.{ℕ, zero, suc, ◌+◌, ◌*◌, ◌/◌, ◌%◌, List, [], ◌∷◌, eqb, ltb}
use Rattle.laws.specs.Choice.{pick, by_kind}
use Rattle.pack.specs.Lists.{list_len, list_item}
use Rattle.pack.specs.Named.{optional}
use Rattle.pack.specs.declared.counts.Counts.{Counts}
use Rattle.pack.specs.declared.rows.ExpressionRow.{ExpressionRow}

-- more places than a row has: a list has fewer than 65,536 items, and an arm two children
abbrev pub most : ℕ
most = 131072

-- "2 block: statement list a, b = last+1 or 0"
unfoldable pub block_kid : List ℕ → Counts → ℕ → ℕ → ℕ → List ℕ
block_kid p c list last k = pick (ltb k (list_len p c list)) (list_item p c list k ∷ []) (optional last)

-- "4 match: examinee a, arm list b; an arm is four words: .. guard+1 or 0, body"
unfoldable pub arm_kid : List ℕ → Counts → ℕ → ℕ → ℕ → List ℕ
arm_kid p c examinee arms zero = examinee ∷ []
arm_kid p c examinee arms (suc j) =
    pick (eqb (j % 2) 0) (optional (list_item p c arms (4 * (j / 2) + 2))) (list_item p c arms (4 * (j / 2) + 3) ∷ [])

unfoldable pub first_or : ℕ → ℕ → ℕ → ℕ
first_or first second k = pick (eqb k 0) first second

-- the child at place k
unfoldable pub kid_at : List ℕ → Counts → ExpressionRow → ℕ → List ℕ
kid_at p c r k =
    by_kind r r.kind []
    ((λ r. [])
    ∷ (λ r. [])
    ∷ (λ r. block_kid p c r.a r.b k)
    ∷ (λ r. r.b ∷ [])
    ∷ (λ r. arm_kid p c r.a r.b k)
    ∷ (λ r. first_or r.a r.b k ∷ [])
    ∷ (λ r. list_item p c r.b (2 * k + 1) ∷ [])
    ∷ (λ r. r.a ∷ [])
    ∷ (λ r. optional r.a)
    ∷ [])

-- how many places a row has
unfoldable pub kids_room : List ℕ → Counts → ExpressionRow → ℕ
kids_room p c r =
    by_kind r r.kind 0
    ((λ r. 0)
    ∷ (λ r. 0)
    ∷ (λ r. list_len p c r.a + 1)
    ∷ (λ r. 1)
    ∷ (λ r. 2 * list_len p c r.b + 1)
    ∷ (λ r. 2)
    ∷ (λ r. list_len p c r.b)
    ∷ (λ r. 1)
    ∷ (λ r. 1)
    ∷ [])
