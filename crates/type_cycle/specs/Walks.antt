-- What 40 and 41 speak of, as relations: a type held through records, one step of names, and a walk of one or more steps.
-- proofs/Promises.antt says how the definitions that compute agree with them.
use Rattle.std.specs.Prelude.{ℕ, ◌<◌, ◌≤◌, ◌≡◌, List}
use Rattle.laws.specs.declared.fault.Fault.TheVariants as fault
use Rattle.std.specs.Prelude.{Ok}
use Rattle.laws.specs.Lists.{In}
use Rattle.pack.specs.Answer.{Reading, refuse}
use Rattle.pack.specs.Rows.{type_row}
use Rattle.pack.specs.Named.{parts_of, field_types_of}
use Rattle.pack.specs.declared.counts.Counts.{Counts}

-- t holds u: it is u, or a record with a part that holds u
pub data Held (p : List ℕ) (c : Counts) : ℕ → ℕ → Type 0 where
  itself : {t : ℕ} → Held p c t t
  part : {t v u : ℕ} → (type_row p t).kind ≡ 5 → In v (parts_of p c t) → Held p c v u → Held p c t u

-- a field of d holds a named type of definition e
pub record Step (p : List ℕ) (c : Counts) (d e : ℕ) : Type 0 where
  pub field_type : ℕ
  pub in_fields : In field_type (field_types_of p c d)
  pub row : ℕ
  pub held : Held p c field_type row
  pub kind : (type_row p row).kind ≡ 4
  pub is : (type_row p row).a ≡ e

pub data Walk (p : List ℕ) (c : Counts) : ℕ → ℕ → Type 0 where
  one : {d e : ℕ} → Step p c d e → Walk p c d e
  more : {d m e : ℕ} → Step p c d m → Walk p c m e → Walk p c d e

-- a field of d holds a variable
pub record Unresolved (p : List ℕ) (c : Counts) (d : ℕ) : Type 0 where
  pub field_type : ℕ
  pub in_fields : In field_type (field_types_of p c d)
  pub row : ℕ
  pub held : Held p c field_type row
  pub low : 7 ≤ (type_row p row).kind
  pub high : (type_row p row).kind ≤ 10

-- d is the smallest definition of which something holds
pub record First (c : Counts) (P : ℕ → Type 0) (d : ℕ) : Type 0 where
  pub inside : d < c.definitions
  pub holds : P d
  pub smallest : (e : ℕ) → e < d → P e → ⊥

-- of no definition does it hold
pub record None (c : Counts) (P : ℕ → Type 0) : Type 0 where
  pub never : (d : ℕ) → d < c.definitions → P d → ⊥

-- what module 3 answers: 40 at the smallest definition with a variable in a field; else 41 at the smallest that has a walk to itself; else the counts
pub data Says (p : List ℕ) (c : Counts) (r : Reading) : Type 0 where
  unresolved : (d : ℕ) → First c (Unresolved p c) d → r ≡ refuse fault.Unresolved d 0 → Says p c r
  cyclic : (d : ℕ) → None c (Unresolved p c) → First c (λ e. Walk p c e e) d → r ≡ refuse fault.TypeCycle d 0 → Says p c r
  neither : None c (Unresolved p c) → None c (λ e. Walk p c e e) → r ≡ Ok c → Says p c r
