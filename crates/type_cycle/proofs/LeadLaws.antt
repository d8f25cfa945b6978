-- What a definition leads to, in the words of its definition and in those of the search.
--     over_in, in_over       what a function says of a list's members
--     none_true, none_false, some_such   no member is such, or one is
--     row_ahead_lem              where a type's row leads
--     inside_held, held_inside   what is inside a type is what it holds
--     held_path              and is reached from it
--     path_variable          a path to the variable past no definition: a variable is held
-- Assumes nothing.
use Prim.Native.Nat.{ℕ, zero, suc, ◌<◌, ◌≤◌}
use mathlib.Core.Path.{◌≡◌, refl, sym, ap, ◌∙◌}
use mathlib.Core.Logic.{◌⊎◌, inl, inr, ⊎_elim}
use mathlib.Core.Bool.{Bool, true, false}
use mathlib.Core.List.{List, [], ◌∷◌}
use native.Mathlib.Omega.{arith}
use lib.Dec.{leb}
use lib.ListN.{get_or}
use borrow.Author.Tests.{eq-eqb, eqb-true, leb-true, le-leb}
use Rattle.laws.specs.Choice.{pick, by_kind}
use Rattle.laws.specs.Lists.{In}
use Rattle.laws.proofs.Choice.{yes, no, by_test, fails, and_both}
use Rattle.laws.proofs.Lists.{in_cons, in_one, in_append}
use Rattle.pack.specs.Rows.{type_row}
use Rattle.pack.specs.Named.{seconds_of, type_parts_of, parts_of}
use Rattle.pack.specs.declared.counts.Counts.{Counts}
use Rattle.pack.specs.declared.rows.TypeRow.{TypeRow}
use Rattle.type_cycle.specs.Leads.{over, none_of, is_record, is_variable, inside}
use Rattle.type_cycle.specs.Walks.{Held, itself, part}
use Rattle.type_cycle.specs.Graph.{at_name, unresolved, row_ahead, ahead, Path, here, on, Reach}
use Rattle.type_cycle.specs.Order.{Good}
use Rattle.type_cycle.proofs.VisitLaws.{unmet, in_first, in_rest, in_left, in_right}
use Rattle.type_cycle.proofs.StepLaws.{type_ahead}

-- ---- lists

pub in_over : (y x : ℕ) (f : ℕ → List ℕ) (xs : List ℕ) → In x xs → In y (f x) → In y (over f xs)
unfolding over
in_over y x f [] i j = absurd (omega arith)
in_over y x f (z ∷ xs) i j =
    ⊎_elim
    (λ e. in_left y (f z) (over f xs) (rw e at j))
    (λ k. in_right y (f z) (over f xs) (in_over y x f xs k j))
    (in_cons x z xs i)

pub over_in : (y : ℕ) (f : ℕ → List ℕ) (xs : List ℕ) → In y (over f xs) → (x : ℕ) × In x xs × In y (f x)
unfolding over
over_in y f [] i = absurd (omega arith)
over_in y f (z ∷ xs) i =
    ⊎_elim
    (λ j. (z, in_first z xs, j))
    (λ j. let r = over_in y f xs j in (r.0, in_rest r.0 z xs r.1, r.2))
    (in_append y (f z) (over f xs) i)

pub none_true : (such : ℕ → Bool) (xs : List ℕ) → ((x : ℕ) → In x xs → such x ≡ false) → none_of such xs ≡ true
unfolding none_of
none_true such [] f = refl
none_true such (x ∷ xs) f = sym (no (such x) false (none_of such xs) (f x (in_first x xs)) (sym (none_true such xs (λ y i. f y (in_rest y x xs i)))))

pub none_false : (such : ℕ → Bool) (xs : List ℕ) (x : ℕ) → In x xs → such x ≡ true → none_of such xs ≡ false
unfolding none_of
none_false such [] x i e = absurd (omega arith)
none_false such (y ∷ xs) x i e =
    ⊎_elim
    (λ q. sym (yes (such y) false (none_of such xs) (ap such (sym q) ∙ e) refl))
    (λ j.
    by_test (such y)
    (λ t. sym (yes (such y) false (none_of such xs) t refl))
    (λ t. sym (no (such y) false (none_of such xs) t (sym (none_false such xs x j e)))))
    (in_cons x y xs i)

pub some_such : (such : ℕ → Bool) (xs : List ℕ) → none_of such xs ≡ false → (x : ℕ) × In x xs × (such x ≡ true)
unfolding none_of
some_such such [] e = absurd (fails e)
some_such such (x ∷ xs) e =
    by_test (such x)
    (λ t. (x, in_first x xs, t))
    (λ t. let r = some_such such xs (no (such x) false (none_of such xs) t refl ∙ e) in (r.0, in_rest r.0 x xs r.1, r.2))

-- ---- where a row leads

pub data Leading (p : List ℕ) (c : Counts) (r : TypeRow) (z : ℕ) : Type 0 where
  to_name : r.kind ≡ 4 → z ≡ at_name r.a → Leading p c r z
  to_part : r.kind ≡ 5 → In z (seconds_of p c r.b) → Leading p c r z
  to_variable : 7 ≤ r.kind → r.kind ≤ 10 → z ≡ unresolved → Leading p c r z

abbrev row_of : ℕ → ℕ → ℕ → TypeRow
row_of kind a b = record { kind = kind; a = a; b = b }

leading : (p : List ℕ) (c : Counts) (z kind a b : ℕ) → In z (row_ahead p c (row_of kind a b)) → Leading p c (row_of kind a b) z
unfolding row_ahead by_kind
leading p c z zero a b i = absurd (omega arith)
leading p c z (suc zero) a b i = absurd (omega arith)
leading p c z (suc (suc zero)) a b i = absurd (omega arith)
leading p c z (suc (suc (suc zero))) a b i = absurd (omega arith)
leading p c z (suc (suc (suc (suc zero)))) a b i = to_name refl (in_one z (at_name a) i)
leading p c z (suc (suc (suc (suc (suc zero))))) a b i = to_part refl i
leading p c z (suc (suc (suc (suc (suc (suc zero)))))) a b i = absurd (omega arith)
leading p c z (suc (suc (suc (suc (suc (suc (suc zero))))))) a b i = to_variable (omega arith) (omega arith) (in_one z unresolved i)
leading p c z (suc (suc (suc (suc (suc (suc (suc (suc zero)))))))) a b i = to_variable (omega arith) (omega arith) (in_one z unresolved i)
leading p c z (suc (suc (suc (suc (suc (suc (suc (suc (suc zero))))))))) a b i = to_variable (omega arith) (omega arith) (in_one z unresolved i)
leading p c z (suc (suc (suc (suc (suc (suc (suc (suc (suc (suc zero)))))))))) a b i = to_variable (omega arith) (omega arith) (in_one z unresolved i)
leading p c z (suc (suc (suc (suc (suc (suc (suc (suc (suc (suc (suc kind))))))))))) a b i = absurd (omega arith)

variable_row : (p : List ℕ) (c : Counts) (kind a b : ℕ) → 7 ≤ kind → kind ≤ 10 → In unresolved (row_ahead p c (row_of kind a b))
unfolding row_ahead by_kind
variable_row p c zero a b l h = absurd (omega arith)
variable_row p c (suc zero) a b l h = absurd (omega arith)
variable_row p c (suc (suc zero)) a b l h = absurd (omega arith)
variable_row p c (suc (suc (suc zero))) a b l h = absurd (omega arith)
variable_row p c (suc (suc (suc (suc zero)))) a b l h = absurd (omega arith)
variable_row p c (suc (suc (suc (suc (suc zero))))) a b l h = absurd (omega arith)
variable_row p c (suc (suc (suc (suc (suc (suc zero)))))) a b l h = absurd (omega arith)
variable_row p c (suc (suc (suc (suc (suc (suc (suc zero))))))) a b l h = in_first unresolved []
variable_row p c (suc (suc (suc (suc (suc (suc (suc (suc zero)))))))) a b l h = in_first unresolved []
variable_row p c (suc (suc (suc (suc (suc (suc (suc (suc (suc zero))))))))) a b l h = in_first unresolved []
variable_row p c (suc (suc (suc (suc (suc (suc (suc (suc (suc (suc zero)))))))))) a b l h = in_first unresolved []
variable_row p c (suc (suc (suc (suc (suc (suc (suc (suc (suc (suc (suc kind))))))))))) a b l h = absurd (omega arith)

-- a record's parts
record_parts : (p : List ℕ) (c : Counts) (r : TypeRow) → r.kind ≡ 5 → type_parts_of p c r ≡ seconds_of p c r.b
unfolding type_parts_of by_kind
record_parts p c r e = rw e

record_ahead : (p : List ℕ) (c : Counts) (r : TypeRow) → r.kind ≡ 5 → row_ahead p c r ≡ seconds_of p c r.b
unfolding row_ahead by_kind
record_ahead p c r e = rw e

name_row : (p : List ℕ) (c : Counts) (r : TypeRow) → r.kind ≡ 4 → row_ahead p c r ≡ at_name r.a ∷ []
unfolding row_ahead by_kind
name_row p c r e = rw e

pub parts_seconds : (p : List ℕ) (c : Counts) (t : ℕ) → (type_row p t).kind ≡ 5 → parts_of p c t ≡ seconds_of p c (type_row p t).b
unfolding parts_of
parts_seconds p c t e = record_parts p c (type_row p t) e

module _ (p : List ℕ) (c : Counts) (t : ℕ) (l : t < 2048) where
  pub row_ahead_lem : {z : ℕ} → In z (ahead p c t) → Leading p c (type_row p t) z
  row_ahead_lem {z} i = leading p c z (type_row p t).kind (type_row p t).a (type_row p t).b (rw (← type_ahead p c t l) at i)

  pub variable_ahead : is_variable p t ≡ true → In unresolved (ahead p c t)
  variable_ahead e =
      let b = and_both (leb 7 (type_row p t).kind) (leb (type_row p t).kind 10) e in
      rw (← type_ahead p c t l)
      (variable_row p c (type_row p t).kind (type_row p t).a (type_row p t).b (leb-true 7 (type_row p t).kind b.0) (leb-true (type_row p t).kind 10 b.1))

  pub part_ahead : (type_row p t).kind ≡ 5 → parts_of p c t ≡ ahead p c t
  unfolding parts_of
  part_ahead e = record_parts p c (type_row p t) e ∙ sym (record_ahead p c (type_row p t) e) ∙ type_ahead p c t l

  pub named_ahead : (type_row p t).kind ≡ 4 → In (at_name (type_row p t).a) (ahead p c t)
  named_ahead e = rw (← type_ahead p c t l, name_row p c (type_row p t) e) (in_first (at_name (type_row p t).a) [])

-- ---- inside a type

inside_in : (p : List ℕ) (c : Counts) (n t u : ℕ) → In u (inside p c (suc n) t) → (u ≡ t) ⊎ (((type_row p t).kind ≡ 5) × ((v : ℕ) × In v (parts_of p c t) × In u (inside p c n v)))
unfolding inside pick
inside_in p c n t u i = ⊎_elim (λ e. inl e) (λ j. inr (of (is_record p t) refl j)) (in_cons u t (pick (is_record p t) (over (inside p c n) (parts_of p c t)) []) i)
  where
    of : (b : Bool) → is_record p t ≡ b → In u (pick b (over (inside p c n) (parts_of p c t)) []) → ((type_row p t).kind ≡ 5) × ((v : ℕ) × In v (parts_of p c t) × In u (inside p c n v))
    of true e j = (eqb-true (type_row p t).kind 5 e, over_in u (inside p c n) (parts_of p c t) j)
    of false e j = absurd (omega arith)

in_itself : (p : List ℕ) (c : Counts) (n t : ℕ) → In t (inside p c (suc n) t)
unfolding inside
in_itself p c n t = in_first t (pick (is_record p t) (over (inside p c n) (parts_of p c t)) [])

in_part : (p : List ℕ) (c : Counts) (n t v u : ℕ) → (type_row p t).kind ≡ 5 → In v (parts_of p c t) → In u (inside p c n v) → In u (inside p c (suc n) t)
unfolding inside
in_part p c n t v u e i j =
    in_rest u t (pick (is_record p t) (over (inside p c n) (parts_of p c t)) [])
    (rw (sym (yes (is_record p t) (over (inside p c n) (parts_of p c t)) [] (eq-eqb (type_row p t).kind 5 e) refl)) (in_over u v (inside p c n) (parts_of p c t) i j))

-- ---- the same as a relation

pub inside_held : (p : List ℕ) (c : Counts) (n t u : ℕ) → In u (inside p c n t) → Held p c t u
unfolding inside
inside_held p c zero t u i = absurd (omega arith)
inside_held p c (suc n) t u i = ⊎_elim (λ e. rw e itself) (λ j. part j.0 j.1.1 (inside_held p c n j.1.0 u j.1.2)) (inside_in p c n t u i)

module _ {p : List ℕ} {c : Counts} (g : Good p c) where
  -- as many levels as there are types are enough
  pub held_inside : {t u : ℕ} → Held p c t u → t < c.types → (n : ℕ) → t < n → In u (inside p c n t)
  held_inside h l zero k = absurd (omega arith)
  held_inside {t} itself l (suc n) k = in_itself p c n t
  held_inside {t} {u} (part {v = v} e i h) l (suc n) k =
      let s = g.smaller t v l i in
      in_part p c n t v u e i (held_inside h (omega arith) n (omega arith))

  pub held_few : {t u : ℕ} → Held p c t u → t < c.types → u < c.types
  held_few itself l = l
  held_few {t} (part {v = v} e i h) l = held_few h (omega (arith, g.smaller t v l i))

  pub held_path : {t u : ℕ} → Held p c t u → t < c.types → Reach p c t u
  held_path itself l = here
  held_path {t} (part {v = v} e i h) l = on refl (rw (part_ahead p c t (omega (arith, g.ready.few_types)) e) at i) (held_path h (omega (arith, g.smaller t v l i)))

-- ---- a path to the variable

-- from a place with a mark no path goes on
stuck : {p : List ℕ} {c : Counts} {marks : List Bool} {x y : ℕ} → Path p c marks x y → get_or marks x false ≡ true → x ≡ y
stuck here s = refl
stuck (on e i r) s = unmet e s

pub variable_kind : (p : List ℕ) (t : ℕ) → 7 ≤ (type_row p t).kind → (type_row p t).kind ≤ 10 → is_variable p t ≡ true
variable_kind p t l h = rw (le-leb 7 (type_row p t).kind l, le-leb (type_row p t).kind 10 h)

-- t holds a variable
pub record HoldsVariable (p : List ℕ) (c : Counts) (t : ℕ) : Type 0 where
  pub row : ℕ
  pub held : Held p c t row
  pub kind : is_variable p row ≡ true

module _ {p : List ℕ} {c : Counts} (g : Good p c) {marks : List Bool} (walls : (d : ℕ) → d < 512 → get_or marks (at_name d) false ≡ true) where
  variable_step : {x z y : ℕ} → x < c.types → Leading p c (type_row p x) z → Path p c marks z y → y ≡ unresolved → (z < c.types → HoldsVariable p c z) → HoldsVariable p c x
  variable_step {x} l (to_name k q) r e f =
      let a = (g.ready.rows x l).named k in
      absurd (omega (arith, g.ready.few_definitions, stuck r (rw q (walls (type_row p x).a (omega (arith, g.ready.few_definitions))))))
  variable_step {x} {z} l (to_part k i) r e f =
      let m : In z (parts_of p c x) = rw (parts_seconds p c x k) i in
      let t = f (omega (arith, g.smaller x z l m)) in
      record { row = t.row; held = part k m t.held; kind = t.kind }
  variable_step {x} l (to_variable a b q) r e f = record { row = x; held = itself; kind = variable_kind p x a b }

  -- a path to the variable that passes no definition
  pub path_variable : {x y : ℕ} → Path p c marks x y → y ≡ unresolved → x < c.types → HoldsVariable p c x
  path_variable here e l = absurd (omega (arith, g.ready.few_types))
  path_variable {x} (on q i r) e l = variable_step l (row_ahead_lem p c x (omega (arith, g.ready.few_types)) i) r e (path_variable r e)
