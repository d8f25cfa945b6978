-- In plain words: the children of a node are those of its places, one place after the other.
--     kids_placed     kids_of, place by place
-- Assumes nothing.
use Prim.Native.Nat.{ℕ, zero, suc, ◌+◌, ◌*◌, ◌/◌, ◌%◌, ◌<◌}
use mathlib.Core.Path.{◌≡◌, refl, sym, ap, ◌∙◌}
use mathlib.Core.List.{List, [], ◌∷◌, ◌++◌, append-nil, append_assoc}
use native.Mathlib.Omega.{arith}
use lib.Dec.{eqb, ltb}
use borrow.Author.Tests.{eq-eqb, ne_eqb, lt-ltb, le-ltb}
use Rattle.laws.specs.Choice.{pick, by_kind}
use Rattle.laws.specs.Lists.{gather}
use Rattle.laws.proofs.Choice.{yes, no}
use Rattle.laws.proofs.Lists.{gather_split}
use Rattle.pack.specs.Rows.{expression_row}
use Rattle.pack.specs.Lists.{list_len, list_item}
use Rattle.pack.specs.Named.{optional, items_of, seconds_of, arm_kids, row_statements, row_operands, kids_of}
use Rattle.pack.specs.declared.counts.Counts.{Counts}
use Rattle.report.specs.Kids.{kid_at, kids_room, block_kid, arm_kid, first_or}

-- lists that agree place by place
gather_same : (f g : ℕ → List ℕ) (n i : ℕ) → ((k : ℕ) → k < i + n → f k ≡ g k) → gather f i n ≡ gather g i n
unfolding gather
gather_same f g zero i h = refl
gather_same f g (suc n) i h = rw (h i (omega arith), gather_same f g n (suc i) (λ k l. h k (omega arith))) refl

module _ (p : List ℕ) (c : Counts) where
  -- ---- a block: its statements, then its last expression

  module _ (list last : ℕ) where
    statement : (k : ℕ) → k < 0 + list_len p c list → block_kid p c list last k ≡ list_item p c list k ∷ []
    unfolding block_kid
    statement k h = sym (yes (ltb k (list_len p c list)) _ _ (lt-ltb k (list_len p c list) (omega arith)) refl)

    after_all : (k : ℕ) → k ≡ list_len p c list → block_kid p c list last k ≡ optional last
    unfolding block_kid
    after_all k e = sym (no (ltb k (list_len p c list)) _ _ (le-ltb k (list_len p c list) (omega (arith, e))) refl)

    block_placed : gather (block_kid p c list last) 0 (list_len p c list + 1) ≡ items_of p c list ++ optional last
    unfolding items_of gather
    block_placed =
        gather_split (block_kid p c list last) (list_len p c list) 0 1
        ∙ rw (gather_same (block_kid p c list last) (λ k. list_item p c list k ∷ []) (list_len p c list) 0 statement)
        (ap (λ (l : List ℕ). gather (λ k. list_item p c list k ∷ []) 0 (list_len p c list) ++ l) (append-nil _ ∙ after_all _ (omega arith)))

  -- ---- a match: its examinee, then guard and body of each arm

  module _ (examinee arms : ℕ) where
    guard_at : (i : ℕ) → arm_kid p c examinee arms (suc (2 * i)) ≡ optional (list_item p c arms (4 * i + 2))
    unfolding arm_kid
    guard_at i =
        let e : 2 * i / 2 ≡ i = omega arith in
        sym (yes (eqb (2 * i % 2) 0) _ _ (eq-eqb (2 * i % 2) 0 (omega arith)) (rw e refl))

    body_at : (i : ℕ) → arm_kid p c examinee arms (suc (suc (2 * i))) ≡ list_item p c arms (4 * i + 3) ∷ []
    unfolding arm_kid
    body_at i =
        let e : suc (2 * i) / 2 ≡ i = omega arith in
        sym (no (eqb (suc (2 * i) % 2) 0) _ _ (ne_eqb (suc (2 * i) % 2) 0 (λ q. omega arith)) (rw e refl))

    arms_placed : (n i : ℕ) → gather (arm_kid p c examinee arms) (suc (2 * i)) (2 * n) ≡ gather (arm_kids p c arms) i n
    unfolding gather
    arms_placed zero i = refl
    arms_placed (suc n) i =
        let e : 2 * suc n ≡ suc (suc (2 * n)) = omega arith in
        let q : suc (suc (suc (2 * i))) ≡ suc (2 * suc i) = omega arith in
        rw (e, guard_at i, body_at i, q, arms_placed n (suc i)) (sym (append_assoc (optional (list_item p c arms (4 * i + 2))) (list_item p c arms (4 * i + 3) ∷ []) (gather (arm_kids p c arms) (suc i) n)))

    match_placed : gather (arm_kid p c examinee arms) 0 (2 * list_len p c arms + 1) ≡ examinee ∷ gather (arm_kids p c arms) 0 (list_len p c arms)
    unfolding gather arm_kid
    match_placed = let e : 2 * list_len p c arms + 1 ≡ suc (2 * list_len p c arms) = omega arith in rw e (ap (λ (l : List ℕ). examinee ∷ l) (arms_placed (list_len p c arms) 0))

  -- ---- all kinds

  placed : (kind op a b d z : ℕ)
      → gather (kid_at p c (record { kind = kind; op = op; a = a; b = b; c = d; zero = z })) 0 (kids_room p c (record { kind = kind; op = op; a = a; b = b; c = d; zero = z }))
      ≡ row_statements p c (record { kind = kind; op = op; a = a; b = b; c = d; zero = z }) ++ row_operands p c (record { kind = kind; op = op; a = a; b = b; c = d; zero = z })
  unfolding kid_at kids_room row_statements row_operands by_kind pick gather first_or seconds_of
  placed zero op a b d z = refl
  placed (suc zero) op a b d z = refl
  placed (suc (suc zero)) op a b d z = block_placed a b
  placed (suc (suc (suc zero))) op a b d z = refl
  placed (suc (suc (suc (suc zero)))) op a b d z = match_placed a b
  placed (suc (suc (suc (suc (suc zero))))) op a b d z = refl
  placed (suc (suc (suc (suc (suc (suc zero)))))) op a b d z = refl
  placed (suc (suc (suc (suc (suc (suc (suc zero))))))) op a b d z = refl
  placed (suc (suc (suc (suc (suc (suc (suc (suc zero)))))))) op a b d z = append-nil _
  placed (suc (suc (suc (suc (suc (suc (suc (suc (suc kind))))))))) op a b d z =
      rw (ne_eqb (suc (suc (suc (suc (suc (suc (suc (suc (suc kind))))))))) 2 (λ q. omega arith)) refl

  pub kids_placed : (e : ℕ) → gather (kid_at p c (expression_row p c e)) 0 (kids_room p c (expression_row p c e)) ≡ kids_of p c e
  kids_placed e = let r = expression_row p c e in placed r.kind r.op r.a r.b r.c r.zero
