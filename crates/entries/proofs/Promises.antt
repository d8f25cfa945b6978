-- What the entries promise, in one place. Read this file first; it cites the layers, and each promise stands under its plain sentence.
-- A pack p is any list of bytes, an area any list of bytes. What an entry answers is its contract's right side: `types_of p`,
-- `root_of p root area`, `order_of p area` (specs/). That each ends, and touches nothing but what it was lent, is what the language gives to every function.
--     demand 1    types_ends, root_ends, order_ends; by the root's tree of nodes: root_writes, root_never
--     demand 2    types_say, root_stops, root_goes, order_stops, order_says
--     demand 3    order_says
--     one answer  types_one, root_one, order_one (Unique)
--     P cases     worked (Worked)
-- Assumes nothing.
use Prim.Native.Nat.{ℕ, ◌*◌, ◌≤◌, ◌<◌}
use mathlib.Core.Path.{◌≡◌, refl, sym, ap, subst, ◌∙◌}
use mathlib.Core.Logic.{◌↔◌}
use mathlib.Core.List.{List, [], ◌∷◌}
use native.Mathlib.Omega.{arith}
use lib.Dec.{ltb, lit≤}
use lib.ListN.{length, get_or}
use borrow.Author.Tests.{ltb-true, ltb-false}
use Rattle.laws.specs.Lists.{In}
use Rattle.laws.proofs.Choice.{by_test}
use Rattle.laws.proofs.Lists.{count_append}
use Rattle.laws.proofs.Answers.{follows, stands}
use Rattle.laws.specs.Faults.{passes, number_of}
use Rattle.pack.specs.Answer.{Reading}
use Rattle.pack.specs.Header.{counts_of}
use Rattle.pack.specs.Named.{refs_of}
use Rattle.pack.specs.declared.counts.Counts.{Counts}
use Rattle.laws.specs.declared.fault.Fault.{Fault}
use Rattle.laws.specs.declared.fault.Fault.TheVariants.{NoSuchRoot, AreaTooShort}
use Rattle.laws.specs.declared.refusal.Refusal.{Refusal}
use Rattle.formed.specs.Formed.{formed_of}
use Rattle.formed.proofs.Promises.{WellFormed, well_formed}
use Rattle.type_cycle.specs.Cycles.{type_cycles_of}
use Rattle.type_cycle.specs.Walks.{Says}
use Rattle.type_cycle.proofs.Promises.{says}
use Rattle.components.specs.Account.{Lists, Orderable, Refuses, is₅₀, is₅₁, is₅₂}
use Rattle.tarjan.specs.Values.{kind_of}
use Rattle.value_cycle.specs.Area.{read_back}
use Rattle.value_cycle.specs.Order.{Order, all_listed, Outcome, order_of as listing_of}
use Rattle.value_cycle.proofs.Promises.{Promised}
use Rattle.value_cycle.proofs.WellFormed.{promised_of_formed}
use Rattle.expr.specs.State.{State}
use Rattle.expr.specs.Root.{same_of, marks_of, root_rule, root_answer, root_area, Checked}
use Rattle.entries.specs.Answers.{Told, Result, result, report, refusal, answer_told}
use Rattle.entries.specs.Numbers.{of_pack, of_types, of_rules, of_root, of_order}
use Rattle.entries.specs.Ready.{ready_to_check, ready_to_order}
use Rattle.entries.specs.Types.{types_answer, types_of}
use Rattle.entries.specs.Root.{checked_by, root_checked, root_result, root_of}
use Rattle.entries.specs.Order.{ordered, order_answer, order_result, order_of}
use Rattle.entries.proofs.Numbered.{Numbered, of_report, of_need, among_last, types_numbers, ready_root_numbers, ready_order_numbers}
use Rattle.entries.proofs.RootAreas.{NodeByte, root_refused, root_reported}
use Rattle.entries.proofs.RootTrees.{Words, root_words, root_avoids}
use Rattle.entries.proofs.ReadyLaws.{by_reading, root_ready, order_ready, formed_asks, formed_ready, formed_checks, types_ready, counts_are}
use Rattle.std.proofs.Common.{Ok, Err}

-- ---- Demand 1

-- An entry ends with a report, or with a refusal that has one of 01's numbers.
pub data Answers (numbers : List ℕ) (t : Told) : Type 0 where
  reports : t ≡ report → Answers numbers t
  refuses : In t.number numbers → Answers numbers t

-- So does one that has a result area. After a report only the bytes that 01 names may differ, and none is added or taken away; a refusal
-- leaves the area unchanged.
pub data Leaves (numbers : List ℕ) (Named : ℕ → Type 0) (area : List ℕ) (out : Result) : Type 0 where
  reports : out.answer ≡ report → length out.area ≡ length area → ((i : ℕ) → (Named i → ⊥) → get_or out.area i 0 ≡ get_or area i 0) → Leaves numbers Named area out
  refuses : In out.answer.number numbers → out.area ≡ area → Leaves numbers Named area out

-- ---- Demand 2: what a types answer says

pub data TypesSay (p : List ℕ) (t : Told) : Type 0 where
  -- The pack is not well-formed: its first fault, in 01's order.
  not_formed : (r : Refusal) → formed_of p ≡ Err r → t ≡ refusal r → TypesSay p t
  -- Else 40 at the smallest definition with a variable in a field; else 41 at the smallest that has a walk of names to itself; else a report.
  -- (`Says` of `type_cycle` has these parts.)
  formed : (c : Counts) → WellFormed p c → (a : Reading) → Says p c a → t ≡ answer_told a → TypesSay p t

-- ---- Demands 2 and 3: what an order says, of a well-formed pack with the counts c and an area with room

-- an answer has the number of a fault of the order, and its place
pub record Names (p : List ℕ) (c : Counts) (t : Told) : Type 0 where
  pub fault : Fault
  pub numbered : t.number ≡ number_of fault
  pub faulted : Refuses (kind_of p c) (refs_of p c) c.values fault t.place

pub record OrderSays (p : List ℕ) (c : Counts) (out : Result) : Type 0 where
  -- Ordering succeeds exactly if no constant has a walk to itself and none has a walk to a context value.
  pub succeeds : (out.answer ≡ report) ↔ Orderable (kind_of p c) (refs_of p c) c.values
  -- Then each value is listed once; what is reached and does not reach back comes first; and the list is Tarjan's: the classes of mutual
  -- reach as their first-discovered member finishes, members by falling discovery. (`Lists` of `components` has these parts.)
  pub lists : out.answer ≡ report → Lists (kind_of p c) (refs_of p c) c.values (read_back out.area c.values)
  -- Else the refusal names the constant that 01 picks: 50 at the smallest constant that lists itself; else 51 at the first listed constant that
  -- has a walk to itself; else 52 at the smallest that has a walk to a context value. (`Refuses` of `components` has these parts.)
  pub refuses : (out.answer ≡ report → ⊥) → Names p c out.answer

-- ---- types

pub types_ends : (p : List ℕ) → Answers of_types (types_of p)
types_ends p =
    by_reading (types_answer p)
    (λ c e. reports (ap answer_told e))
    (λ r e. refuses (subst (λ (t : Told). In t.number of_types) (sym (ap answer_told e)) ((types_numbers p).inside r e)))

pub types_say : (p : List ℕ) → TypesSay p (types_of p)
types_say p =
    by_reading (formed_of p)
    (λ c e. formed c (well_formed p c e) (type_cycles_of p c) (says p c (types_ready p c e).0 (types_ready p c e).1) (ap answer_told (passed c e)))
    (λ r e. not_formed r e (ap answer_told (stopped r e)))
  where
    passed : (c : Counts) → formed_of p ≡ Ok c → types_answer p ≡ type_cycles_of p c
    passed c e = unfold types_answer in sym (follows passes (formed_of p) (type_cycles_of p (counts_of p)) (ap passes e) refl) ∙ ap (type_cycles_of p) (sym (counts_are p c e))

    stopped : (r : Refusal) → formed_of p ≡ Err r → types_answer p ≡ Err r
    stopped r e = unfold types_answer in sym (stands passes (formed_of p) (type_cycles_of p (counts_of p)) (ap passes e) refl) ∙ e

-- ---- root

-- The pack, the root number or the area is refused: that refusal, and the area as it was.
pub root_stops : (p : List ℕ) (root : ℕ) (area : List ℕ) (r : Refusal) → ready_to_check p root (length area) ≡ Err r → root_of p root area ≡ result (refusal r) area
unfolding root_checked
root_stops p root area r e = ap (λ (a : Reading). root_result (checked_by p root area a)) e

-- Else the answer is that of module 4's rules, and so is every byte of the area.
pub root_goes : (p : List ℕ) (root : ℕ) (area : List ℕ) (c : Counts) → formed_of p ≡ Ok c → root < c.roots → 4 * c.expressions ≤ length area → root_of p root area ≡ result (answer_told (root_answer p c root)) (root_area p c root area)
unfolding root_checked
root_goes p root area c e l m = ap (λ (a : Reading). root_result (checked_by p root area a)) (formed_checks p root (length area) c e l m)

-- The bytes that a root may write: those of its nodes, 4 at 4·id, as module 4 visits them.
abbrev pub RootByte : List ℕ → Counts → ℕ → ℕ → Type 0
RootByte p c root i = NodeByte p c (same_of p c) (marks_of p c) root i

module _ (p : List ℕ) (root : ℕ) (area : List ℕ) (c : Counts) where
  -- a refusal of module 4 leaves the area, and has one of 01's numbers
  checked_refused : (f : Refusal) → root_answer p c root ≡ Err f → (root_area p c root area ≡ area) × In (number_of f.fault) of_root
  checked_refused f e =
      let r = root_refused p c (same_of p c) (marks_of p c) root area f e in
      (r.0, among_last (number_of f.fault) of_pack (5 ∷ 6 ∷ of_rules) (omega (arith, count_append (number_of f.fault) (5 ∷ 6 ∷ []) of_rules, r.1)))

  checked_ends : (a : Checked) → root_answer p c root ≡ a → Leaves of_root (RootByte p c root) area (result (answer_told (root_answer p c root)) (root_area p c root area))
  checked_ends (Ok u) e =
      let r = root_reported p c (same_of p c) (marks_of p c) root area e in
      reports (ap answer_told e) r.0 r.1
  checked_ends (Err f) e =
      let r = checked_refused f e in
      refuses (subst (λ (t : Told). In t.number of_root) (sym (ap answer_told e)) r.1) r.0

pub root_ends : (p : List ℕ) (root : ℕ) (area : List ℕ) → Leaves of_root (RootByte p (counts_of p) root) area (root_of p root area)
root_ends p root area =
    by_reading (ready_to_check p root (length area))
    (λ c e.
    let ready = root_ready p root (length area) c e in
    subst (λ (k : Counts). Leaves of_root (RootByte p k root) area (root_of p root area)) (counts_are p c ready.0)
    (subst (Leaves of_root (RootByte p c root) area) (sym (root_goes p root area c ready.0 ready.1 ready.2)) (checked_ends p root area c (root_answer p c root) refl)))
    (λ r e. subst (Leaves of_root (RootByte p (counts_of p) root) area) (sym (root_stops p root area r e)) (refuses ((ready_root_numbers p root (length area)).inside r e) refl))

-- no refusal of a root has the number of a report
some_number : (n : ℕ) → In n of_root → n ≡ 0 → ⊥
some_number n h q = let z : In 0 of_root = subst (λ (x : ℕ). In x of_root) q h in omega arith

-- The state that module 4 leaves: what it noted of each node, and the cells that resolve the types noted.
abbrev pub root_state : List ℕ → Counts → ℕ → State
root_state p c root = (root_rule p c (same_of p c) (marks_of p c) root).st

-- After a report of a root a byte of the area differs only if it is one of the 4 at 4·id for a node id of the root's tree (its body, and what
-- stands below it); and for each node of the tree those 4 bytes are its word's, its type as resolved at the end. (`Words` of RootTrees has
-- these parts.) A node stands once in the tree of exactly one root (`tree_once`, `roots_apart` and `root_of_lem` of module 4).
pub root_writes : (p : List ℕ) (root : ℕ) (area : List ℕ) → (root_of p root area).answer ≡ report → Words p (counts_of p) root (root_state p (counts_of p) root) area (root_of p root area).area
root_writes p root area t =
    by_reading (ready_to_check p root (length area))
    (λ c e.
    let ready = root_ready p root (length area) c e in
    let g = root_goes p root area c ready.0 ready.1 ready.2 in
    subst (λ (k : Counts). Words p k root (root_state p k root) area (root_of p root area).area) (counts_are p c ready.0)
    (subst (λ (out : Result). Words p c root (root_state p c root) area out.area) (sym g)
    (root_words p c (well_formed p c ready.0) (same_of p c) (marks_of p c) root ready.1 area ready.2
    (reported c (root_answer p c root) refl (ap (λ (out : Result). out.answer) (sym g) ∙ t)))))
    (λ r e. absurd (some_number (number_of r.fault) ((ready_root_numbers p root (length area)).inside r e) (ap (λ (out : Result). out.answer.number) (sym (root_stops p root area r e)) ∙ ap (λ (t : Told). t.number) t)))
  where
    reported : (c : Counts) (a : Checked) → root_answer p c root ≡ a → answer_told (root_answer p c root) ≡ report → root_answer p c root ≡ Ok tt
    reported c (Ok u) e t = e
    reported c (Err r) e t =
        absurd (some_number (number_of r.fault) (checked_refused p root area c r e).1 (ap (λ (t : Told). t.number) (sym (ap answer_told e) ∙ t)))

-- Of a well-formed pack no root is refused by 13 or by 15, whatever the root number and the area: these are faults of the pack's own form.
pub root_never : (p : List ℕ) (root : ℕ) (area : List ℕ) (c : Counts) → formed_of p ≡ Ok c → ((root_of p root area).answer.number ≡ 13 → ⊥) × ((root_of p root area).answer.number ≡ 15 → ⊥)
root_never p root area c e =
    by_reading (ready_to_check p root (length area))
    (λ k h.
    let ready = root_ready p root (length area) k h in
    subst (λ (out : Result). Never out.answer) (sym (root_goes p root area k ready.0 ready.1 ready.2)) (told k (well_formed p k ready.0) ready.1 (root_answer p k root) refl))
    (λ r h. subst (λ (out : Result). Never out.answer) (sym (root_stops p root area r h)) (asked_never (number_of r.fault) (asked.inside r h)))
  where
    Never : Told → Type 0
    Never t = (t.number ≡ 13 → ⊥) × (t.number ≡ 15 → ⊥)

    told : (k : Counts) → WellFormed p k → root < k.roots → (a : Checked) → root_answer p k root ≡ a → Never (answer_told (root_answer p k root))
    told k f l (Ok u) h = subst Never (sym (ap answer_told h)) (λ q. omega arith, λ q. omega arith)
    told k f l (Err r) h = subst Never (sym (ap answer_told h)) (root_avoids p k f (same_of p k) (marks_of p k) root l r h)

    -- before module 4 there are 5 and 6 alone
    asked : Numbered (5 ∷ 6 ∷ []) (ready_to_check p root (length area))
    asked =
        subst (Numbered (5 ∷ 6 ∷ [])) (formed_asks p root (length area) c e refl)
        (of_need _ NoSuchRoot _ (lit≤ tt) (of_need _ AreaTooShort _ (lit≤ tt) (subst (Numbered (5 ∷ 6 ∷ [])) (sym e) (of_report c))))

    asked_never : (n : ℕ) → In n (5 ∷ 6 ∷ []) → (n ≡ 13 → ⊥) × (n ≡ 15 → ⊥)
    asked_never n h = (never 13 (λ z. omega arith), never 15 (λ z. omega arith))
      where
        never : (m : ℕ) → (In m (5 ∷ 6 ∷ []) → ⊥) → n ≡ m → ⊥
        never m z q = z (subst (λ (x : ℕ). In x (5 ∷ 6 ∷ [])) q h)

-- ---- order

-- The pack or the area is refused: that refusal, and the area as it was.
pub order_stops : (p area : List ℕ) (r : Refusal) → ready_to_order p (length area) ≡ Err r → order_of p area ≡ result (refusal r) area
unfolding order_answer
order_stops p area r e = ap (λ (a : Reading). order_result (ordered p area a)) e

module _ (p area : List ℕ) (c : Counts) where
  pub order_goes : ready_to_order p (length area) ≡ Ok c → order_of p area ≡ order_result (listing_of p c area)
  unfolding order_answer
  order_goes e = ap (λ (a : Reading). order_result (ordered p area a)) e

  -- the numbers of a refusal of module 5
  refused_number : {fault : Fault} {place : ℕ} → Refuses (kind_of p c) (refs_of p c) c.values fault place → In (number_of fault) (6 ∷ 50 ∷ 51 ∷ 52 ∷ [])
  refused_number (is₅₀ a b d e) = lit≤ tt
  refused_number (is₅₁ a b d e f g h i j) = lit≤ tt
  refused_number (is₅₂ a b d e f) = lit≤ tt

  -- by the case of module 5's answer
  told_ends : (out : Outcome) → Promised p c area out → (a : Order) → out.answer ≡ a → Leaves of_order (λ i. i < 2 * c.values) area (order_result out)
  told_ends out s (Ok x) e = reports (ap answer_told e) s.same_length (λ i h. s.others e i (by_test (ltb i (2 * c.values)) (λ t. absurd (h (ltb-true i (2 * c.values) t))) (λ f. ltb-false i (2 * c.values) f)))
  told_ends out s (Err r) e =
      refuses (subst (λ (t : Told). In t.number of_order) (sym (ap answer_told e)) (among_last (number_of r.fault) of_pack (6 ∷ 50 ∷ 51 ∷ 52 ∷ []) (refused_number (s.refuses r e))))
      (s.unchanged r e)

  told_says : (out : Outcome) → Promised p c area out → (a : Order) → out.answer ≡ a → OrderSays p c (order_result out)
  told_says out s (Ok x) e =
      record {
        succeeds = (λ h. s.succeeds.0 e, λ h. ap answer_told e);
        lists = λ h. s.lists e;
        refuses = λ h. absurd (h (ap answer_told e));
      }
  told_says out s (Err r) e =
      record {
        succeeds = (λ h. absurd (not_report h), λ h. absurd (listed (s.succeeds.1 h)));
        lists = λ h. absurd (not_report h);
        refuses = λ h. subst (Names p c) (sym (ap answer_told e)) (record { fault = r.fault; numbered = refl; faulted = s.refuses r e });
      }
    where
      listed : out.answer ≡ all_listed → ⊥
      listed h = never (sym h ∙ e)
        where
          never : ◌≡◌ {A = Order} all_listed (Err r) → ⊥
          never q = let z : ◌≡◌ {A = ℕ} 0 1 = cc in omega arith

      not_report : answer_told out.answer ≡ report → ⊥
      not_report h = refused_not (number_of r.fault) (refused_number (s.refuses r e)) (ap (λ (t : Told). t.number) (sym (ap answer_told e) ∙ h))
        where
          refused_not : (n : ℕ) → In n (6 ∷ 50 ∷ 51 ∷ 52 ∷ []) → n ≡ 0 → ⊥
          refused_not n h q = let z : In 0 (6 ∷ 50 ∷ 51 ∷ 52 ∷ []) = subst (λ (x : ℕ). In x (6 ∷ 50 ∷ 51 ∷ 52 ∷ [])) q h in omega arith

  pub order_says : formed_of p ≡ Ok c → 2 * c.values ≤ length area → OrderSays p c (order_of p area)
  order_says e l = subst (OrderSays p c) (sym (order_goes (formed_ready p (length area) c e l))) (told_says (listing_of p c area) (promised_of_formed p c area e l) (listing_of p c area).answer refl)

-- The bytes that an order may write: two for each value, from byte 0 on.
pub order_ends : (p area : List ℕ) → Leaves of_order (λ i. i < 2 * (counts_of p).values) area (order_of p area)
order_ends p area =
    by_reading (ready_to_order p (length area))
    (λ c e.
    let ready = order_ready p (length area) c e in
    subst (λ (k : Counts). Leaves of_order (λ i. i < 2 * k.values) area (order_of p area)) (counts_are p c ready.0)
    (subst (Leaves of_order (λ i. i < 2 * c.values) area) (sym (order_goes p area c e)) (told_ends p area c (listing_of p c area) (promised_of_formed p c area ready.0 ready.1) (listing_of p c area).answer refl)))
    (λ r e.
    subst (Leaves of_order (λ i. i < 2 * (counts_of p).values) area) (sym (order_stops p area r e)) (refuses ((ready_order_numbers p (length area)).inside r e) refl))
