-- What comes before an entry's own module: a step of it each, and what holds of a pack that is past it.
--     root_goes, order_goes     a header that passed: the root number and the area are asked next, before any row
--     root_stops, order_stops   a header that did not: its refusal stands
--     root_ready, order_ready   the pack is well-formed and has what is asked for; formed_checks and formed_ready say it the other way round
--     formed_asks               of a well-formed pack the root number and the area alone are asked
--     types_ready               what module 3 asks for
--     types_formed              a pack whose types passed is well-formed
--     root_checks               what module 4 asks for
-- Assumes nothing.
use Prim.Native.Nat.{ℕ, ◌*◌, ◌≤◌, ◌<◌}
use native.Mathlib.Omega.{arith}
use mathlib.Core.Path.{◌≡◌, refl, sym, ap, ◌∙◌}
use mathlib.Core.Bool.{true}
use mathlib.Core.List.{List}
use lib.Dec.{leb, ltb}
use lib.ListN.{length}
use borrow.Author.Tests.{leb-true, le-leb, ltb-true, lt-ltb}
use Rattle.laws.specs.Answers.{after}
use Rattle.laws.proofs.Choice.{yes, fails}
use Rattle.laws.proofs.Answers.{follows, stands, passed}
use Rattle.std.proofs.Common.{Ok, Err}
use Rattle.laws.specs.Faults.{passes}
use Rattle.laws.specs.declared.fault.Fault.TheVariants.{NoSuchRoot, AreaTooShort}
use Rattle.pack.specs.Answer.{Reading, needs}
use Rattle.pack.specs.Counts.{in_limits}
use Rattle.pack.specs.Header.{counts_of, header_of}
use Rattle.pack.specs.declared.counts.Counts.{Counts}
use Rattle.laws.specs.declared.refusal.Refusal.{Refusal}
use Rattle.pack.proofs.HeaderLaws.{header_is, header_passed}
use Rattle.rows.specs.Tables.{rows_of}
use Rattle.pack.proofs.CountLaws.{limited}
use Rattle.names.specs.Index.{most}
use Rattle.pack.proofs.HeaderLaws.{kept}
use Rattle.rows.proofs.Promises.{parts_smaller}
use Rattle.formed.specs.Formed.{body_of, formed_of}
use Rattle.formed.proofs.Promises.{well_formed, after_header}
use Rattle.structure.specs.Table.{Numbers}
use Rattle.expr.specs.Root.{Checks}
use Rattle.type_cycle.specs.Cycles.{type_cycles_of}
use Rattle.type_cycle.specs.Walks.{Says, unresolved, cyclic, neither}
use Rattle.type_cycle.proofs.Promises.{says}
use Rattle.entries.specs.Ready.{ready_to_check, ready_to_order}
use Rattle.entries.specs.Types.{types_answer}

-- an answer is a report or a refusal
pub by_reading : (a : Reading) {P : Type 0} → ((c : Counts) → a ≡ Ok c → P) → ((r : Refusal) → a ≡ Err r → P) → P
by_reading (Ok c) y n = y c refl
by_reading (Err r) y n = n r refl

-- `asks` is what is asked between the header and the rows
module _ (p : List ℕ) (asks : Counts → Reading → Reading) where
  past_header : (c : Counts) {z : Reading} → header_of p ≡ Ok c → z ≡ asks c (formed_of p) → z ≡ after passes (header_of p) (asks (counts_of p) (body_of p (counts_of p)))
  past_header c e q =
      follows passes (header_of p) _ (ap passes e)
      (q ∙ ap (asks c) (after_header p c e) ∙ ap (λ (k : Counts). asks k (body_of p k)) (header_is p c e).counts)

  at_header : (r : Refusal) → header_of p ≡ Err r → ◌≡◌ {A = Reading} (Err r) (after passes (header_of p) (asks (counts_of p) (body_of p (counts_of p))))
  at_header r e = stands passes (header_of p) _ (ap passes e) (sym e)

module _ (p : List ℕ) (root room : ℕ) where
  root_asked : Counts → Reading → Reading
  root_asked c rest = needs (ltb root c.roots) NoSuchRoot (needs (leb (4 * c.expressions) room) AreaTooShort rest)

  pub root_goes : (c : Counts) {z : Reading} → header_of p ≡ Ok c → z ≡ needs (ltb root c.roots) NoSuchRoot (needs (leb (4 * c.expressions) room) AreaTooShort (formed_of p)) → z ≡ ready_to_check p root room
  unfolding ready_to_check root_asked
  root_goes c e q = past_header p root_asked c e q

  pub root_stops : (r : Refusal) → header_of p ≡ Err r → ◌≡◌ {A = Reading} (Err r) (ready_to_check p root room)
  unfolding ready_to_check root_asked
  root_stops r e = at_header p root_asked r e

module _ (p : List ℕ) (room : ℕ) where
  room_asked : Counts → Reading → Reading
  room_asked c rest = needs (leb (2 * c.values) room) AreaTooShort rest

  pub order_goes : (c : Counts) {z : Reading} → header_of p ≡ Ok c → z ≡ needs (leb (2 * c.values) room) AreaTooShort (formed_of p) → z ≡ ready_to_order p room
  unfolding ready_to_order room_asked
  order_goes c e q = past_header p room_asked c e q

  pub order_stops : (r : Refusal) → header_of p ≡ Err r → ◌≡◌ {A = Reading} (Err r) (ready_to_order p room)
  unfolding ready_to_order room_asked
  order_stops r e = at_header p room_asked r e

-- a body that is accepted: the pack is well-formed
body_formed : (p : List ℕ) (c : Counts) → passes (header_of p) ≡ true → body_of p (counts_of p) ≡ Ok c → formed_of p ≡ Ok c
body_formed p c t e = after_header p (counts_of p) (header_passed p t).0 ∙ e

pub counts_are : (p : List ℕ) (c : Counts) → formed_of p ≡ Ok c → c ≡ counts_of p
counts_are p c e = (well_formed p c e).headed.counts

-- the header of a well-formed pack passed
headed : (p : List ℕ) (c : Counts) → formed_of p ≡ Ok c → header_of p ≡ Ok c
unfolding formed_of
headed p c e = (header_passed p (passed passes (header_of p) (body_of p (counts_of p)) (ap passes e)).0).0 ∙ ap Ok (sym (counts_are p c e))

pub order_ready : (p : List ℕ) (room : ℕ) (c : Counts) → ready_to_order p room ≡ Ok c → (formed_of p ≡ Ok c) × (2 * c.values ≤ room)
unfolding ready_to_order
order_ready p room c e =
    let h = passed passes (header_of p) _ (ap passes e) in
    let k = kept (leb (2 * (counts_of p).values) room) AreaTooShort (body_of p (counts_of p)) (ap passes (sym h.1 ∙ e)) in
    let f = body_formed p c h.0 (sym k.1 ∙ sym h.1 ∙ e) in
    (f, rw (counts_are p c f) (leb-true (2 * (counts_of p).values) room k.0))

pub root_ready : (p : List ℕ) (root room : ℕ) (c : Counts) → ready_to_check p root room ≡ Ok c → (formed_of p ≡ Ok c) × (root < c.roots) × (4 * c.expressions ≤ room)
unfolding ready_to_check
root_ready p root room c e =
    let h = passed passes (header_of p) _ (ap passes e) in
    let i = kept (ltb root (counts_of p).roots) NoSuchRoot (needs (leb (4 * (counts_of p).expressions) room) AreaTooShort (body_of p (counts_of p))) (ap passes (sym h.1 ∙ e)) in
    let k = kept (leb (4 * (counts_of p).expressions) room) AreaTooShort (body_of p (counts_of p)) (ap passes (sym i.1 ∙ sym h.1 ∙ e)) in
    let f = body_formed p c h.0 (sym k.1 ∙ sym i.1 ∙ sym h.1 ∙ e) in
    (f, rw (counts_are p c f) (ltb-true root (counts_of p).roots i.0), rw (counts_are p c f) (leb-true (4 * (counts_of p).expressions) room k.0))

-- of a well-formed pack
pub formed_asks : (p : List ℕ) (root room : ℕ) (c : Counts) {z : Reading} → formed_of p ≡ Ok c → z ≡ needs (ltb root c.roots) NoSuchRoot (needs (leb (4 * c.expressions) room) AreaTooShort (formed_of p)) → z ≡ ready_to_check p root room
formed_asks p root room c e q = root_goes p root room c (headed p c e) q

-- and the other way round
pub formed_checks : (p : List ℕ) (root room : ℕ) (c : Counts) → formed_of p ≡ Ok c → root < c.roots → 4 * c.expressions ≤ room → ready_to_check p root room ≡ Ok c
formed_checks p root room c e l m =
    sym
    (formed_asks p root room c e
    (unfold needs in
    yes (ltb root c.roots) (needs (leb (4 * c.expressions) room) AreaTooShort (formed_of p)) _ (lt-ltb root c.roots l)
    (yes (leb (4 * c.expressions) room) (formed_of p) _ (le-leb (4 * c.expressions) room m) (sym e))))

pub formed_ready : (p : List ℕ) (room : ℕ) (c : Counts) → formed_of p ≡ Ok c → 2 * c.values ≤ room → ready_to_order p room ≡ Ok c
formed_ready p room c e l = sym (order_goes p room c (headed p c e) (unfold needs in yes (leb (2 * c.values) room) (formed_of p) _ (le-leb (2 * c.values) room l) (sym e)))

pub types_ready : (p : List ℕ) (c : Counts) → formed_of p ≡ Ok c → (in_limits c ≡ true) × (passes (rows_of p c) ≡ true)
types_ready p c e = ((well_formed p c e).headed.limits, (well_formed p c e).rows_passed)

-- a report of module 3 has the counts that it was asked with
cycles_passed : (p : List ℕ) (c : Counts) → Says p c (type_cycles_of p c) → passes (type_cycles_of p c) ≡ true → type_cycles_of p c ≡ Ok c
cycles_passed p c (unresolved d f e) t = absurd (fails (sym t ∙ ap passes e))
cycles_passed p c (cyclic d n f e) t = absurd (fails (sym t ∙ ap passes e))
cycles_passed p c (neither n m e) t = e

pub types_formed : (p : List ℕ) (c : Counts) → types_answer p ≡ Ok c → formed_of p ≡ Ok c
unfolding types_answer
types_formed p c e =
    by_reading (formed_of p) (λ k f. f ∙ ap Ok (counts_are p k f) ∙ sym (again (rw (counts_are p k f) at f)) ∙ sym h.1 ∙ e) (λ r f. absurd (fails (sym h.0 ∙ ap passes f)))
  where
    h : (passes (formed_of p) ≡ true) × (after passes (formed_of p) (type_cycles_of p (counts_of p)) ≡ type_cycles_of p (counts_of p))
    h = passed passes (formed_of p) (type_cycles_of p (counts_of p)) (ap passes e)

    again : formed_of p ≡ Ok (counts_of p) → type_cycles_of p (counts_of p) ≡ Ok (counts_of p)
    again f =
        let g = types_ready p (counts_of p) f in
        cycles_passed p (counts_of p) (says p (counts_of p) g.0 g.1) (ap passes (sym h.1 ∙ e))

-- what module 4 asks for, of a table that `number_rows` made
pub root_checks : {p same marks area : List ℕ} {c : Counts} {root : ℕ} → formed_of p ≡ Ok c → root < c.roots → Numbers p c same marks → 4 * c.expressions ≤ length area → Checks p c same marks root area
root_checks {p = p} {c = c} e i t l =
    record {
      formed = e;
      inside = i;
      table = t;
      small = λ i k h m. parts_smaller p c (well_formed p c e).rows_passed i k h m;
      room = (limited c (well_formed p c e).headed.limits).types;
      long = l;
    }

-- and its list words are few enough for an index of names
pub words_few : (p : List ℕ) {c : Counts} → formed_of p ≡ Ok c → c.words ≤ most
words_few p {c = c} e = omega (arith, (limited c (well_formed p c e).headed.limits).words)
