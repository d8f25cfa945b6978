-- Runs of items whose children were all named twice.
--     still           naming what is full changes nothing
--     noting          what is full stays full, so hops are kept by namings
--     run_join        a run and the one after it
--     hop_set         a run that is noted
-- Assumes nothing.
use Prim.Native.Nat.{ℕ, zero, suc, ◌+◌, ◌*◌, ◌-◌, ◌≤◌, ◌<◌}
use mathlib.Core.Path.{◌≡◌, refl, sym, ap, ap₂, ◌∙◌}
use mathlib.Core.Bool.{Bool, true, ◌&&◌}
use mathlib.Core.List.{List, [], ◌∷◌, ◌++◌}
use native.Mathlib.Omega.{arith}
use native.Mathlib.Nat.{mul-add}
use lib.Dec.{leb, ltb}
use lib.ListN.{length, get_or, set, replicate, length-set, length-replicate, get_or-replicate}
use lib.Seq.{get_or-set_same, get_or-set_other}
use borrow.Author.Tests.{le-leb, lt-leb, leb-true, lt-ltb, le-ltb, ltb-true, ltb-false}
use Rattle.laws.specs.Bounded.{get}
use Rattle.laws.specs.Lists.{gather}
use Rattle.laws.proofs.Choice.{yes, no, by_eq, by_test, and_both, fails}
use Rattle.laws.proofs.Tests.{and_true, or_true, or_false}
use Rattle.laws.proofs.Bounded.{get_in, put_out, get_other}
use Rattle.pack.specs.Lists.{list_word, list_item}
use Rattle.pack.specs.Named.{optional}
use Rattle.pack.specs.declared.counts.Counts.{Counts}
use Rattle.trees.specs.declared.kids.Kids.{Kids}
use Rattle.trees.specs.declared.kids.Kids.TheVariants.{Items, Seconds, Arms}
use Rattle.trees.specs.Notes.{nodes, Notes, notes, note_one, note_all, kids_at}
use Rattle.trees.specs.Hops.{stride, kids_from, full, all_full, line, hop_at, Run, Hops, Passed, Noting}
use Rattle.trees.proofs.NoteLaws.{by_naming, note_append}

-- ---- full

module _ (uses : List ℕ) (k : ℕ) where
  pub full_out : nodes ≤ k → full uses k ≡ true
  unfolding full
  full_out h = rw (le-leb nodes k h) (or_true (leb 2 (get nodes uses k)))

  pub full_read : k < nodes → leb 2 (get_or uses k 0) ≡ full uses k
  unfolding full
  full_read h = rw (lt-leb nodes k h, get_in nodes uses k h) (sym (or_false (leb 2 (get nodes uses k))))

  full_told : full uses k ≡ true → k < nodes → 2 ≤ get nodes uses k
  unfolding full
  full_told e h = leb-true 2 (get nodes uses k) (sym (or_false (leb 2 (get nodes uses k))) ∙ (rw (lt-leb nodes k h) at e))

still_one : (k place : ℕ) (s : Notes) → full s.uses k ≡ true → note_one k place s ≡ s
still_one k place s e =
    by_naming (λ r. r ≡ s) k place s
    (λ low.
    by_test (ltb k nodes)
    (λ t. absurd (omega (arith, full_told s.uses k e (ltb-true k nodes t))))
    (λ f.
    ap₂ notes (sym (put_out nodes s.uses k (get nodes s.uses k + 1) (ltb-false k nodes f))) (sym (put_out nodes s.places k place (ltb-false k nodes f)))))
    (λ high. refl)

pub still : (ks : List ℕ) (place : ℕ) (s : Notes) → all_full s.uses ks ≡ true → note_all ks place s ≡ s
unfolding note_all
still [] place s e = refl
still (k ∷ ks) place s e =
    let h = and_both (full s.uses k) (all_full s.uses ks) e in
    ap (note_all ks place) (still_one k place s h.0) ∙ still ks place s h.1

full_one : (k place : ℕ) (s : Notes) (x : ℕ) → full s.uses x ≡ true → full (note_one k place s).uses x ≡ true
unfolding full
full_one k place s x e =
    by_test (full s.uses k)
    (λ t. ap (λ (r : Notes). full r.uses x) (still_one k place s t) ∙ e)
    (λ f.
    by_naming (λ r. full r.uses x ≡ true) k place s
    (λ low. by_eq x k (λ q. absurd (fails (sym e ∙ ap (full s.uses) q ∙ f))) (λ q. rw (get_other nodes s.uses k (get nodes s.uses k + 1) x q) e))
    (λ high. e))

full_all : (ks : List ℕ) (place : ℕ) (s : Notes) (x : ℕ) → full s.uses x ≡ true → full (note_all ks place s).uses x ≡ true
unfolding note_all
full_all [] place s x e = e
full_all (k ∷ ks) place s x e = full_all ks place (note_one k place s) x (full_one k place s x e)

full_kept : (xs ks : List ℕ) (place : ℕ) (s : Notes) → all_full s.uses xs ≡ true → all_full (note_all ks place s).uses xs ≡ true
full_kept [] ks place s e = refl
full_kept (x ∷ xs) ks place s e =
    let h = and_both (full s.uses x) (all_full s.uses xs) e in
    rw (full_all ks place s x h.0) (full_kept xs ks place s h.1)

-- ---- what an item names

pub full_single : (uses : List ℕ) {k x : ℕ} {z : Bool} → k ≡ x → z ≡ full uses k → z ≡ all_full uses (x ∷ [])
full_single uses {x = x} e q = q ∙ ap (full uses) e ∙ sym (and_true (full uses x))

full_append : (uses xs ys : List ℕ) → (all_full uses xs && all_full uses ys) ≡ all_full uses (xs ++ ys)
full_append uses [] ys = refl
full_append uses (x ∷ xs) ys = by_test (full uses x) (λ t. rw t (full_append uses xs ys)) (λ f. rw f refl)

pub full_arm : (uses : List ℕ) {g h b x : ℕ} {y z : Bool} → g ≡ h → y ≡ all_full uses (optional g) → b ≡ x → z ≡ full uses b → (y && z) ≡ all_full uses (optional h ++ x ∷ [])
full_arm uses {h = h} {x = x} e p q r = rw (p, full_single uses q r, e) (full_append uses (optional h) (x ∷ []))

kids_from_lem : (p : List ℕ) (c : Counts) (kids : Kids) (s k : ℕ) → kids_at p c kids s k ≡ kids_from p c kids (s + 1 + stride kids * k)
unfolding list_item
kids_from_lem p c Items s k = let e : s + 1 + k ≡ s + 1 + 1 * k = omega arith in ap (λ (x : ℕ). list_word p c x ∷ []) e
kids_from_lem p c Seconds s k = let e : s + 1 + (2 * k + 1) ≡ s + 1 + 2 * k + 1 = omega arith in ap (λ (x : ℕ). list_word p c x ∷ []) e
kids_from_lem p c Arms s k =
    let e : s + 1 + (4 * k + 2) ≡ s + 1 + 4 * k + 2 = omega arith in
    let f : s + 1 + (4 * k + 3) ≡ s + 1 + 4 * k + 3 = omega arith in
    ap₂ (λ (x y : ℕ). optional (list_word p c x) ++ list_word p c y ∷ []) e f

-- ---- runs

gather_still : (f : ℕ → List ℕ) (m k place : ℕ) (s : Notes) → ((i : ℕ) → i < m → all_full s.uses (f (k + i)) ≡ true) → note_all (gather f k m) place s ≡ s
unfolding gather note_all
gather_still f zero k place s r = refl
gather_still f (suc m) k place s r =
    note_append (f k) (gather f (suc k) m) place s
    ∙ ap (note_all (gather f (suc k) m) place) (still (f k) place s (let q : k ≡ k + 0 = omega arith in ap (λ (x : ℕ). all_full s.uses (f x)) q ∙ r 0 (omega arith)))
    ∙ gather_still f m (suc k) place s (λ i l. let q : suc k + i ≡ k + suc i = omega arith in ap (λ (x : ℕ). all_full s.uses (f x)) q ∙ r (suc i) (omega arith))

pub run_still : (p : List ℕ) (c : Counts) (kids : Kids) (s k place : ℕ) (first : Notes) {j n : ℕ} → j ≡ s + 1 + stride kids * k → Run p c first.uses kids j n
    → (m : ℕ) → m ≤ n → note_all (gather (kids_at p c kids s) k m) place first ≡ first
run_still p c kids s k place first {j} e r m l =
    gather_still (kids_at p c kids s) m k place first
    (λ i h.
    let q : j + stride kids * i ≡ s + 1 + stride kids * (k + i) = omega (arith, mul-add (stride kids) k i) in
    ap (all_full first.uses) (kids_from_lem p c kids s (k + i) ∙ ap (kids_from p c kids) (sym q)) ∙ r.each_full i (omega arith))

module _ {p : List ℕ} {c : Counts} {uses : List ℕ} {kids : Kids} {j : ℕ} where
  pub run_none : Run p c uses kids j 0
  run_none = record { each_full = λ k l. absurd (omega arith); low = λ l. absurd (omega arith); small = λ l. absurd (omega arith) }

stride_least : (kids : Kids) (a : ℕ) → a ≤ stride kids * a
stride_least Items a = omega arith
stride_least Seconds a = omega arith
stride_least Arms a = omega arith

pub run_join : {p : List ℕ} {c : Counts} {uses : List ℕ} {kids : Kids} {j a b next : ℕ} → next ≡ j + stride kids * a → 1 ≤ a → Run p c uses kids j a → Run p c uses kids next b → Run p c uses kids j (a + b)
run_join {p} {c} {uses} {kids} {j} {a} {b} {next} e o r t =
    record {
      each_full =
          λ k l.
          by_test (ltb k a)
          (λ y. r.each_full k (ltb-true k a y))
          (λ f.
          let d : a + (k - a) ≡ k = omega (arith, ltb-false k a f) in
          let q : j + stride kids * k ≡ next + stride kids * (k - a) = omega (arith, mul-add (stride kids) a (k - a), ap (λ (x : ℕ). stride kids * x) d) in
          ap (λ (x : ℕ). all_full uses (kids_from p c kids x)) q ∙ t.each_full (k - a) (omega (arith, ltb-false k a f)));
      low = λ l. r.low o;
      small = λ l. by_eq b 0 (λ z. omega (arith, r.small o)) (λ z. omega (arith, t.small (omega arith), stride_least kids a));
    }

-- ---- hops

module _ (hops : List ℕ) (kids : Kids) (j : ℕ) where
  pub hop_in : j < 8192 → hop_at hops kids j ≡ get_or hops (line kids + j) 0
  unfolding hop_at
  hop_in h = sym (yes (ltb j 8192) (get_or hops (line kids + j) 0) 0 (lt-ltb j 8192 h) refl)

  pub hop_out : 8192 ≤ j → hop_at hops kids j ≡ 0
  unfolding hop_at
  hop_out h = sym (no (ltb j 8192) (get_or hops (line kids + j) 0) 0 (le-ltb j 8192 h) refl)

pub line_most : (kids : Kids) → line kids ≤ 16384
line_most Items = omega arith
line_most Seconds = omega arith
line_most Arms = omega arith

pub hops_none : (p : List ℕ) (c : Counts) (uses : List ℕ) {hops : List ℕ} → hops ≡ replicate {A = ℕ} 24576 0 → Hops p c uses hops
hops_none p c uses {hops} e =
    record {
      long = ap length e ∙ length-replicate {A = ℕ} 24576 0;
      run = λ kids j. rw (none kids j) run_none;
    }
  where
    none : (kids : Kids) (j : ℕ) → hop_at hops kids j ≡ 0
    none kids j =
        by_test (ltb j 8192)
        (λ t. hop_in hops kids j (ltb-true j 8192 t) ∙ ap (λ (l : List ℕ). get_or l (line kids + j) 0) e ∙ get_or-replicate 24576 (line kids + j) 0 0 (omega (arith, ltb-true j 8192 t, line_most kids)))
        (λ f. hop_out hops kids j (ltb-false j 8192 f))

pub hops_kept : {p : List ℕ} {c : Counts} {r : Notes} {hops after : List ℕ} (ks : List ℕ) (place : ℕ) (s : Notes) → Hops p c s.uses hops → r ≡ note_all ks place s → after ≡ hops → Hops p c r.uses after
hops_kept {p} {c} {r} {hops} ks place s h e same =
    rw (e, same)
    (record {
      long = h.long;
      run =
          λ kids j.
          record {
            each_full = λ k l. full_kept (kids_from p c kids (j + stride kids * k)) ks place s ((h.run kids j).each_full k l);
            low = (h.run kids j).low;
            small = (h.run kids j).small;
          };
    })

pub noting : {p : List ℕ} {c : Counts} {r : Notes} {hops after : List ℕ} (ks : List ℕ) (place : ℕ) (s : Notes) → Hops p c s.uses hops → r ≡ note_all ks place s → after ≡ hops → Noting r (note_all ks place s) p c after
noting ks place s h e same = record { is = e; kept = hops_kept ks place s h e same }

same_line : (a b : Kids) (i j : ℕ) → i < 8192 → j < 8192 → line a + i ≡ line b + j → (a ≡ b) × (i ≡ j)
same_line Items Items i j l h e = (refl, omega arith)
same_line Items Seconds i j l h e = absurd (omega arith)
same_line Items Arms i j l h e = absurd (omega arith)
same_line Seconds Items i j l h e = absurd (omega arith)
same_line Seconds Seconds i j l h e = (refl, omega arith)
same_line Seconds Arms i j l h e = absurd (omega arith)
same_line Arms Items i j l h e = absurd (omega arith)
same_line Arms Seconds i j l h e = absurd (omega arith)
same_line Arms Arms i j l h e = (refl, omega arith)

pub hop_set : {p : List ℕ} {c : Counts} {uses hops : List ℕ} {kids : Kids} {j n at : ℕ} → Hops p c uses hops → Run p c uses kids j n → j < 8192 → at ≡ line kids + j → Hops p c uses (set hops at n)
hop_set {p} {c} {uses} {hops} {kids} {j} {n} {at} h r l e =
    record {
      long = length-set hops at n ∙ h.long;
      run = λ a i. by_test (ltb i 8192) (λ t. inside a i (ltb-true i 8192 t)) (λ f. rw (hop_out (set hops at n) a i (ltb-false i 8192 f)) run_none);
    }
  where
    inside : (a : Kids) (i : ℕ) → i < 8192 → Run p c uses a i (hop_at (set hops at n) a i)
    inside a i m =
        by_eq (line a + i) at
        (λ q.
        let w = same_line a kids i j m l (q ∙ e) in
        rw (hop_in (set hops at n) a i m, q, get_or-set_same hops at n 0 (omega (arith, h.long, line_most kids)), w.0, w.1) r)
        (λ q. rw (hop_in (set hops at n) a i m ∙ get_or-set_other hops at (line a + i) n 0 q ∙ sym (hop_in hops a i m)) (h.run a i))

-- ---- some items of a list passed

-- one item that was noted
pub passed_one : {p : List ℕ} {c : Counts} {kids : Kids} {s k place : ℕ} {first after : Notes} {hops hops_after : List ℕ} → Hops p c first.uses hops
    → after ≡ note_all (kids_at p c kids s k) place first → hops_after ≡ hops → Passed p c kids s k place first after hops_after 1
unfolding gather note_all
passed_one {p} {c} {kids} {s} {k} {place} {first} h e same =
    record {
      some = omega arith;
      few = omega arith;
      leaves =
          λ m a b.
          let z : m ≡ 1 = omega arith in
          rw z (note_append (kids_at p c kids s k) [] place first ∙ sym e);
      kept = hops_kept (kids_at p c kids s k) place first h e same;
    }

-- a run
pub passed_run : {p : List ℕ} {c : Counts} {kids : Kids} {s k place j n : ℕ} {first after : Notes} {hops : List ℕ} → after ≡ first → Hops p c after.uses hops
    → j ≡ s + 1 + stride kids * k → Run p c first.uses kids j n → (n ≡ 0 → ⊥) → Passed p c kids s k place first after hops n
passed_run {p} {c} {kids} {s} {k} {place} {j} {n} {first} same h e r o =
    let pos : 1 ≤ n = omega arith in
    record {
      some = pos;
      few = omega (arith, r.small pos);
      leaves = λ m a b. run_still p c kids s k place first e r m b ∙ sym same;
      kept = h;
    }
