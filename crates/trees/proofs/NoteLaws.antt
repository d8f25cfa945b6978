-- What namings leave in the notes.
--     note_append     namings in two parts
--     uses_are        how often an expression was named, up to 2
--     place_kept      the place of one that was not named
--     place_new       the place of one that was
-- Assumes nothing.
use Prim.Native.Nat.{ℕ, suc, ◌+◌, ◌-◌, ◌≤◌, ◌<◌, min}
use mathlib.Core.Path.{◌≡◌, refl, sym, ap, ◌∙◌}
use mathlib.Core.Bool.{Bool, true, false}
use mathlib.Core.List.{List, [], ◌∷◌, ◌++◌}
use native.Mathlib.Omega.{arith}
use native.Mathlib.Numerals.{add-one}
use lib.Dec.{leb, ltb}
use lib.ListN.{length}
use borrow.Author.Tests.{ltb-true, ltb-false, leb-true, leb-false}
use Rattle.laws.specs.Bounded.{get, put}
use Rattle.laws.specs.Lists.{count, gather}
use Rattle.laws.specs.Choice.{pick}
use Rattle.laws.proofs.Choice.{yes, no, by_eq, by_test}
use Rattle.laws.proofs.Bounded.{put_length, get_same, get_other}
use Rattle.laws.proofs.Lists.{count_same, count_other, gather_split}
use Rattle.trees.specs.Notes.{nodes, Notes, notes, note_one, note_all}

pub note_append : (xs ys : List ℕ) (place : ℕ) (s : Notes) → note_all (xs ++ ys) place s ≡ note_all ys place (note_all xs place s)
unfolding note_all
note_append [] ys place s = refl
note_append (x ∷ xs) ys place s = note_append xs ys place (note_one x place s)

-- one naming of what was read
pub note_single : (place : ℕ) (s : Notes) {k j : ℕ} {r : Notes} → j ≡ k → r ≡ note_one j place s → r ≡ note_all (k ∷ []) place s
unfolding note_all
note_single place s q e = rw (← q) e

-- one after others, and one before
pub note_then : (xs : List ℕ) (place : ℕ) (s : Notes) {k j : ℕ} {m r : Notes} → m ≡ note_all xs place s → j ≡ k → r ≡ note_one j place m → r ≡ note_all (xs ++ k ∷ []) place s
note_then xs place s {k} {j} {m} d q e = note_single place (note_all xs place s) q (e ∙ ap (note_one j place) d) ∙ sym (note_append xs (k ∷ []) place s)

pub note_after : (ks : List ℕ) (k place : ℕ) (s : Notes) {m r : Notes} → m ≡ note_one k place s → r ≡ note_all ks place m → r ≡ note_all (k ∷ ks) place s
unfolding note_all
note_after ks k place s d e = e ∙ ap (note_all ks place) d

-- nothing to name, also where a choice or a kind names nothing
pub note_nothing : (ks : List ℕ) (place : ℕ) (s : Notes) → [] ≡ ks → s ≡ note_all ks place s
unfolding note_all
note_nothing ks place s e = rw (← e) refl

pub note_chosen : (b : Bool) (ks : List ℕ) (place : ℕ) (s : Notes) {r : Notes} → b ≡ true → r ≡ note_all ks place s → r ≡ note_all (pick b ks []) place s
note_chosen b ks place s t e = rw (← yes b ks [] t refl) e

pub note_passed : (b : Bool) (ks : List ℕ) (place : ℕ) (s : Notes) → b ≡ false → s ≡ note_all (pick b ks []) place s
note_passed b ks place s f = note_nothing (pick b ks []) place s (no b ks [] f refl)

-- both lists keep their length
pub record Long (s : Notes) : Type 0 where
  pub uses : length s.uses ≡ nodes
  pub places : length s.places ≡ nodes

-- a naming by cases: noted, or named twice before
pub by_naming : (P : Notes → Type 0) (k place : ℕ) (s : Notes)
    → (get nodes s.uses k < 2 → P (notes (put nodes s.uses k (get nodes s.uses k + 1)) (put nodes s.places k place)))
    → (2 ≤ get nodes s.uses k → P s)
    → P (note_one k place s)
unfolding note_one pick
by_naming P k place s f g = go (ltb (get nodes s.uses k) 2) (λ t. f (ltb-true (get nodes s.uses k) 2 t)) (λ t. g (ltb-false (get nodes s.uses k) 2 t))
  where
    go : (b : Bool) → (b ≡ true → P (notes (put nodes s.uses k (get nodes s.uses k + 1)) (put nodes s.places k place))) → (b ≡ false → P s)
        → P (pick b (notes (put nodes s.uses k (get nodes s.uses k + 1)) (put nodes s.places k place)) s)
    go true x y = x refl
    go false x y = y refl

long_one : (k place : ℕ) (s : Notes) → Long s → Long (note_one k place s)
long_one k place s l =
    by_naming Long k place s
    (λ h.
    record {
      uses = put_length nodes s.uses k (get nodes s.uses k + 1) ∙ l.uses;
      places = put_length nodes s.places k place ∙ l.places;
    })
    (λ h. l)

pub long_all : (ks : List ℕ) (place : ℕ) (s : Notes) → Long s → Long (note_all ks place s)
unfolding note_all
long_all [] place s l = l
long_all (k ∷ ks) place s l = long_all ks place (note_one k place s) (long_one k place s l)

uses_one : (k place : ℕ) (s : Notes) → Long s → (e : ℕ) → e < nodes → get nodes s.uses e ≤ 2
    → get nodes (note_one k place s).uses e ≡ min 2 (get nodes s.uses e + count e (k ∷ []))
uses_one k place s l e h b =
    by_naming (λ r. get nodes r.uses e ≡ min 2 (get nodes s.uses e + count e (k ∷ []))) k place s
    (λ low.
    by_eq e k
    (λ q. rw (count_same e k [] q, q) (get_same nodes s.uses k (get nodes s.uses k + 1) l.uses (rw q at h) ∙ omega arith))
    (λ q. rw (count_other e k [] q, get_other nodes s.uses k (get nodes s.uses k + 1) e q) (omega arith)))
    (λ high. by_eq e k (λ q. rw q (omega (arith, rw q at b))) (λ q. rw (count_other e k [] q) (omega arith)))

pub uses_are : (ks : List ℕ) (place : ℕ) (s : Notes) → Long s → (e : ℕ) → e < nodes → get nodes s.uses e ≤ 2
    → get nodes (note_all ks place s).uses e ≡ min 2 (get nodes s.uses e + count e ks)
unfolding note_all
uses_are [] place s l e h b = omega arith
uses_are (k ∷ ks) place s l e h b =
    let one = uses_one k place s l e h b in
    let rest = uses_are ks place (note_one k place s) (long_one k place s l) e h (omega (arith, one)) in
    omega (arith, one, rest)

pub place_kept : (ks : List ℕ) (place : ℕ) (s : Notes) (e : ℕ) → count e ks ≡ 0 → get nodes (note_all ks place s).places e ≡ get nodes s.places e
unfolding note_all
place_kept [] place s e z = refl
place_kept (k ∷ ks) place s e z =
    by_eq e k
    (λ q. absurd (omega (arith, count_same e k ks q)))
    (λ q.
    place_kept ks place (note_one k place s) e (omega (arith, count_other e k ks q))
    ∙ by_naming (λ r. get nodes r.places e ≡ get nodes s.places e) k place s (λ h. get_other nodes s.places k place e q) (λ h. refl))

-- once it stands at the place, it stays there
place_stays : (ks : List ℕ) (place : ℕ) (s : Notes) → Long s → (e : ℕ) → e < nodes → get nodes s.places e ≡ place → get nodes (note_all ks place s).places e ≡ place
unfolding note_all
place_stays [] place s l e h at = at
place_stays (k ∷ ks) place s l e h at =
    place_stays ks place (note_one k place s) (long_one k place s l) e h
    (by_naming (λ r. get nodes r.places e ≡ place) k place s
    (λ low. by_eq e k (λ q. rw q (get_same nodes s.places k place l.places (rw q at h))) (λ q. get_other nodes s.places k place e q ∙ at))
    (λ high. at))

pub place_new : (ks : List ℕ) (place : ℕ) (s : Notes) → Long s → (e : ℕ) → e < nodes → get nodes s.uses e < 2 → 1 ≤ count e ks → get nodes (note_all ks place s).places e ≡ place
unfolding note_all
place_new [] place s l e h u m = absurd (omega arith)
place_new (k ∷ ks) place s l e h u m =
    by_eq e k
    (λ q.
    place_stays ks place (note_one k place s) (long_one k place s l) e h
    (by_naming (λ r. get nodes r.places e ≡ place) k place s
    (λ low. rw q (get_same nodes s.places k place l.places (rw q at h)))
    (λ high. absurd (omega (arith, rw q at u)))))
    (λ q.
    place_new ks place (note_one k place s) (long_one k place s l) e h
    (by_naming (λ r. get nodes r.uses e < 2) k place s (λ low. rw (get_other nodes s.uses k (get nodes s.uses k + 1) e q) u) (λ high. u))
    (omega (arith, count_other e k ks q)))

-- a loop that notes what each place of 0 .. n - 1 names: what is left, from place i on, leaves the notes that the whole leaves
pub record ListLeft (f : ℕ → List ℕ) (i n place : ℕ) (now first : Notes) : Type 0 where
  pub says : note_all (gather f i (n - i)) place now ≡ note_all (gather f 0 n) place first

pub left_goes : {f : ℕ → List ℕ} {i n place : ℕ} {s r first : Notes} → ListLeft f i n place s first → i < n → r ≡ note_all (f i) place s → ListLeft f (i + 1) n place r first
unfolding gather
left_goes {f} {i} {n} {place} {s} {r} left l e =
    let w : n - i ≡ suc (n - suc i) = omega arith in
    record { says = rw (e, add-one) (sym (note_append (f i) (gather f (suc i) (n - suc i)) place s) ∙ (rw w at left.says)) }

pub left_ends : {f : ℕ → List ℕ} {i n place : ℕ} {s first : Notes} → ListLeft f i n place s first → n ≤ i → s ≡ note_all (gather f 0 n) place first
unfolding gather note_all
left_ends {f} {i} {n} left l = let w : n - i ≡ 0 = omega arith in rw w at left.says

-- a step that passes r items: it leaves what any part of them leaves
pub left_passed : {f : ℕ → List ℕ} {i n r place : ℕ} {s t first : Notes} → ListLeft f i n place s first → i < n → 1 ≤ r
    → ((m : ℕ) → 1 ≤ m → m ≤ r → note_all (gather f i m) place s ≡ t) → ListLeft f (i + r) n place t first
unfolding gather note_all
left_passed {f} {i} {n} {r} {place} {s} {t} {first} left l o e =
    by_test (leb r (n - i))
    (λ y.
    let h : r ≤ n - i = leb-true r (n - i) y in
    let w : n - i ≡ r + (n - (i + r)) = omega arith in
    record {
      says =
          ap (note_all (gather f (i + r) (n - (i + r))) place) (sym (e r o (omega arith)))
          ∙ sym (note_append (gather f i r) (gather f (i + r) (n - (i + r))) place s)
          ∙ ap (λ (ks : List ℕ). note_all ks place s) (sym (gather_split f r i (n - (i + r))))
          ∙ ap (λ (x : ℕ). note_all (gather f i x) place s) (sym w)
          ∙ left.says;
    })
    (λ y.
    let h : n - i < r = leb-false r (n - i) y in
    let z : n - (i + r) ≡ 0 = omega arith in
    record { says = rw z (sym (e (n - i) (omega arith) (omega arith)) ∙ left.says) })
