-- The account of walks leaves one answer: two answers that say what it asks for are equal.
-- Assumes nothing.
use mathlib.Core.Path.{◌≡◌, refl, sym, ap, subst, ◌∙◌}
use mathlib.Core.Logic.{⊎_elim}
use mathlib.Core.List.{List, [], ◌∷◌, Memᴰ}
use Prim.Native.Nat.{ℕ, ◌<◌}
use native.Mathlib.Omega.{arith}
use lib.ListN.{get_or}
use Rattle.laws.specs.declared.fault.Fault.{Fault}
use Rattle.laws.specs.declared.fault.Fault.TheVariants.{ReferencesItself, OnLongerCycle, ReachesContext}
use Rattle.laws.specs.Lists.{count, In}
use Rattle.laws.proofs.Lists.{count_append, in_append, in_cons}
use Rattle.laws.proofs.Members.{in_self, in_subst, in_at, by_le}
use Rattle.components.specs.Account.{Uses, Lists, Refuses, is₅₀, is₅₁, is₅₂, Says}
use Rattle.components.specs.Answers.{Answer, listed, refused}
use Rattle.components.specs.DepthFirst.{depth_first}
use Rattle.components.specs.Tarjan.{flat, listing, last_of, first_members}
use Rattle.components.specs.Walks.{Edge, Walk, one, Fits}
use Rattle.components.proofs.Answers.{refuses_not}
use Rattle.components.proofs.Classes.{count_listing}
use Rattle.components.proofs.Parts.{same_part}
use Rattle.components.proofs.Reached.{found_once, finished_once}
use Rattle.components.proofs.Rooms.{full}

-- ---- members of components, and their first members

member_of : (y : ℕ) (cs : List (List ℕ)) → In y (flat cs) → (c : List ℕ) × Memᴰ c cs × In y c
member_of y [] h = absurd (omega arith)
member_of y (c ∷ cs) h = ⊎_elim (λ i. (c, Memᴰ.head refl, i)) (λ i. let t = member_of y cs i in (t.0, Memᴰ.tail t.1, t.2)) (in_append y c (flat cs) h)

in_flat : (y : ℕ) (c : List ℕ) (cs : List (List ℕ)) → Memᴰ c cs → In y c → In y (flat cs)
in_flat y c cs (Memᴰ.head {x} {xs} e) h = omega (arith, count_append y x (flat xs), subst (λ (l : List ℕ). In y l) e h)
in_flat y c cs (Memᴰ.tail {x} {xs} k) h = omega (arith, count_append y x (flat xs), in_flat y c xs k h)

last_in : (x : ℕ) (xs : List ℕ) → In (last_of x xs) (x ∷ xs)
last_in x [] = in_self x []
last_in x (y ∷ xs) = omega (arith, last_in y xs)

last_of_some : (c : List ℕ) (x : ℕ) → In x c → In (last_of 0 c) c
last_of_some [] x h = absurd (omega arith)
last_of_some (y ∷ c) x h = last_in y c

first_of : (m : ℕ) (cs : List (List ℕ)) → In m (first_members cs) → (c : List ℕ) × Memᴰ c cs × (m ≡ last_of 0 c)
first_of m [] h = absurd (omega arith)
first_of m (c ∷ cs) h = ⊎_elim (λ e. (c, Memᴰ.head refl, e)) (λ i. let t = first_of m cs i in (t.0, Memᴰ.tail t.1, t.2)) (in_cons m (last_of 0 c) (first_members cs) h)

is_first : (c : List ℕ) (cs : List (List ℕ)) → Memᴰ c cs → In (last_of 0 c) (first_members cs)
is_first c cs (Memᴰ.head {x} {xs} e) = in_subst (first_members (x ∷ xs)) (ap (last_of 0) (sym e)) (in_self (last_of 0 x) (first_members xs))
is_first c cs (Memᴰ.tail {x} {xs} k) = omega (arith, is_first c xs k)

-- components that share a member are equal
abbrev Shares : List (List ℕ) → List (List ℕ) → Type 0
Shares cs ds = (c d : List ℕ) (a : ℕ) → Memᴰ c cs → Memᴰ d ds → In a c → In a d → c ≡ d

abbrev Some : List (List ℕ) → Type 0
Some cs = (c : List ℕ) → Memᴰ c cs → (x : ℕ) × In x c

by_firsts : (cs ds : List (List ℕ)) → Some cs → Some ds → Shares cs ds → first_members cs ≡ first_members ds → cs ≡ ds
by_firsts [] [] sc sd sh e = refl
by_firsts [] (d ∷ ds) sc sd sh e = let z : ◌≡◌ {A = ℕ} 0 1 = cc in absurd (omega arith)
by_firsts (c ∷ cs) [] sc sd sh e = let z : ◌≡◌ {A = ℕ} 0 1 = cc in absurd (omega arith)
by_firsts (c ∷ cs) (d ∷ ds) sc sd sh e =
    let h : last_of 0 c ≡ last_of 0 d = cc in
    let t : first_members cs ≡ first_members ds = cc in
    let x = sc c (Memᴰ.head refl) in
    let y = sd d (Memᴰ.head refl) in
    let q : c ≡ d = sh c d (last_of 0 c) (Memᴰ.head refl) (Memᴰ.head refl) (last_of_some c x.0 x.1) (in_subst d (sym h) (last_of_some d y.0 y.1)) in
    ap (λ (k : List ℕ). k ∷ cs) q ∙ ap (λ (k : List (List ℕ)). d ∷ k) (by_firsts cs ds (λ a k. sc a (Memᴰ.tail k)) (λ a k. sd a (Memᴰ.tail k)) (λ a b u k j. sh a b u (Memᴰ.tail k) (Memᴰ.tail j)) t)

module _ (kind : ℕ → ℕ) (refs : ℕ → List ℕ) (n : ℕ) (fits : Fits refs n) where
  -- each value is in a component, and each member of one is a value
  has_component : {xs : List ℕ} (l : Lists kind refs n xs) (y : ℕ) → y < n → (c : List ℕ) × Memᴰ c l.components × In y c
  has_component l y b = member_of y l.components (omega (arith, l.once y b, ap (count y) l.joined, count_listing y l.components))

  is_value : {xs : List ℕ} (l : Lists kind refs n xs) (c : List ℕ) (y : ℕ) → Memᴰ c l.components → In y c → y < n
  is_value l c y k h = l.only y (omega (arith, in_flat y c l.components k h, ap (count y) l.joined, count_listing y l.components))

  shares : {xs ys : List ℕ} (l : Lists kind refs n xs) (r : Lists kind refs n ys) → Shares l.components r.components
  shares l r c d a kc kd hc hd =
      same_part (depth_first refs n).found (found_once refs n fits) (l.falling c kc) (r.falling d kd)
      (λ y h. (r.classes d kd a y hd).1 ((l.classes c kc a y hc).0 h))
      (λ y h. (l.classes c kc a y hc).1 ((r.classes d kd a y hd).0 h))

  first_too : {xs ys : List ℕ} (l : Lists kind refs n xs) (r : Lists kind refs n ys) (m : ℕ) → In m (first_members l.components) → In m (first_members r.components)
  first_too l r m h =
      let c = first_of m l.components h in
      let s = l.some c.0 c.1 in
      let i : In m c.0 = in_subst c.0 (sym c.2) (last_of_some c.0 s.0 s.1) in
      let d = has_component r m (is_value l c.0 m c.1 i) in
      let e : c.0 ≡ d.0 = shares l r c.0 d.0 m c.1 d.1 i d.2 in
      in_subst (first_members r.components) (sym (c.2 ∙ ap (last_of 0) e)) (is_first d.0 r.components d.1)

  -- there is one listing
  pub one_listing : {xs ys : List ℕ} → Lists kind refs n xs → Lists kind refs n ys → xs ≡ ys
  one_listing l r =
      l.joined
      ∙ ap listing (by_firsts l.components r.components l.some r.some (shares l r) (same_part (depth_first refs n).finished (finished_once refs n fits) l.finishing r.finishing (first_too l r) (first_too r l)))
      ∙ sym r.joined

  -- ---- there is one refusal

  -- the smallest place of which P holds
  one_smallest : (P : ℕ → Type 0) (v w : ℕ) → P v → P w → ((u : ℕ) → u < v → P u → ⊥) → ((u : ℕ) → u < w → P u → ⊥) → v ≡ w
  one_smallest P v w p q f g = by_le v w (λ h. by_le w v (λ k. omega arith) (λ k. absurd (g v k p))) (λ h. absurd (f w h q))

  -- a constant of a listing that has a walk to itself, at place d
  abbrev LoopAt : List ℕ → ℕ → Type 0
  LoopAt xs d = (kind (get_or xs d 0) ≡ 0) × Walk refs (get_or xs d 0) (get_or xs d 0)

  at_value : {xs : List ℕ} (l : Lists kind refs n xs) (d : ℕ) → d < n → get_or xs d 0 < n
  at_value {xs} l d b = l.only (get_or xs d 0) (in_at xs d (omega (arith, full n xs l.once l.only)))

  -- where no constant lists itself, or has a walk to itself
  abbrev NoSelf : Type 0
  NoSelf = (u : ℕ) → u < n → kind u ≡ 0 → ¬ Edge refs u u

  abbrev NoLoop : Type 0
  NoLoop = (u : ℕ) → u < n → kind u ≡ 0 → ¬ Walk refs u u

  same₅₀ : (v : ℕ) → v < n → kind v ≡ 0 → Edge refs v v → ((u : ℕ) → u < v → kind u ≡ 0 → ¬ Edge refs u u) → {j : Fault} {w : ℕ} → Refuses kind refs n j w → ◌≡◌ {A = Answer} (refused ReferencesItself v) (refused j w)
  same₅₀ v l z e m (is₅₀ {v = w} l' z' e' m') = ap (refused ReferencesItself) (one_smallest (λ u. (kind u ≡ 0) × Edge refs u u) v w (z, e) (z', e') (λ u h p. m u h p.0 p.1) (λ u h p. m' u h p.0 p.1))
  same₅₀ v l z e m (is₅₁ ne ys ok d b q z' w m') = absurd (ne v l z e)
  same₅₀ v l z e m (is₅₂ nl l' z' u m') = absurd (nl v l z (one e))

  same₅₁ : {v : ℕ} → NoSelf → (xs : List ℕ) → Lists kind refs n xs → (d : ℕ) → d < n → v ≡ get_or xs d 0 → kind v ≡ 0 → Walk refs v v → ((e : ℕ) → e < d → LoopAt xs e → ⊥) → {j : Fault} {w : ℕ} → Refuses kind refs n j w → ◌≡◌ {A = Answer} (refused OnLongerCycle v) (refused j w)
  same₅₁ ne xs ok d b q z k m (is₅₀ {v = w} l' z' e' m') = absurd (ne w l' z' e')
  same₅₁ {v} ne xs ok d b q z k m (is₅₁ {v = w} ne' ys ok' d' b' q' z' k' m') =
      let s : ys ≡ xs = one_listing ok' ok in
      let p' : LoopAt ys d' = (ap kind (sym q') ∙ z', subst (λ (u : ℕ). Walk refs u u) q' k') in
      let e : d ≡ d' = one_smallest (LoopAt xs) d d' (ap kind (sym q) ∙ z, subst (λ (u : ℕ). Walk refs u u) q k) (subst (λ (l : List ℕ). LoopAt l d') s p') m (λ u h p. let r = subst (λ (l : List ℕ). LoopAt l u) (sym s) p in m' u h r.0 r.1) in
      ap (refused OnLongerCycle) (q ∙ ap (λ (i : ℕ). get_or xs i 0) e ∙ ap (λ (l : List ℕ). get_or l d' 0) (sym s) ∙ sym q')
  same₅₁ {v} ne xs ok d b q z k m (is₅₂ nl l' z' u m') = absurd (nl v (rw q (at_value ok d b)) z k)

  same₅₂ : (v : ℕ) → NoLoop → v < n → kind v ≡ 0 → Uses kind refs n v → ((u : ℕ) → u < v → kind u ≡ 0 → ¬ Uses kind refs n u) → {j : Fault} {w : ℕ} → Refuses kind refs n j w → ◌≡◌ {A = Answer} (refused ReachesContext v) (refused j w)
  same₅₂ v nl l z u m (is₅₀ {v = w} l' z' e' m') = absurd (nl w l' z' (one e'))
  same₅₂ v nl l z u m (is₅₁ {v = w} ne ys ok d b q z' k m') = absurd (nl w (rw q (at_value ok d b)) z' k)
  same₅₂ v nl l z u m (is₅₂ {v = w} nl' l' z' u' m') = ap (refused ReachesContext) (one_smallest (λ i. (kind i ≡ 0) × Uses kind refs n i) v w (z, u) (z', u') (λ i h p. m i h p.0 p.1) (λ i h p. m' i h p.0 p.1))

  pub one_refusal : {k : Fault} {v : ℕ} {j : Fault} {w : ℕ} → Refuses kind refs n k v → Refuses kind refs n j w → ◌≡◌ {A = Answer} (refused k v) (refused j w)
  one_refusal (is₅₀ {v} l z e m) r = same₅₀ v l z e m r
  one_refusal (is₅₁ ne xs ok d b q z k m) r = same₅₁ ne xs ok d b q z k (λ e h p. m e h p.0 p.1) r
  one_refusal (is₅₂ {v} nl l z u m) r = same₅₂ v nl l z u m r

  -- there is one answer
  pub one_answer : (a b : Answer) → Says kind refs n a → Says kind refs n b → a ≡ b
  one_answer (listed xs) (listed ys) s t = ap listed (one_listing s.0 t.0)
  one_answer (listed xs) (refused k v) s t = absurd (refuses_not kind refs n fits k v t s.1)
  one_answer (refused k v) (listed ys) s t = absurd (refuses_not kind refs n fits k v s t.1)
  one_answer (refused k v) (refused j w) s t = one_refusal s t
