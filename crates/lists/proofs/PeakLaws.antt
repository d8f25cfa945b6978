-- The tree over all items.
--     node_more              its nodes, filled one by one
--     halves, edge_fails     a range of places, judged by its ends and by the nodes above the rest
--     leaf_at                the items of a list lie side by side
--     range_items            what a range of leaves says of the items
-- Assumes nothing.
use Prim.Native.Nat.{ℕ, zero, suc, ◌+◌, ◌*◌, ◌-◌, ◌/◌, ◌%◌, ◌<◌, ◌≤◌, max}
use mathlib.Core.Path.{◌≡◌, refl, sym, ap, ◌∙◌}
use mathlib.Core.Bool.{Bool, true, false, ◌||◌}
use mathlib.Core.List.{List}
use native.Mathlib.Omega.{arith}
use native.Mathlib.Nat.{mul-add, mul-suc, mul-le-mul_left, le_of_mul-le-mul_left, mod-lt, div-add-mod, mul-add-div, div-eq_of_lt, mul-add-mod_self_left, mod-eq_of_lt, add-zero, lt_of_mul-lt-mul_left, div-lt_iff_lt-mul, mul_comm, mul-zero}
use lib.Dec.{eqb, ltb}
use lib.ListN.{length, get_or, set, length-set}
use lib.Seq.{get_or-set_same, get_or-set_other}
use borrow.Author.Tests.{lt-ltb, ltb-true, ne_eqb}
use Rattle.laws.specs.First.{all}
use Rattle.laws.proofs.Choice.{by_eq, by_test, fails, and_both}
use Rattle.laws.proofs.First.{all_in, all_of}
use Rattle.laws.proofs.Tests.{same_test, or_true, or_right, same_all}
use Rattle.pack.specs.declared.counts.Counts.{Counts}
use Rattle.lists.specs.Forms.{number, form_at, stride}
use Rattle.lists.specs.declared.forms.Form.{Form}
use Rattle.lists.specs.declared.forms.Form.TheVariants.{Id, Word, Variant, Arm, Name, Reference}
use Rattle.lists.specs.Peaks.{weight, region, leaves, lane, spot, place, leaf, Nodes, Peaks, edges_below}

-- ---- filling

-- what stands from y₀ on was not touched
pub record Kept (y₀ : ℕ) (cells₀ cells : List ℕ) : Type 0 where
  pub long : length cells ≡ length cells₀
  pub same : (i : ℕ) → y₀ ≤ i → get_or cells i 0 ≡ get_or cells₀ i 0

pub kept_more : {y₀ : ℕ} {cells₀ cells : List ℕ} → Kept y₀ cells₀ cells → (y v : ℕ) → y < y₀ → Kept y₀ cells₀ (set cells y v)
kept_more {y₀} {cells₀} {cells} t y v l =
    record {
      long = length-set cells y v ∙ t.long;
      same = λ i h. get_or-set_other cells y i v 0 (λ u. omega arith) ∙ t.same i h;
    }

pub node_more : {n y₀ : ℕ} {cells : List ℕ} → Nodes n y₀ cells → (y v : ℕ) → y + 1 ≡ y₀ → 1 ≤ y → y < length cells
    → v ≡ max (get_or cells (2 * y) 0) (get_or cells (2 * y + 1) 0) → Nodes n y (set cells y v)
node_more {n} {y₀} {cells} t y v w l h e =
    record {
      larger =
          λ i a b.
          by_eq i y
          (λ q. rw q (get_or-set_same cells y v 0 h ∙ e ∙ sym (under y (omega arith))))
          (λ q. get_or-set_other cells y i v 0 q ∙ t.larger i (omega arith) b ∙ sym (under i (omega arith)));
    }
  where
    under : (i : ℕ) → y ≤ i → max (get_or (set cells y v) (2 * i) 0) (get_or (set cells y v) (2 * i + 1) 0) ≡ max (get_or cells (2 * i) 0) (get_or cells (2 * i + 1) 0)
    under i a = rw (get_or-set_other cells y (2 * i) v 0 (λ u. omega arith), get_or-set_other cells y (2 * i + 1) v 0 (λ u. omega arith)) refl

-- ---- a range of places

abbrev pub below : List ℕ → ℕ → ℕ → Bool
below cells limit x = ltb (get_or cells x 0) limit

-- what is left of the range says what the whole says
pub record Range (cells : List ℕ) (limit l r : ℕ) (whole : Bool) : Type 0 where
  pub says : all (below cells limit) l r ≡ whole

module _ (cells : List ℕ) (limit n : ℕ) (t : Nodes n 1 cells) where
  under : (y : ℕ) → 1 ≤ y → y < n → below cells limit (2 * y) ≡ true → below cells limit (2 * y + 1) ≡ true → below cells limit y ≡ true
  under y a b e f =
      lt-ltb (get_or cells y 0) limit (omega (arith, t.larger y a b, ltb-true (get_or cells (2 * y) 0) limit e, ltb-true (get_or cells (2 * y + 1) 0) limit f))

  left : (y : ℕ) → 1 ≤ y → y < n → below cells limit y ≡ true → below cells limit (2 * y) ≡ true
  left y a b e = lt-ltb (get_or cells (2 * y) 0) limit (omega (arith, t.larger y a b, ltb-true (get_or cells y 0) limit e))

  right : (y : ℕ) → 1 ≤ y → y < n → below cells limit y ≡ true → below cells limit (2 * y + 1) ≡ true
  right y a b e = lt-ltb (get_or cells (2 * y + 1) 0) limit (omega (arith, t.larger y a b, ltb-true (get_or cells y 0) limit e))

  pub halves : (l r : ℕ) → 1 ≤ l → l < r → r ≤ 2 * n → edges_below cells l r limit ≡ true
      → all (below cells limit) l r ≡ all (below cells limit) ((l + 1) / 2) (r / 2)
  halves l r a b h e = same_test (all (below cells limit) l r) (all (below cells limit) ((l + 1) / 2) (r / 2)) down up
    where
      ends : ((eqb (l % 2) 0 || below cells limit l) ≡ true) × ((eqb (r % 2) 0 || below cells limit (r - 1)) ≡ true)
      ends = and_both (eqb (l % 2) 0 || below cells limit l) (eqb (r % 2) 0 || below cells limit (r - 1)) e

      down : all (below cells limit) l r ≡ true → all (below cells limit) ((l + 1) / 2) (r / 2) ≡ true
      down f =
          all_of (below cells limit) ((l + 1) / 2) (r / 2)
          (λ y u v.
          under y (omega arith) (omega arith)
          (all_in (below cells limit) l r f (2 * y) (omega arith) (omega arith))
          (all_in (below cells limit) l r f (2 * y + 1) (omega arith) (omega arith)))

      up : all (below cells limit) ((l + 1) / 2) (r / 2) ≡ true → all (below cells limit) l r ≡ true
      up f = all_of (below cells limit) l r (λ x u v. by_eq (x % 2) 0 (λ q. even x u v q) (λ q. odd x u v q))
        where
          above : (x : ℕ) → (l + 1) / 2 ≤ x / 2 → x / 2 < r / 2 → below cells limit (x / 2) ≡ true
          above x u v = all_in (below cells limit) ((l + 1) / 2) (r / 2) f (x / 2) u v

          even : (x : ℕ) → l ≤ x → x < r → x % 2 ≡ 0 → below cells limit x ≡ true
          even x u v q =
              by_eq (x + 1) r
              (λ w.
              let s : x ≡ r - 1 = omega arith in
              ap (below cells limit) s ∙ or_right (eqb (r % 2) 0) (below cells limit (r - 1)) ends.1 (ne_eqb (r % 2) 0 (λ z. omega arith)))
              (λ w.
              let s : x ≡ 2 * (x / 2) = omega arith in
              ap (below cells limit) s ∙ left (x / 2) (omega arith) (omega arith) (above x (omega arith) (omega arith)))

          odd : (x : ℕ) → l ≤ x → x < r → (x % 2 ≡ 0 → ⊥) → below cells limit x ≡ true
          odd x u v q =
              by_eq x l
              (λ w. ap (below cells limit) w ∙ or_right (eqb (l % 2) 0) (below cells limit l) ends.0 (ne_eqb (l % 2) 0 (λ z. q (omega arith))))
              (λ w.
              let m : x % 2 ≡ 1 = omega arith in
              let s : x ≡ 2 * (x / 2) + 1 = omega arith in
              ap (below cells limit) s ∙ right (x / 2) (omega arith) (omega arith) (above x (omega arith) (omega arith)))

pub edge_fails : (cells : List ℕ) (limit l r : ℕ) → l < r → edges_below cells l r limit ≡ false → all (below cells limit) l r ≡ false
edge_fails cells limit l r h f = by_test (all (below cells limit) l r) (λ t. absurd (fails (sym (hold t) ∙ f))) (λ g. g)
  where
    hold : all (below cells limit) l r ≡ true → edges_below cells l r limit ≡ true
    hold t =
        rw (all_in (below cells limit) l r t l (omega arith) h, all_in (below cells limit) l r t (r - 1) (omega arith) (omega arith))
        (rw (or_true (eqb (l % 2) 0), or_true (eqb (r % 2) 0)) refl)

-- ---- where items lie

pub stride_pos : (form : Form) → 0 < stride form
stride_pos Id = omega arith
stride_pos Word = omega arith
stride_pos Variant = omega arith
stride_pos Arm = omega arith
stride_pos Name = omega arith
stride_pos Reference = omega arith

pub number_most : (form : Form) → number form ≤ 5
number_most Id = omega arith
number_most Word = omega arith
number_most Variant = omega arith
number_most Arm = omega arith
number_most Name = omega arith
number_most Reference = omega arith

numbered : (form : Form) → form_at (number form) ≡ form
numbered Id = refl
numbered Word = refl
numbered Variant = refl
numbered Arm = refl
numbered Name = refl
numbered Reference = refl

-- the lanes of a form are its whole region
pub lanes : (c : Counts) (form : Form) → stride form * lane c form ≡ region c
unfolding lane
lanes c Id = omega arith
lanes c Word = omega arith
lanes c Variant = omega arith
lanes c Arm = omega arith
lanes c Name = omega arith
lanes c Reference = omega arith

-- a number written by a whole and a part
whole_part : (m a y : ℕ) → y < m → ((m * a + y) / m ≡ a) × ((m * a + y) % m ≡ y)
whole_part m a y l =
    let d : y / m ≡ 0 = div-eq_of_lt l in
    (mul-add-div (omega arith) a y ∙ rw d (add-zero a), mul-add-mod_self_left m a y ∙ mod-eq_of_lt l)

pub lane_pos : (c : Counts) (form : Form) → 0 < lane c form
lane_pos c form = pos_right (stride form) (lane c form) (omega (arith, lanes c form))
  where
    pos_right : (b u : ℕ) → 0 < b * u → 0 < u
    pos_right b zero h = absurd (omega (arith, mul-zero b))
    pos_right b (suc u) h = omega arith

-- the part of a number that lies in its lane
pub in_place : (c : Counts) (form : Form) (y : ℕ) → y < region c → place c form y < region c
unfolding place
in_place c form y l =
    let b = stride form in
    let u = lane c form in
    let pos : 0 < u = lane_pos c form in
    let rest : y % u < u = mod-lt y pos in
    let q : y / u < b = (div-lt_iff_lt-mul pos).1 (omega (arith, lanes c form)) in
    omega (arith, lanes c form, mul-le-mul_left b rest, mul-suc b (y % u))

-- item k of the list is the part k further on
within : (c : Counts) (form : Form) (j k : ℕ) → j + stride form * k ≤ c.words → j / stride form + k < lane c form
within c form j k l = lt_of_mul-lt-mul_left (stride form) (omega (arith, mul-add (stride form) (j / stride form) k, div-add-mod j (stride form), lanes c form))

in_region : (c : Counts) (form : Form) (j k : ℕ) → j + stride form * k ≤ c.words → lane c form * (j % stride form) + (j / stride form + k) < region c
in_region c form j k l =
    let rest : j % stride form < stride form = mod-lt j (stride_pos form) in
    omega (arith, within c form j k l, lanes c form, mul-le-mul_left (lane c form) rest, mul-suc (lane c form) (j % stride form), mul_comm (lane c form) (stride form))

in_lane : (c : Counts) (form : Form) (j k : ℕ) → j + stride form * k ≤ c.words → place c form (lane c form * (j % stride form) + (j / stride form + k)) ≡ j + stride form * k
unfolding place
in_lane c form j k l =
    let e = whole_part (lane c form) (j % stride form) (j / stride form + k) (within c form j k l) in
    rw (e.0, e.1) (omega (arith, mul-add (stride form) (j / stride form) k, div-add-mod j (stride form)))

-- the leaf of item k of a list whose first item starts at word j
pub leaf_at : (p : List ℕ) (c : Counts) (form : Form) (j k : ℕ) → j + stride form * k ≤ c.words → leaf p c (spot c form j + k) ≡ weight p c form (j + stride form * k)
unfolding leaf spot
leaf_at p c form j k l =
    ap (λ (x : ℕ). weight p c (form_at (x / region c)) (place c (form_at (x / region c)) (x % region c))) at
    ∙ ap (λ (f : Form). weight p c f (place c f ((region c * number form + y) % region c))) (ap form_at parts.0 ∙ numbered form)
    ∙ ap (λ (z : ℕ). weight p c form (place c form z)) parts.1
    ∙ ap (weight p c form) (in_lane c form j k l)
  where
    y : ℕ
    y = lane c form * (j % stride form) + (j / stride form + k)

    at : region c * number form + (lane c form * (j % stride form) + j / stride form) + k ≡ region c * number form + y
    at = omega arith

    parts : ((region c * number form + y) / region c ≡ number form) × ((region c * number form + y) % region c ≡ y)
    parts = whole_part (region c) (number form) y (in_region c form j k l)

-- the last leaf of a list lies in the tree
pub spot_end : (c : Counts) (form : Form) (j n : ℕ) → j + stride form * n ≤ c.words + 1 → spot c form j + n ≤ leaves c
unfolding spot
spot_end c form j n l =
    let b = stride form in
    let u = lane c form in
    let rest : j % b < b = mod-lt j (stride_pos form) in
    let within : j / b + n ≤ u = le_of_mul-le-mul_left (omega (arith, mul-add b (j / b) n, div-add-mod j b, lanes c form)) (stride_pos form) in
    let next : number form + 1 ≤ 6 = omega (arith, number_most form) in
    omega (arith, lanes c form, mul-le-mul_left u rest, mul-suc u (j % b), mul_comm u b, mul-le-mul_left (region c) next, mul-add (region c) (number form) 1)

-- what a range of cells says of the items of a list
pub range_items : (p : List ℕ) (c : Counts) (cells : List ℕ) → Peaks p c cells → (form : Form) (j n limit from : ℕ) → from ≡ spot c form j → j + stride form * n ≤ c.words + 1
    → all (below cells limit) (leaves c + from) (leaves c + from + n) ≡ all (λ k. ltb (weight p c form (j + stride form * k)) limit) 0 n
range_items p c cells t form j n limit from e l =
    same_all (below cells limit) (λ k. ltb (weight p c form (j + stride form * k)) limit) (leaves c + from) n
    (λ k h.
    let q : leaves c + from + k ≡ leaves c + (from + k) = omega arith in
    ap (λ (v : ℕ). ltb v limit)
    (ap (λ (x : ℕ). get_or cells x 0) q
    ∙ t.tips.each (from + k) (omega (arith, spot_end c form j n l))
    ∙ ap (λ (x : ℕ). leaf p c (x + k)) e
    ∙ leaf_at p c form j k (omega (arith, stride_pos form, mul-le-mul_left (stride form) h, mul-suc (stride form) k))))
