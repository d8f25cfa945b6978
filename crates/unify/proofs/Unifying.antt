-- What unifying keeps and brings about.
--     unifies         the rest of unify's contract, from the plan
--     unify_verdict   a refusal is 20, and nothing else
--     unify_joins     after success both sides resolve to the same
--     unify_sets      only an unset variable was set
--     unify_keeps     what resolved to the same thing still does
-- Assumes nothing.
use mathlib.Core.Path.{◌≡◌, refl, sym, ap, ◌∙◌}
use mathlib.Core.List.{List}
use mathlib.Core.Bool.{true}
use Prim.Native.Nat.{ℕ, ◌<◌}
use native.Mathlib.Omega.{arith}
use lib.ListN.{set}
use Rattle.laws.specs.Choice.{pick}
use Rattle.laws.proofs.Choice.{yes, no, by_test}
use Rattle.unionfind.specs.Codes.{number, is_var}
use Rattle.unionfind.specs.Cells.{capacity, trail, among, found, Kept, Knows, Live}
use Rattle.unionfind.specs.Answers.{Answer, set_answer}
use Rattle.std.proofs.Common.{Ok}
use Rattle.unionfind.proofs.Chains.{not_both}
use Rattle.unionfind.proofs.Stores.{Unset, IsUnset, found_after, found_stored, end_among, sets_keep}
use Rattle.unionfind.proofs.States.{live_set, set_done, refused_not_done}
use Rattle.unify.specs.Unify.{mismatch, resolve_of, settled, Resolves, plan_of, answer_to, cells_after, both_settled, plan_for, unify_answer, unify_cells, Unifies}
use Rattle.unify.specs.declared.plan.Plan.{Plan}
use Rattle.unify.specs.declared.plan.Plan.TheVariants.{Same, Clash, Store}
use Rattle.unify.proofs.Resolving.{resolve_var, resolve_other, cell_below, resolves, resolved_same, resolved_unset, kept_both}
use Rattle.unify.proofs.Plans.{Planned, same, clash, rightwards, leftwards, planned}

live_plan : {n : ℕ} {xs : List ℕ} → Live n xs → {a b : ℕ} → Knows n a → Knows n b → {p : Plan} → Planned a b p → Live n (cells_after n xs p)
live_plan l ka kb (same e) = l
live_plan l ka kb clash = l
live_plan l {a = a} {b = b} ka kb (rightwards e) = live_set l (number a) b kb
live_plan l {a = a} {b = b} ka kb (leftwards e) = live_set l (number b) a ka

-- the two sides resolved one after the other, as the code does: x is the left one, y the right one
module _ {n : ℕ} {xs : List ℕ} (l : Live n xs) {a b : ℕ} (ka : Knows n a) (kb : Knows n b)
    {x : ℕ} {ys : List ℕ} (one : Resolves n xs a x ys) {y : ℕ} {zs : List ℕ} (two : Resolves n ys b y zs) where
  pub unifies : (marks : List ℕ) (at : ℕ) {p : Plan} → p ≡ plan_of marks x y → Unifies n marks at xs a b (answer_to n zs at p) (cells_after n zs p)
  unfolding unify_answer unify_cells
  unifies marks at {p = p} e =
      let y' : y ≡ resolve_of xs b = two.answer ∙ resolved_same l kb one.kept in
      let z' : zs ≡ both_settled xs a b = two.cells ∙ ap (λ (l : List ℕ). settled l b) one.cells in
      let p' : p ≡ plan_for marks xs a b = rw (one.answer, y') at e in
      record { answer = rw (z', p'); cells = rw (z', p'); live = rw e (live_plan two.live one.known two.known (planned marks x y)) }

-- 20 where the plan is a clash, else done
abbrev pub verdict : ℕ → Plan → Answer
verdict at Same = Ok _
verdict at Clash = mismatch at
verdict at (Store v x) = Ok _

-- x, a resolved side, is stored into v
module _ {n : ℕ} {ys : List ℕ} (l : Live n ys) (v x : ℕ) (h : v < n) (kx : Knows n x) (u : is_var x ≡ true → Unset ys x) where
  pub store_done : set_answer n ys v x ≡ Ok _
  store_done = set_done v x h kx u

  store_live : Live n (set ys v x)
  store_live = rw store_done at (live_set l v x kx)

  found_now : (w : ℕ) → w < capacity → found (set ys v x) w ≡ pick (among v (trail ys w)) x (found ys w)
  found_now w m =
      found_after l.loopfree v x store_live.loopfree w m
      ∙ ap (λ (r : ℕ). pick (among v (trail ys w)) r (found ys w)) (found_stored l.loopfree v x (omega (arith, l.room)) store_live.loopfree u)

  -- a side that resolved to x still does
  stays : {b : ℕ} → Knows n b → resolve_of ys b ≡ x → resolve_of (set ys v x) b ≡ x
  stays {b = b} k e =
      by_test (is_var b)
      (λ i.
      let f : found ys (number b) ≡ x = resolve_var ys b i ∙ e in
      sym (resolve_var (set ys v x) b i)
      ∙ found_now (number b) (cell_below l k i)
      ∙ by_test (among v (trail ys (number b))) (λ t. sym (yes _ _ _ t refl)) (λ t. sym (no _ _ _ t (sym f))))
      (λ i. sym (resolve_other (set ys v x) b i) ∙ resolve_other ys b i ∙ e)

  -- a side that resolved to the variable v now resolves to x
  moves : {a : ℕ} → Knows n a → is_var (resolve_of ys a) ≡ true → v ≡ number (resolve_of ys a) → resolve_of (set ys v x) a ≡ x
  moves {a = a} k p e =
      by_test (is_var a)
      (λ i.
      let c : number a < capacity = cell_below l k i in
      let r : found ys (number a) ≡ resolve_of ys a = resolve_var ys a i in
      let m : among v (trail ys (number a)) ≡ true = rw (e, ← r) (end_among l.loopfree (number a) c (rw r p)) in
      sym (resolve_var (set ys v x) a i) ∙ found_now (number a) c ∙ sym (yes _ _ _ m refl))
      (λ i. absurd (not_both (rw (resolve_other ys a i) at i) p))

-- ---- both sides of one unify

-- the state that the plan is made in: x and y are the resolved sides, ys the cells with both settled
record Ready (n : ℕ) (xs ys : List ℕ) (a b x y : ℕ) : Type 0 where
  kept : Kept xs ys
  live : Live n ys
  left : Knows n x
  right : Knows n y
  from_left : resolve_of ys a ≡ x
  from_right : resolve_of ys b ≡ y
  left_unset : is_var x ≡ true → Unset ys x
  right_unset : is_var y ≡ true → Unset ys y

module _ {n : ℕ} {xs : List ℕ} (l : Live n xs) {a b : ℕ} (ka : Knows n a) (kb : Knows n b) where
  ready : Ready n xs (both_settled xs a b) a b (resolve_of xs a) (resolve_of xs b)
  ready =
      let one = resolves l ka in
      let two = resolves one.live kb in
      let k : Kept xs (both_settled xs a b) = kept_both one.kept two.kept in
      record {
        kept = k;
        live = two.live;
        left = one.known;
        right = (resolves l kb).known;
        from_left = resolved_same l ka k;
        from_right = resolved_same l kb k;
        left_unset = resolved_unset l ka k;
        right_unset = resolved_unset l kb k;
      }

plan_verdict : {n : ℕ} {xs ys : List ℕ} {a b x y : ℕ} → Ready n xs ys a b x y → (at : ℕ) {p : Plan} → Planned x y p → answer_to n ys at p ≡ verdict at p
plan_verdict r at (same e) = refl
plan_verdict r at clash = refl
plan_verdict {x = x} {y = y} r at (rightwards e) = store_done r.live (number x) y (r.left.var e) r.right r.right_unset
plan_verdict {x = x} {y = y} r at (leftwards e) = store_done r.live (number y) x (r.right.var e) r.left r.left_unset

plan_joins : {n : ℕ} {xs ys : List ℕ} {a b x y : ℕ} → Knows n a → Knows n b → Ready n xs ys a b x y → (at : ℕ) {p : Plan} → Planned x y p → verdict at p ≡ Ok _
    → resolve_of (cells_after n ys p) a ≡ resolve_of (cells_after n ys p) b
plan_joins ka kb r at (same e) d = r.from_left ∙ e ∙ sym r.from_right
plan_joins ka kb r at clash d = absurd (refused_not_done d)
plan_joins {x = x} {y = y} ka kb r at (rightwards e) d =
    let h = r.left.var e in
    rw (store_done r.live (number x) y h r.right r.right_unset)
    (moves r.live (number x) y h r.right r.right_unset ka (rw r.from_left e) (rw r.from_left)
    ∙ sym (stays r.live (number x) y h r.right r.right_unset kb r.from_right))
plan_joins {x = x} {y = y} ka kb r at (leftwards e) d =
    let h = r.right.var e in
    rw (store_done r.live (number y) x h r.left r.left_unset)
    (stays r.live (number y) x h r.left r.left_unset ka r.from_left
    ∙ sym (moves r.live (number y) x h r.left r.left_unset kb (rw r.from_right e) (rw r.from_right)))

-- the cell that a plan stores into is unset
is_unset : {ys : List ℕ} {x : ℕ} → Unset ys x → is_var x ≡ true → IsUnset ys (number x)
is_unset u e = record { var = rw u.holds e; own = rw u.holds }

plan_sets : {n : ℕ} {xs ys : List ℕ} {a b x y : ℕ} → Ready n xs ys a b x y → {p : Plan} → Planned x y p → (v z : ℕ) → p ≡ Store v z → IsUnset ys v
plan_sets r (same e) v z q = absurd (let w : ◌≡◌ {A = ℕ} 0 1 = cc in omega arith)
plan_sets r clash v z q = absurd (let w : ◌≡◌ {A = ℕ} 0 1 = cc in omega arith)
plan_sets {ys = ys} {x = x} {y = y} r (rightwards e) v z q = let w : number x ≡ v = cc in rw (← w) (is_unset (r.left_unset e) e)
plan_sets {ys = ys} {x = x} {y = y} r (leftwards e) v z q = let w : number y ≡ v = cc in rw (← w) (is_unset (r.right_unset e) e)

-- two variables that resolved to the same
plan_keeps : {n : ℕ} {xs ys : List ℕ} {a b x y : ℕ} → Ready n xs ys a b x y → {p : Plan} → Planned x y p → (u w : ℕ) → u < capacity → w < capacity
    → found ys u ≡ found ys w → found (cells_after n ys p) u ≡ found (cells_after n ys p) w
plan_keeps r (same e) u w h k q = q
plan_keeps r clash u w h k q = q
plan_keeps {x = x} {y = y} r (rightwards e) u w h k q =
    let m = r.left.var e in
    rw (store_done r.live (number x) y m r.right r.right_unset)
    (sets_keep r.live.loopfree (number x) y (store_live r.live (number x) y m r.right r.right_unset).loopfree (is_unset (r.left_unset e) e) u w h k q)
plan_keeps {x = x} {y = y} r (leftwards e) u w h k q =
    let m = r.right.var e in
    rw (store_done r.live (number y) x m r.left r.left_unset)
    (sets_keep r.live.loopfree (number y) x (store_live r.live (number y) x m r.left r.left_unset).loopfree (is_unset (r.right_unset e) e) u w h k q)

module _ {n : ℕ} {xs : List ℕ} (l : Live n xs) (marks : List ℕ) (at : ℕ) {a b : ℕ} (ka : Knows n a) (kb : Knows n b) where
  pub unify_verdict : unify_answer n marks at xs a b ≡ verdict at (plan_for marks xs a b)
  unfolding unify_answer
  unify_verdict = plan_verdict (ready l ka kb) at (planned marks (resolve_of xs a) (resolve_of xs b))

  pub unify_joins : unify_answer n marks at xs a b ≡ Ok _ → resolve_of (unify_cells n marks xs a b) a ≡ resolve_of (unify_cells n marks xs a b) b
  unfolding unify_cells
  unify_joins d = plan_joins ka kb (ready l ka kb) at (planned marks (resolve_of xs a) (resolve_of xs b)) (sym unify_verdict ∙ d)

  pub unify_sets : (v z : ℕ) → plan_for marks xs a b ≡ Store v z → IsUnset (both_settled xs a b) v
  unify_sets v z e = plan_sets (ready l ka kb) (planned marks (resolve_of xs a) (resolve_of xs b)) v z e

  pub unify_keeps : (u w : ℕ) → u < capacity → w < capacity → found xs u ≡ found xs w → found (unify_cells n marks xs a b) u ≡ found (unify_cells n marks xs a b) w
  unfolding unify_cells
  unify_keeps u w h k e =
      let r = ready l ka kb in
      plan_keeps r (planned marks (resolve_of xs a) (resolve_of xs b)) u w h k (r.kept.same u h ∙ e ∙ sym (r.kept.same w k))
