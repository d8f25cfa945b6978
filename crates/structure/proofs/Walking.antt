-- The walk of a list through its tree, as the code takes it.
-- Assumes nothing.
use mathlib.Core.Path.{◌≡◌, refl, sym, ap, ◌∙◌}
use mathlib.Core.List.{List}
use Prim.Native.Nat.{ℕ, ◌+◌, ◌*◌, ◌/◌, ◌%◌, ◌<◌, ◌≤◌}
use native.Mathlib.Omega.{arith}
use Rattle.std.specs.Prelude.{Option, None, Some, MatchOption}
use lib.ListN.{get_or}
use borrow.Author.Tests.{eqb-true}
use Rattle.laws.specs.Bounded.{Reads}
use Rattle.laws.proofs.Bounded.{get_in}
use Rattle.structure.specs.Structure.{rows}
use Rattle.structure.specs.Table.{entry}
use Rattle.structure.specs.Buckets.{buckets, bucket_of, head_at}
use Rattle.structure.specs.Tree.{cells_len, cell_at, place_of, own_of, member_key, Step, passes, turns, Leads, here, more, Small, Shape, Stopped, Forked, Passed, Turned, Walked}
use Rattle.structure.specs.Words.{look_at}
use Rattle.structure.specs.declared.tree.Other.{Other}
use Rattle.structure.specs.declared.tree.Ahead.{Ahead}
use Rattle.structure.specs.declared.finding.Found.TheVariants.{Fork}
use Rattle.unionfind.proofs.Chains.{not_both}
use borrow.Author.Tests.{eq-eqb}

-- the bucket of a member's key is its fork
pub key_fork : (g x : ℕ) → g < buckets → bucket_of (member_key g x) ≡ g
unfolding bucket_of member_key
key_fork g x h = omega arith

-- the head of the members of a fork
pub member_head : (heads : List ℕ) (g x : ℕ) {r key : ℕ} → g < buckets → r ≡ get_or heads g 0 → key ≡ member_key g x → r ≡ head_at heads (bucket_of key)
member_head heads g x l e q = e ∙ get_in buckets heads g l ∙ ap (head_at heads) (sym (key_fork g x l) ∙ ap bucket_of (sym q))

-- one step more at the end
pub leads_on : {v : ℕ → ℕ} {cells tests keys : List ℕ} {d k e l f m : ℕ} → Leads v cells tests keys d k e l → Step v cells tests keys e l f m → Leads v cells tests keys d k f m
leads_on here s = more s here
leads_on (more t r) s = more t (leads_on r s)

pub leads_join : {v : ℕ → ℕ} {cells tests keys : List ℕ} {d k e l f m : ℕ} → Leads v cells tests keys d k e l → Leads v cells tests keys e l f m → Leads v cells tests keys d k f m
leads_join here s = s
leads_join (more t r) s = more t (leads_join r s)

-- by what the array of tests has for a fork
value_at : (v : ℕ → ℕ) (tests : List ℕ) {g test x : ℕ} → g < rows → test ≡ get_or tests g 0 → x ≡ v (test / 65536) → x ≡ v (place_of tests g)
value_at v tests {g = g} h t s = s ∙ ap (λ (y : ℕ). v (y / 65536)) (t ∙ get_in rows tests g h)

own_at : (tests : List ℕ) {g test : ℕ} → g < rows → test ≡ get_or tests g 0 → test % 65536 ≡ own_of tests g
own_at tests {g = g} h t = ap (λ (y : ℕ). y % 65536) (t ∙ get_in rows tests g h)

pub own_is : (v : ℕ → ℕ) (tests : List ℕ) {g test x : ℕ} → g < rows → test ≡ get_or tests g 0 → x ≡ v (test / 65536) → x ≡ test % 65536 → v (place_of tests g) ≡ own_of tests g
own_is v tests h t s q = sym (value_at v tests h t s) ∙ q ∙ own_at tests h t

pub stopped_at : (v : ℕ → ℕ) (cells tests : List ℕ) (d : ℕ) {g test x : ℕ} → g < rows → test ≡ get_or tests g 0 → x ≡ v (test / 65536)
    → cell_at cells d ≡ g + 1 → (x ≡ test % 65536 → ⊥) → Stopped v cells tests d (Some (record { fork = g; value = x }))
stopped_at v cells tests d h t s e n = let z = value_at v tests h t s in (e, z, λ u. n (z ∙ u ∙ sym (own_at tests h t)))

-- the member of the fork at cell d that has the list's value, or that it has none
abbrev pub Member : (ℕ → ℕ) → List ℕ → List ℕ → List ℕ → ℕ → ℕ → Option ℕ → Type 0
Member v cells tests keys i d r =
    MatchOption r
    ((g : ℕ) → cell_at cells d ≡ g + 1 → (k : ℕ) → k < i → entry keys k ≡ member_key g (v (place_of tests g)) → ⊥)
    (λ l. (l < i) × ((g : ℕ) × (cell_at cells d ≡ g + 1) × (entry keys l ≡ member_key g (v (place_of tests g)))))

module _ (v : ℕ → ℕ) (cells tests keys : List ℕ) (i d : ℕ) where
  pub turned_is : (o : Option Other) (r : Option ℕ) → Stopped v cells tests d o → Turned keys i o r → Member v cells tests keys i d r
  turned_is None r s t = rw t (λ g e k l m. absurd (omega (arith, s, e)))
  turned_is (Some f) None s t =
      λ g e k l m.
      let w : g ≡ f.fork = omega (arith, e, s.0) in
      not_both (t k l) (eq-eqb (entry keys k) _ (rw w at m ∙ ap (member_key f.fork) (sym s.1)))
  turned_is (Some f) (Some l) s t = (t.0, (f.fork, s.0, eqb-true (entry keys l) _ t.1 ∙ ap (member_key f.fork) s.1))

pub other_is : (v : ℕ → ℕ) (cells tests : List ℕ) (d : ℕ) (o : Option Other) → Stopped v cells tests d o → (g : ℕ) → cell_at cells d ≡ g + 1 → v (place_of tests g) ≡ own_of tests g → ⊥
other_is v cells tests d None s g e u = omega (arith, s, e)
other_is v cells tests d (Some f) s g e u = let w : g ≡ f.fork = omega (arith, e, s.0) in s.2 (rw w at u)

-- ---- passing on

-- from cell d to e
pub record Passes (v : ℕ → ℕ) (cells tests : List ℕ) (d e : ℕ) : Type 0 where
  pub leads : (keys : List ℕ) (k : ℕ) → Leads v cells tests keys d k e k
  pub inside : e < cells_len
  pub high : d ≤ e
  pub top : (i : ℕ) → ((x : ℕ) → cell_at cells x ≤ i) → d / 2 < i → e / 2 < i

pub passes_none : {v : ℕ → ℕ} {cells tests : List ℕ} {d : ℕ} → d < cells_len → Passes v cells tests d d
passes_none h = record { leads = λ keys k. here; inside = h; high = omega arith; top = λ i b t. t }

module _ (v : ℕ → ℕ) (cells tests : List ℕ) (from d g : ℕ) (small : Small cells) (inside : d < cells_len) (p : cell_at cells d ≡ g + 1) where
  pub cell_rises : d < 2 * g + 1
  cell_rises = omega (arith, small.rise d g inside p)

  pub cell_inside : 2 * g + 1 < cells_len
  cell_inside = omega (arith, small.high d, p)

  pub passes_on : v (place_of tests g) ≡ own_of tests g → Passes v cells tests from d → Passes v cells tests from (2 * g + 1)
  passes_on q l = record {
    leads = λ keys k. leads_on (l.leads keys k) (passes g p q refl refl);
    inside = cell_inside;
    high = omega (arith, l.high, cell_rises);
    top = λ i b t. omega (arith, b d, p);
  }

-- ---- the whole walk

-- at cell d of row k
pub record Going (v : ℕ → ℕ) (cells tests keys : List ℕ) (i from d k : ℕ) : Type 0 where
  pub leads : Leads v cells tests keys (2 * from) from d k
  pub inside : d < cells_len
  pub below : k < i
  pub low : k ≤ d / 2
  pub top : d / 2 < i
  pub other : (g : ℕ) → cell_at cells d ≡ g + 1 → v (place_of tests g) ≡ own_of tests g → ⊥

module _ {v : ℕ → ℕ} {cells tests keys : List ℕ} {i from : ℕ} (shape : Shape cells keys i) where
  module _ {d k l : ℕ} (g : Going v cells tests keys i from d k) (t : Member v cells tests keys i d (Some l)) where
    -- the member comes after its fork, which comes after the row
    pub later : k < l
    later =
        let a = shape.small.rise d t.1.0 g.inside t.1.1 in
        let b : bucket_of (entry keys l) ≤ l = shape.low l t.0 in
        let y : t.1.0 < buckets = omega (arith, shape.small.high d, t.1.1) in
        let e : bucket_of (entry keys l) ≡ t.1.0 = ap bucket_of t.1.2 ∙ key_fork t.1.0 _ y in
        omega (arith, g.low)

    pub going_on : {a : Ahead} → Passed v cells tests (2 * l) a → Going v cells tests keys i from a.cell l
    going_on {a = a} p = record {
      leads = leads_join (leads_on g.leads (turns t.1.0 t.1.1 (g.other _ t.1.1) (omega (arith, t.0, shape.most)) t.1.2 refl)) (p.leads keys l);
      inside = p.inside;
      below = t.0;
      low = let q = p.high in omega arith;
      top = p.top i shape.below (omega (arith, t.0));
      other = other_is v cells tests a.cell a.other p.stopped;
    }

  pub walked : {d k : ℕ} → Going v cells tests keys i from d k → Member v cells tests keys i d None → Walked v cells tests keys i from (record { cell = d; row = k })
  walked g t = record {
    leads = g.leads;
    inside = g.inside;
    below = g.below;
    low = g.top;
    ends = λ z n e. record { fork = e; other = g.other n e; none = t n e };
  }

pub passed : {v : ℕ → ℕ} {cells tests : List ℕ} {d e : ℕ} (o : Option Other) → Passes v cells tests d e → Stopped v cells tests e o → Forked o
    → Passed v cells tests d (record { cell = e; other = o })
passed o l p f = record { leads = l.leads; inside = l.inside; high = l.high; top = l.top; stopped = p; forked = f }

-- ---- what is found

pub fork_key : (look tests : List ℕ) (s : ℕ) {test x key : ℕ} (g : ℕ) → g < rows → test ≡ get_or tests g 0 → x ≡ look_at look s (test / 65536) → key ≡ member_key g x
    → key ≡ member_key g (look_at look s (place_of tests g))
fork_key look tests s g h t e q = q ∙ ap (member_key g) (e ∙ ap (λ (y : ℕ). look_at look s (y / 65536)) (t ∙ get_in rows tests g h))

-- the new fork at the end of a walk
pub at_fork_is : (look : List ℕ) (s o cell i : ℕ) {t u own x key : ℕ} → t ≡ u → own ≡ look_at look t o → x ≡ look_at look s o → key ≡ member_key i x
    → Fork cell (o * 65536 + own) key ≡ Fork cell (o * 65536 + look_at look u o) (member_key i (look_at look s o))
at_fork_is look s o cell i e a b d = rw (d, b, a, e) refl

pub at_small : (look : List ℕ) {t s x : ℕ} (o : ℕ) → t ≡ s → Reads x (look_at look t o) 65536 → look_at look s o < 65536
at_small look o e r = let z = r.small in let q = rw (r.same, e) at z in q
