-- The search's result: every value is listed once, the components are the classes of mutual reach, and what is reached comes first.
-- Assumes nothing.
use mathlib.Core.Path.{◌≡◌}
use mathlib.Core.Logic.{⊎_elim, ◌↔◌}
use mathlib.Core.List.{List, Memᴰ}
use Prim.Native.Nat.{ℕ, ◌≤◌, ◌<◌}
use native.Mathlib.Omega.{arith}
use lib.ListN.{length}
use Rattle.laws.specs.Lists.{count, In}
use Rattle.laws.proofs.Members.{by_le}
use Rattle.components.specs.Found.{below, Part}
use Rattle.components.specs.Walks.{Edge, Walk, Reach, Before, Fits}
use Rattle.components.specs.Tarjan.{start, flat, listing, follow_all, strong_connect, tarjan}
use Rattle.components.specs.Answers.{size_in}
use Rattle.components.proofs.Below.{below_in, below_lt}
use Rattle.components.proofs.Classes.{Once, count_listing, classes, later, looped, loops}
use Rattle.components.proofs.Rooms.{full}
use Rattle.components.specs.Invariant.{Emitted}
use Rattle.components.proofs.Steps.{Step, good_start, stack_count}
use Rattle.components.proofs.Visits.{follows, visits}

module _ (refs : ℕ → List ℕ) (n : ℕ) (fits : Fits refs n) where
  abbrev pub all : List (List ℕ)
  all = (tarjan refs n).components

  pub run : Step refs n (below n 0) 0 start (follow_all (strong_connect refs n) (below n 0) start 0).0 (tarjan refs n)
  unfolding tarjan
  run = follows refs n fits n (strong_connect refs n) (visits refs n fits n) (below n 0) start 0 (λ w h. omega (arith, below_lt n 0 w h)) (good_start refs n) (omega arith) (omega arith)

  -- the stack is empty at the end
  no_stack : (y : ℕ) → count y (tarjan refs n).stack ≡ 0
  no_stack y = by_le (count y run.seg) 0 (λ h. omega (arith, stack_count refs n run y)) (λ h. absurd (omega (arith, (run.low y h).2)))

  pub found_once : (y : ℕ) → y < n → count y (flat all) ≡ 1
  found_once y l = omega (arith, run.good.once y, run.good.split y, run.rseen y (below_in n 0 y (omega arith) (omega arith)), no_stack y)

  pub found_only : (y : ℕ) → In y (flat all) → y < n
  found_only y h = run.good.under y (omega (arith, run.good.split y))

  emitted : Emitted refs all
  emitted = run.good.emitted

  le_once : Once all
  le_once y = omega (arith, run.good.once y, run.good.split y)

  -- every value is listed once, and nothing else is
  pub listed_once : (y : ℕ) → y < n → count y (listing all) ≡ 1
  listed_once y l = omega (arith, found_once y l, count_listing y all)

  pub listed_only : (y : ℕ) → In y (listing all) → y < n
  listed_only y h = found_only y (omega (arith, count_listing y all))

  pub listed_length : length (listing all) ≡ n
  listed_length = full n (listing all) listed_once listed_only

  -- a component is a class of values that reach each other
  pub are_classes : (c : List ℕ) → Memᴰ c all → (a b : ℕ) → In a c → In b c ↔ (Reach refs a b × Reach refs b a)
  are_classes c k a b h = classes refs c k emitted le_once a b h

  -- if a has a walk to b but b has none to a, b comes first
  pub comes_first : (a b : ℕ) → a < n → Walk refs a b → ¬ Walk refs b a → Before b a (listing all)
  comes_first a b l w nw = ⊎_elim (λ v. absurd (nw v)) (λ t. t) (later refs emitted a b (omega (arith, found_once a l)) w)

  -- a value that does not list itself has a walk to itself exactly if its component has two members or more
  pub size_walk : (u : ℕ) → 2 ≤ size_in all u → Walk refs u u
  size_walk u h = loops refs emitted le_once u h

  pub walk_size : (u : ℕ) → u < n → ¬ Edge refs u u → Walk refs u u → 2 ≤ size_in all u
  walk_size u l s w = looped refs emitted le_once u (omega (arith, found_once u l)) s w

  -- members stand by falling discovery
  pub falling : (c : List ℕ) → Memᴰ c all → Part c (tarjan refs n).found
  falling = run.good.each_falls
