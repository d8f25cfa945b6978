-- The measures of the cycle.
use Rattle.laws.specs.Lists.{gather}
use Rattle.type_cycle.proofs.SkipLaws.{tier}
use Prim.Native.Nat.{◌+◌, ◌*◌, ◌≤◌, ◌-◌}
use Rattle.type_cycle.specs.Graph.{item_types}
use Rattle.type_cycle.specs.Search.{state, unmarked, Visited}
use Rattle.type_cycle.proofs.search.Search.+visits.Given as goal

abbrev pub decreases-visit : goal.decreases-visit
decreases-visit l = unmarked l.self.now.marks * 8 + 1

abbrev pub decreases-visit_fields : goal.decreases-visit_fields
decreases-visit_fields l = unmarked l.self.now.marks * 8 + 7

abbrev pub decreases-visit_item : goal.decreases-visit_item
decreases-visit_item l = unmarked l.self.now.marks * 8 + 2 + tier l.items

abbrev pub decreases-visit_list : goal.decreases-visit_list
decreases-visit_list l = unmarked l.self.now.marks * 8 + 3 + tier l.items

abbrev pub decreases-visit_name : goal.decreases-visit_name
decreases-visit_name l = unmarked l.self.now.marks * 8 + 1

abbrev pub decreases-visit_row : goal.decreases-visit_row
decreases-visit_row l = unmarked l.self.now.marks * 8 + 7

abbrev pub invariant-visit_list-loop-k : goal.invariant-visit_list-loop-k
invariant-visit_list-loop-k l = (l.k ≤ l.count) × Visited l.pack l.c (gather (item_types l.pack l.c l.items l.s) 0 l.k) (state l.initial.self) (state l.self)

abbrev pub decreases-visit_list-loop-k : goal.decreases-visit_list-loop-k
decreases-visit_list-loop-k l = l.count - l.k
