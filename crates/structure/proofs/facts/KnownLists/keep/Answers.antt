-- `keep`: what is found and told of the list, stored.
use mathlib.Core.Path.{refl}
use Rattle.structure.proofs.Forest.{storable}
use Rattle.structure.proofs.facts.KnownLists.keep.Goals as goal

pub returns : goal.returns
returns c = rw (c.keep_facts.ensures, c.keep_user.ensures) (
  record {
    slot = _;
    read = c.slot_at-s.ensures.same;
    sort = _;
    sorted = c.sort_at-sort.ensures.same;
    found = _;
    finds = c.find-found.ensures;
    told = c.facts_of-l.ensures;
    grown = c.grow.ensures.0;
    users_set = refl;
    numbers_set = refl;
    helds_set = refl;
  },
  c.grow.ensures.1,
)

pub grow-requires : goal.grow-requires
grow-requires c = (c.requires.0, c.requires.1, storable c.find-found.result c.requires.1 c.requires.0 c.find-found.ensures)
