use Rattle.tarjan.proofs.Sorts.{blank}
use Rattle.tarjan.proofs.search.Search.empty.Goals as goal

pub returns : goal.returns
returns c = blank c.empty.ensures.values c.empty.ensures.top c.empty-2.ensures.values c.empty-2.ensures.length c.empty-2.ensures.sizes
