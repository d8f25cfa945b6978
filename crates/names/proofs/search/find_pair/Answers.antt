use Rattle.names.proofs.Items.{pair_is}
use Rattle.names.proofs.search.find_pair.Goals as goal

pub returns : goal.returns
returns c = pair_is _ _ _ _ c.list_len-n.ensures.same c.next_item.ensures
