use mathlib.Core.Path.{refl}
use Rattle.check_pack.proofs.WholeLaws.{roots_part_lem, has_room}
use Rattle.check_pack.proofs.whole.check_rest.Goals as goal

pub check_order-requires : goal.check_order-requires
check_order-requires c = has_room _ _ _ c.requires.0 c.requires.1

pub returns-in-Ok : goal.returns-in-Ok
returns-in-Ok c = roots_part_lem _ _ _ c.in-Ok.is c.check_roots.ensures c.check_order.ensures

pub returns-in-Err : goal.returns-in-Err
returns-in-Err c = roots_part_lem _ _ _ c.in-Err.is c.check_roots.ensures refl
