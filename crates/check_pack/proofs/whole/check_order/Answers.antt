use Rattle.check_pack.proofs.WholeLaws.{order_part_lem}
use Rattle.check_pack.proofs.whole.check_order.Goals as goal

pub returns-in-Ok : goal.returns-in-Ok
returns-in-Ok c = order_part_lem _ c.in-Ok.is c.find_compilation_order.ensures

pub returns-in-Err : goal.returns-in-Err
returns-in-Err c = order_part_lem _ c.in-Err.is c.find_compilation_order.ensures
