use mathlib.Core.Path.{sym, ◌∙◌}
use Rattle.entries.proofs.ReadyLaws.{types_formed}
use Rattle.check_pack.proofs.WholeLaws.{types_pass, types_stop}
use Rattle.check_pack.proofs.whole.check_whole.Goals as goal

pub check_rest-requires : goal.check_rest-requires
check_rest-requires c = (types_formed _ _ (sym c.check_types.ensures ∙ c.in-Ok.is), c.requires)

pub returns-in-Ok : goal.returns-in-Ok
returns-in-Ok c = types_pass _ _ _ (sym c.check_types.ensures ∙ c.in-Ok.is) c.check_rest.ensures

pub returns-in-Err : goal.returns-in-Err
returns-in-Err c = types_stop _ _ _ (sym c.check_types.ensures ∙ c.in-Err.is)
