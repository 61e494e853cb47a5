-- `search::pv_reg3` meets its contract: what is found, then the record there. Assumes nothing.
use mathlib.Core.Path.{sym, ap, ◌∙◌}
use lib.Ieee.{of_bits, round}
use Rattle.common.specs.Decimal.{whole, scaled}
use Rattle.common.specs.Answer.{paper}
use Rattle.search.specs.Calls.{pv_rule}
use Rattle.search.proofs.calls.pv_reg3.Goals as goal

pub returns-in-Ok : goal.returns-in-Ok
unfolding pv_rule of_bits whole scaled round
returns-in-Ok c = rw (sym c.pv2T_reg3.ensures ∙ ap paper c.in-Ok.is) c.record_at.ensures

pub returns-in-Err : goal.returns-in-Err
unfolding pv_rule
returns-in-Err c = rw (sym c.pv2T_reg3.ensures ∙ ap paper c.in-Err.is) c.refused_record.ensures
