-- `search::pv2T_reg3` meets its contract: the box, then what is found. Assumes nothing.
use mathlib.Core.Path.{sym, ◌∙◌}
use lib.Ieee.{of_bits, round}
use Rattle.common.specs.Decimal.{whole, scaled}
use Rattle.common.proofs.Calls.{went_in, passed_on}
use Rattle.search.specs.Calls.{pv2T_reg3_rule}
use Rattle.search.proofs.calls.pv2T_reg3.Goals as goal

pub returns : goal.returns
unfolding pv2T_reg3_rule of_bits whole scaled round
returns c = c.found.ensures ∙ sym (went_in _ c.in_ok-check_pv.ensures)

pub returns-in_err-check_pv : goal.returns-in_err-check_pv
unfolding pv2T_reg3_rule
returns-in_err-check_pv c = passed_on _ _ _ c.from_residual.ensures.1 c.in_err-check_pv.ensures
