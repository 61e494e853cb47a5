-- `search::Ts2d_reg3` meets its contract: the box, then what is found. Assumes nothing.
use mathlib.Core.Path.{sym, ◌∙◌}
use Rattle.common.proofs.Calls.{went_in, passed_on}
use Rattle.search.specs.Calls.{Ts2d_reg3_rule}
use Rattle.search.proofs.calls.Ts2d_reg3.Goals as goal

pub returns : goal.returns
unfolding Ts2d_reg3_rule
returns c = c.found.ensures ∙ sym (went_in _ c.in_ok-check_Ts.ensures)

pub returns-in_err-check_Ts : goal.returns-in_err-check_Ts
unfolding Ts2d_reg3_rule
returns-in_err-check_Ts c = passed_on _ _ _ c.from_residual.ensures.1 c.in_err-check_Ts.ensures
