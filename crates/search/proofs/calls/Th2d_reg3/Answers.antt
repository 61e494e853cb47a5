-- `search::Th2d_reg3` meets its contract: the box, then what is found. Assumes nothing.
use mathlib.Core.Path.{sym, ◌∙◌}
use Rattle.common.proofs.Calls.{went_in, passed_on}
use Rattle.search.specs.Calls.{Th2d_reg3_rule}
use Rattle.search.proofs.calls.Th2d_reg3.Goals as goal

pub returns : goal.returns
unfolding Th2d_reg3_rule
returns c = c.found.ensures ∙ sym (went_in _ c.in_ok-check_Th.ensures)

pub returns-in_err-check_Th : goal.returns-in_err-check_Th
unfolding Th2d_reg3_rule
returns-in_err-check_Th c = passed_on _ _ _ c.from_residual.ensures.1 c.in_err-check_Th.ensures
