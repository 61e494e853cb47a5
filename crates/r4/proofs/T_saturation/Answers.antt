-- `r4::T_saturation` meets its contract: the range, then the steps. Assumes nothing.
use mathlib.Core.Path.{sym, ◌∙◌}
use lib.Ieee.{of_bits, round}
use Rattle.common.specs.Decimal.{scaled, decimal}
use Rattle.r4.specs.Saturation.{T_saturation_rule}
use Rattle.common.proofs.Calls.{went_in, passed_on}
use Rattle.r4.proofs.T_saturation.Goals as goal

pub returns : goal.returns
unfolding T_saturation_rule scaled decimal round of_bits
returns c = c.settle.ensures ∙ sym c.t_steps.ensures.is ∙ sym (went_in _ c.in_ok-check_only.ensures)

pub returns-in_err-check_only : goal.returns-in_err-check_only
unfolding T_saturation_rule scaled decimal round of_bits
returns-in_err-check_only c = passed_on _ _ _ c.from_residual.ensures.1 c.in_err-check_only.ensures
