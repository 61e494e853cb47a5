-- `border::B23_p2T` meets its contract: the range, then the steps. Assumes nothing.
use mathlib.Core.Path.{sym, ◌∙◌}
use lib.Ieee.{of_bits, round}
use Rattle.common.specs.Decimal.{scaled, decimal, whole}
use Rattle.border.specs.Border.{B23_p2T_rule}
use Rattle.common.proofs.Calls.{went_in, passed_on}
use Rattle.border.proofs.B23_p2T.Goals as goal

pub returns : goal.returns
unfolding B23_p2T_rule scaled decimal whole round of_bits
returns c = c.settle.ensures ∙ sym c.p2t_steps.ensures.is ∙ sym (went_in _ c.in_ok-check_only.ensures)

pub returns-in_err-check_only : goal.returns-in_err-check_only
unfolding B23_p2T_rule scaled decimal whole round of_bits
returns-in_err-check_only c = passed_on _ _ _ c.from_residual.ensures.1 c.in_err-check_only.ensures
