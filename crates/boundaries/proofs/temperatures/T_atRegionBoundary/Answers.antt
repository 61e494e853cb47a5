-- `boundaries::temperatures::T_atRegionBoundary` meets its contract: the range, then the sum. Assumes nothing.
use mathlib.Core.Path.{sym, ap, ◌∙◌}
use lib.Ieee.{of_bits, round}
use Rattle.common.specs.Outcome.{check}
use Rattle.common.specs.Decimal.{scaled, decimal, whole}
use Rattle.common.proofs.Calls.{went_in, passed_on}
use Rattle.boundaries.specs.Boundary.{boundary_rule}
use Rattle.boundaries.proofs.TableSums.{boundary_check}
use Rattle.boundaries.proofs.temperatures.T_atRegionBoundary.Goals as goal

pub returns : goal.returns
unfolding boundary_rule scaled decimal whole round of_bits
returns c =
    let a = c.args in
    c.settle.ensures ∙ ap check c.raw_boundary.ensures ∙ boundary_check a.b a.p.0 ∙ sym (went_in _ c.in_ok-check_only.ensures)

pub returns-in_err-check_only : goal.returns-in_err-check_only
unfolding boundary_rule scaled decimal whole round of_bits
returns-in_err-check_only c = passed_on _ _ _ c.from_residual.ensures.1 c.in_err-check_only.ensures
