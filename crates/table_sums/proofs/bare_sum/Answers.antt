-- `table_sums::bare_sum` meets its contract: the two tables are those of zeros with the powers written, and the sum is checked at its end.
use mathlib.Core.Path.{ap, ◌∙◌}
use lib.Ieee.{of_bits}
use Rattle.common.specs.Outcome.{check, or_nan}
use Rattle.table_sums.proofs.bare_sum.Goals as goal

pub returns : goal.returns
unfolding of_bits
returns c = record {
  wi = _;
  wj = _;
  worked_i = c.fill_bare.ensures;
  worked_j = c.fill_bare-2.ensures;
  is = c.finite_or_nan.ensures ∙ ap (λ x. or_nan (check x)) c.plain_sum.ensures.is;
}
