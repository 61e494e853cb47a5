-- `table_sums::rule_sum` meets its contract: the two tables are those of zeros with the powers written, and the sum is gated at its end.
use mathlib.Core.Path.{ap, ◌∙◌}
use lib.Ieee.{Float, of_bits}
use Rattle.common.specs.Outcome.{or_nan}
use Rattle.algo.specs.Raw.{gate}
use Rattle.table_sums.proofs.rule_sum.Goals as goal

pub returns : goal.returns
unfolding of_bits
returns c = record {
  wi = _;
  wj = _;
  worked_i = c.fill_powers.ensures;
  worked_j = c.fill_powers-2.ensures;
  is = c.gated.ensures ∙ ap (λ (y : Float). or_nan (gate c.args.vi c.args.vj y)) c.plain_sum.ensures.is;
}
