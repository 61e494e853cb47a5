-- `common::check_pT` meets its contract: what is in its range is finite, and its literals are the range's decimals. Assumes nothing.
use mathlib.Core.Path.{sym, ◌∙◌}
use lib.Ieee.{of_bits, round}
use Rattle.common.specs.Decimal.{decimal, whole, scaled}
use Rattle.common.specs.Constant.{p_range_from, p_range_to, t_range_from, t_range_to}
use Rattle.common.proofs.Ranges.{finite_within}
use Rattle.common.proofs.check_pT.Goals as goal

pub returns-then-in_t : goal.returns-then-in_t
unfolding decimal whole scaled round
returns-then-in_t c =
    let a = c.args in
    let p = sym c.in_p.ensures ∙ c.if-in_p.true in
    let t = sym c.in_t.ensures ∙ c.if-in_t.true in
    rw (finite_within p_range_from p_range_to a.p.0 tt tt p, finite_within t_range_from t_range_to a.t.0 tt tt t, p, t)

pub returns : goal.returns
unfolding of_bits decimal whole scaled
returns c = c.check_pair.ensures
