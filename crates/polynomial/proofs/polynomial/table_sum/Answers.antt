-- `polynomial::table_sum` meets its contract: the sum settled where the columns are of one length, and a refusal where not.
use mathlib.Core.Path.{◌∙◌, ap}
use Rattle.common.specs.Outcome.{check}
use Rattle.algo.specs.Table.{differentiated, sum_rule}
use Rattle.slopes.specs.Rows.{rows}
use Rattle.polynomial.specs.Columns.{table_rule}
use Rattle.algo.proofs.Settled.{slope_settled}
use Rattle.polynomial.proofs.Lengths.{of_one_length, of_unequal}
use Rattle.polynomial.proofs.polynomial.table_sum.Goals as goal

pub returns : goal.returns
unfolding table_rule
returns c =
    let a = c.args in
    let t = a.table in
    c.settle.ensures
    ∙ ap check c.raw_sum.ensures
    ∙ slope_settled a.a a.b a.vi a.vj (rows t)
    ∙ of_one_length (sum_rule (differentiated a.a a.b) a.vi a.vj) t.is.now t.js.now t.ns.now c.in_ok-check_lengths.ensures

pub returns-in_err-check_lengths : goal.returns-in_err-check_lengths
unfolding table_rule
returns-in_err-check_lengths c =
    let a = c.args in
    let t = a.table in
    of_unequal (sum_rule (differentiated a.a a.b) a.vi a.vj) t.is.now t.js.now t.ns.now _ _ c.from_residual.ensures.1 c.in_err-check_lengths.ensures
