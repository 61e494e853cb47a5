-- `polynomial::table_pair` meets its contract: two sums settled where the columns are of one length, and a refusal where not.
use mathlib.Core.Path.{◌∙◌}
use mathlib.Core.List.{List}
use lib.Ieee.{Float}
use Rattle.common.specs.Outcome.{Outcome}
use Rattle.algo.specs.Table.{Row}
use Rattle.algo.specs.Joint.{share_rule}
use Rattle.algo.specs.declared.Order.{Order}
use Rattle.algo.specs.declared.Share.{Share}
use Rattle.joint.specs.declared.Pair.{Pair}
use Rattle.slopes.specs.Rows.{rows}
use Rattle.polynomial.specs.Columns.{pair_of, pair_table}
use Rattle.algo.proofs.Settled.{share_settled}
use Rattle.polynomial.proofs.Lengths.{of_one_length, of_unequal}
use Rattle.polynomial.proofs.polynomial.table_pair.Goals as goal

-- the two sums of the rows
abbrev the_pair : Order → Share → Share → Float → Float → List Row → Outcome Pair
the_pair a s t vi vj rs = pair_of (share_rule a s vi vj rs) (share_rule a t vi vj rs)

pub returns : goal.returns
unfolding pair_table
returns c =
    let a = c.args in
    let t = a.table in
    let p = c.raw_pair.ensures in
    c.settle_pair.ensures
    ∙ (rw (p.0, p.1, share_settled a.a a.s a.vi a.vj (rows t), share_settled a.a a.t a.vi a.vj (rows t)))
    ∙ of_one_length (the_pair a.a a.s a.t a.vi a.vj) t.is.now t.js.now t.ns.now c.in_ok-check_lengths.ensures

pub returns-in_err-check_lengths : goal.returns-in_err-check_lengths
unfolding pair_table
returns-in_err-check_lengths c =
    let a = c.args in
    let t = a.table in
    of_unequal (the_pair a.a a.s a.t a.vi a.vj) t.is.now t.js.now t.ns.now _ _ c.from_residual.ensures.1 c.in_err-check_lengths.ensures
