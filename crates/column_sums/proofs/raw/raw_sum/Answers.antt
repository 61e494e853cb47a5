-- `column_sums::raw_sum` meets its contract: the powers that are worked cover the rows.
use Rattle.powers.proofs.Looked.{powers_hold}
use Rattle.algo.proofs.Sums.{slope_ends}
use Rattle.algo.specs.Table.{rows_of}
use Rattle.column_sums.specs.Farthest.{ups, downs}
use Rattle.column_sums.proofs.Farthest.{covered}
use Rattle.column_sums.proofs.raw.raw_sum.Goals as goal

pub returns : goal.returns
returns c =
    let a = c.args in
    let is = a.table.is.now in
    let js = a.table.js.now in
    slope_ends a.vi a.vj _ _ (ups a.a is) (downs a.a is) (ups a.b js) (downs a.b js)
    (powers_hold a.vi _ _ (ups a.a is) (downs a.a is) c.powers_for-wi.ensures)
    (powers_hold a.vj _ _ (ups a.b js) (downs a.b js) c.powers_for-wj.ensures)
    {a = a.a} {b = a.b} {rs = rows_of is js a.table.ns.now} (covered a.a a.b is js a.table.ns.now) c.slope_sum.ensures c.gated.ensures
