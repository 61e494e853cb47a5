-- The invariant of `table_sums::plain_sum`: what is left of the rows, added to the sum so far, is the whole sum.
use Rattle.std.proofs.Common.{◌≡◌}
use Rattle.common.specs.Outcome.{zero_f}
use Rattle.common.specs.Sum.{raw_total}
use Rattle.algo.specs.Raw.{tabled_term}
use Rattle.algo.specs.declared.Order.TheVariants.{Zero}
use Rattle.table_sums.specs.ByPowers.{rows_in}
use Rattle.table_sums.proofs.plain_sum.Given as goal

abbrev pub invariant-loop-part : goal.invariant-loop-part
invariant-loop-part l =
    raw_total (tabled_term Zero Zero l.wi l.wj) zero_f (rows_in l.rows)
    ≡ raw_total (tabled_term Zero Zero l.wi l.wj) l.sum (rows_in l.part-iterator.rest.now)
