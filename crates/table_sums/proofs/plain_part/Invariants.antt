-- The invariant of `table_sums::plain_part`: what is left of the rows, added to the sum so far, is what it was at the start.
use Rattle.std.proofs.Common.{◌≡◌, drop}
use Rattle.common.specs.Sum.{raw_total}
use Rattle.algo.specs.Raw.{tabled_term}
use Rattle.algo.specs.declared.Order.TheVariants.{Zero}
use Rattle.table_sums.specs.ByPowers.{rows_in}
use Rattle.table_sums.proofs.plain_part.Given as goal

abbrev pub invariant-loop-i : goal.invariant-loop-i
invariant-loop-i l =
    raw_total (tabled_term Zero Zero l.wi l.wj) l.before (rows_in l.rows)
    ≡ raw_total (tabled_term Zero Zero l.wi l.wj) l.sum (rows_in (drop l.i-index l.rows))
