-- The invariant of `slopes::slope_rows`: what is left of the rows, added to the sum so far, is the whole sum.
use Rattle.algo.specs.Raw.{tabled_term}
use Rattle.slopes.proofs.Zipped.{LeftAfter}
use Rattle.slopes.proofs.slope_rows.Given as goal

abbrev pub invariant-loop-i : goal.invariant-loop-i
invariant-loop-i l = LeftAfter (tabled_term l.a l.b l.wi l.wj) l.table.is.now l.table.js.now l.table.ns.now l.yielded l.sum
