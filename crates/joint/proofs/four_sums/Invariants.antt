-- The invariant of `joint::four_sums`: what is left of the rows, added to each sum so far, is the whole sum.
use Rattle.algo.specs.declared.Order.TheVariants.{Zero}
use Rattle.algo.specs.declared.Share.TheVariants.{I, Ii, Ij, Jj}
use Rattle.joint.proofs.Shares.{ShareLeft}
use Rattle.joint.proofs.four_sums.Given as goal

abbrev pub invariant-loop-i : goal.invariant-loop-i
invariant-loop-i l = record {
  i : ShareLeft Zero l.wi l.wj l.table.is.now l.table.js.now l.table.ns.now I l.yielded l.by_i;
  ii : ShareLeft Zero l.wi l.wj l.table.is.now l.table.js.now l.table.ns.now Ii l.yielded l.by_ii;
  ij : ShareLeft Zero l.wi l.wj l.table.is.now l.table.js.now l.table.ns.now Ij l.yielded l.by_ij;
  jj : ShareLeft Zero l.wi l.wj l.table.is.now l.table.js.now l.table.ns.now Jj l.yielded l.by_jj;
}
