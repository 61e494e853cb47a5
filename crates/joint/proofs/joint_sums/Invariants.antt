-- The invariant of `joint::joint_sums`: what is left of the rows, added to each sum so far, is the whole sum.
use Rattle.joint.proofs.Shares.{ShareLeft}
use Rattle.joint.proofs.joint_sums.Given as goal

abbrev pub invariant-loop-i : goal.invariant-loop-i
invariant-loop-i l = record {
  first : ShareLeft l.a l.wi l.wj l.table.is.now l.table.js.now l.table.ns.now l.s l.yielded l.first;
  second : ShareLeft l.a l.wi l.wj l.table.is.now l.table.js.now l.table.ns.now l.t l.yielded l.second;
}
