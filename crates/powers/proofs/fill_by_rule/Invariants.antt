-- The invariant of `powers::fill_by_rule`: the powers from `lo` to below `k` stand in their places, as the rule has them.
use Rattle.powers.specs.Powers.{WrittenBy, ruled}
use Rattle.powers.proofs.fill_by_rule.Given as goal

abbrev pub invariant-loop-k : goal.invariant-loop-k
invariant-loop-k l = WrittenBy (ruled l.a) l.fn.w l.w l.lo l.k
