-- The nearest root stays between the two ends, until they are one.
use Prim.Native.Nat.{◌-◌}
use Rattle.inverses.proofs.Halves.{Between}
use Rattle.inverses.proofs.sqrt.Digits.by_halves.Given as goal

abbrev pub invariant-loop-low : goal.invariant-loop-low
invariant-loop-low l = Between l.self.d l.low l.up

abbrev pub decreases-loop-low : goal.decreases-loop-low
decreases-loop-low l = l.up - l.low
