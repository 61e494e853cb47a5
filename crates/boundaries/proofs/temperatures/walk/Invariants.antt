-- With the terms that are left the sum comes to the row's.
use Rattle.boundaries.proofs.Walks.{Left}
use Rattle.boundaries.proofs.temperatures.walk.Given as goal

abbrev pub invariant-loop-t : goal.invariant-loop-t
invariant-loop-t l = Left l.row l.bare l.x l.t-index l.sum
