-- The invariant of `powers::fill_down`: as many of the negative powers stand in their places as were worked.
use Rattle.std.proofs.Common.{◌-◌, List, ℕ, ◌+◌, ◌≤◌, Float}
use Rattle.powers.specs.Powers.{Written}
use Rattle.powers.proofs.fill_down.Given as goal

abbrev pub invariant-loop-k : goal.invariant-loop-k
invariant-loop-k l = (a : Float) (b : List Float) (hi : ℕ) → 65 + l.low ≤ hi → Written a b l.fn.w 64 hi → Written a b l.w (64 - l.k) hi
