-- The invariant of `powers::double`: as many of the next powers stand in their places as were worked.
use Rattle.std.proofs.Common.{◌≡◌, List, ℕ, ◌+◌, ◌≤◌, ◌^◌, Float}
use Rattle.powers.specs.Powers.{Written}
use Rattle.powers.specs.Reach.{squared}
use Rattle.powers.proofs.double.Given as goal

abbrev pub invariant-loop-k : goal.invariant-loop-k
invariant-loop-k l =
    (a : Float) (b : List Float) (h : ℕ) → h ≤ 31 → l.half ≡ 2 ^ h → l.sq ≡ squared h a → Written a b l.fn.w 64 (64 + l.half) → Written a b l.w 64 (64 + l.half + l.k)
