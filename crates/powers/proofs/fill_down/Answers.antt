-- `powers::fill_down` meets its contract: one more negative power stands in its place after each turn. Assumes nothing.
use mathlib.Core.Path.{◌≡◌}
use native.Mathlib.Omega.{arith}
use lib.Ieee.{of_bits}
use Rattle.powers.proofs.Doubling.{written_down}
use Rattle.powers.proofs.fill_down.Goals as goal

pub loop-k-preserved : goal.loop-k-preserved
unfolding of_bits
loop-k-preserved c a b hi n f =
    let l = c.loop-k in
    rw c.over.ensures (written_down a b l.w hi l.k (omega arith) (omega arith) (l.invariant a b hi n f))

pub returns : goal.returns
returns c a b hi n f =
    let done : c.loop-k.k ≡ c.args.low = omega arith in
    rw done at (c.loop-k.invariant a b hi n f)
