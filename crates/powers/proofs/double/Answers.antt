-- `powers::double` meets its contract: one more power stands in its place after each turn. Assumes nothing.
use mathlib.Core.Path.{◌≡◌}
use native.Mathlib.Omega.{arith}
use Rattle.powers.proofs.Doubling.{written_up}
use Rattle.powers.proofs.double.Goals as goal

pub loop-k-preserved : goal.loop-k-preserved
loop-k-preserved c a b h m e q f =
    let l = c.loop-k in
    rw (e, q) (written_up a b l.w h l.k m (omega arith) (omega arith) (rw e at (l.invariant a b h m e q f)))

pub returns : goal.returns
returns c a b h m e q f =
    let done : c.loop-k.k ≡ c.args.count = omega arith in
    rw done at (c.loop-k.invariant a b h m e q f)
