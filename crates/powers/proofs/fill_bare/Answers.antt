-- `powers::fill_bare` meets its contract: upward as far as either end goes, and then downward. Assumes nothing.
use mathlib.Core.Path.{◌≡◌}
use Prim.Native.Nat.{◌+◌, ◌-◌}
use native.Mathlib.Omega.{arith}
use Rattle.powers.specs.Powers.{capped, highest}
use Rattle.powers.proofs.fill_bare.Goals as goal

pub returns : goal.returns
returns c =
    let a = c.args in
    let top : c.min.result ≡ highest a.up a.down = omega (arith, c.max.ensures, c.min.ensures) in
    let low : c.min-2.result ≡ capped a.down = omega (arith, c.min-2.ensures) in
    rw low at (rw top at (c.fill_down.ensures a.a a.w.now (72 + (c.min.result - 7)) (omega (arith, low, top)) c.fill_up.ensures))
