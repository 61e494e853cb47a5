-- `powers::fill_powers` meets its contract: at a usual base the powers by doubling are the rule's, and at any other each is worked by it.
use mathlib.Core.Path.{◌≡◌, sym, ◌∙◌}
use mathlib.Core.Bool.{true}
use Prim.Native.Nat.{ℕ, ◌+◌, ◌-◌, ◌≤◌}
use native.Mathlib.Omega.{arith}
use Rattle.sizes.specs.Usual.{usual_base}
use Rattle.powers.specs.Powers.{capped, highest}
use Rattle.powers.proofs.Ruled.{usual_written}
use Rattle.powers.proofs.fill_powers.Goals as goal

within : (up down : ℕ) → 72 + (highest up down - 7) ≤ 129
within up down = omega arith

pub returns-then-usual : goal.returns-then-usual
returns-then-usual c =
    let a = c.args in
    let u : usual_base a.a ≡ true = sym c.usual.ensures ∙ c.if-usual.true in
    usual_written a.a a.w.now _ (64 - capped a.down) (72 + (highest a.up a.down - 7)) (within a.up a.down) u c.fill_bare.ensures
