-- `rules::bare_power` meets its contract: the bits with no look at any r. Assumes nothing.
use mathlib.Core.Path.{◌∙◌, ap}
use mathlib.Core.Bool.{false}
use lib.IntN.{nat_abs}
use mir.Syntax.{w32}
use mir.ValLaws.{to_z-of_z}
use Rattle.rules.specs.Power.{one}
use Rattle.rules.specs.RawPower.{power_by_bits, raw_power, raw_by_sign}
use Rattle.rules.proofs.Powers.{by_bits_lem}
use Rattle.rules.proofs.SignOf.{small}
use Rattle.rules.proofs.powi.bare_power.Goals as goal

pub returns : goal.returns
unfolding raw_power
returns c =
    let a = c.args in
    c.power_by_bits.ensures
    ∙ ap (power_by_bits false a.a) (to_z-of_z w32 a.n c.ranges.n)
    ∙ ap (raw_by_sign a.n) (by_bits_lem 31 one a.a (nat_abs a.n) (small a.n c.ranges.n))
