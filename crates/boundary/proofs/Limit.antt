-- p_saturation(643.15) by the rule is the f64 with these bits, worked out by antt. Assumes nothing.
use mathlib.Core.Path.{◌≡◌, refl}
use lib.Ieee.{binary64, of_bits, round, neg, add, sub, sum, mul, div}
use Rattle.common.specs.Outcome.{value}
use Rattle.common.specs.Decimal.{scaled, decimal, whole, plus, minus}
use Rattle.inverses.specs.Units.{in_units}
use Rattle.rules.specs.Power.{power_rule}
use Rattle.inverses.specs.Root.{root_rule, nearest_root, whole_root}
use Rattle.r4.specs.Saturation.{p_saturation}
use Rattle.boundary.specs.Choice.{limit}

pub limit_is : limit ≡ value (of_bits binary64 0x40350b1a1ee0b6d0)
unfolding limit p_saturation power_rule root_rule nearest_root whole_root in_units plus minus scaled decimal whole of_bits round neg add sub sum mul div
limit_is = refl
