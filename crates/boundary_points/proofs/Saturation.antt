-- The check values that R7-97 prints for the saturation line (tables 35 and 36) are what the definitions give, to the digits printed, worked out by
-- antt. Assumes nothing.
use mathlib.Core.Path.{◌≡◌, refl}
use mathlib.Core.Bool.{true}
use mathlib.Core.List.{List, [], ◌∷◌}
use lib.Ieee.{round, neg, add, sub, sum, mul, div}
use Rattle.common.specs.Decimal.{scaled, decimal, whole, plus, minus}
use Rattle.common.specs.Sum.{every}
use Rattle.common.proofs.Printed.{Value, prints, agrees}
use Rattle.inverses.specs.Units.{in_units}
use Rattle.rules.specs.Power.{power_rule}
use Rattle.inverses.specs.Root.{root_rule, nearest_root, whole_root}
use Rattle.r4.specs.Saturation.{p_saturation, T_saturation}

pub values : List Value
values =
    prints (p_saturation (whole 300)) 0_00353658941 11
    ∷ prints (p_saturation (whole 500)) 2_63889776 8
    ∷ prints (p_saturation (whole 600)) 12_3443146 7
    ∷ prints (T_saturation (decimal 0_1 1)) 372_755919 6
    ∷ prints (T_saturation (whole 1)) 453_035632 6
    ∷ prints (T_saturation (whole 10)) 584_149488 6
    ∷ []

pub values_agree : every agrees values ≡ true
unfolding values every p_saturation T_saturation power_rule root_rule nearest_root whole_root in_units plus minus scaled decimal whole round neg add sub sum mul div
values_agree = refl
