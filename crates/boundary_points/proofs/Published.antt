-- The check values that S05rev prints for the boundaries are what the definitions give, to the digits printed, worked out by antt. Assumes nothing.
use mathlib.Core.Path.{◌≡◌, refl}
use mathlib.Core.Bool.{true}
use mathlib.Core.List.{List, [], ◌∷◌}
use lib.Ieee.{round, neg, add, sub, sum, mul, div, of_int, le}
use Rattle.common.specs.Decimal.{scaled, decimal, whole, plus, minus}
use Rattle.common.specs.Sum.{total, every}
use Rattle.inverses.specs.Units.{in_units}
use Rattle.rules.specs.Power.{power_rule}
use Rattle.inverses.specs.Log.{logarithm_rule, L}
use Rattle.common.proofs.Printed.{Value, prints, agrees}
use Rattle.boundaries.specs.Boundary.{boundary_rule, walk_rule, row_at, table, straight3ef}
use Rattle.boundaries.specs.declared.Boundary.TheVariants.{Ab, Cd, Ef, Gh, Ij, Jk, Mn, Op, Qu, Rx, Uv, Wx}

pub values : List Value
values =
    prints (boundary_rule Ab (whole 40)) 693_0341408 7
    ∷ prints (boundary_rule Cd (whole 25)) 649_3659208 7
    ∷ prints (boundary_rule Ef (whole 40)) 713_9593992 7
    ∷ prints (boundary_rule Gh (whole 23)) 649_8873759 7
    ∷ prints (boundary_rule Ij (whole 23)) 651_5778091 7
    ∷ prints (boundary_rule Jk (whole 23)) 655_8338344 7
    ∷ prints (boundary_rule Mn (decimal 22_8 1)) 649_6054133 7
    ∷ prints (boundary_rule Op (decimal 22_8 1)) 650_0106943 7
    ∷ prints (boundary_rule Qu (whole 22)) 645_6355027 7
    ∷ prints (boundary_rule Rx (whole 22)) 648_2622754 7
    ∷ prints (boundary_rule Uv (decimal 22_3 1)) 647_7996121 7
    ∷ prints (boundary_rule Wx (decimal 22_3 1)) 648_2049480 7
    ∷ []

pub values_agree : every agrees values ≡ true
unfolding values every boundary_rule walk_rule row_at table straight3ef total power_rule logarithm_rule L in_units scaled decimal whole plus minus round neg add sub
    sum mul div of_int le
values_agree = refl
