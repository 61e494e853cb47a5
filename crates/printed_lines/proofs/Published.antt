-- The point that R7-97 prints for the border's two equations is what the definitions give, to the digits printed, worked out by antt. Assumes nothing.
use mathlib.Core.Path.{◌≡◌, refl}
use mathlib.Core.Bool.{true}
use mathlib.Core.List.{List, [], ◌∷◌}
use lib.Ieee.{round, neg, add, sub, sum, mul, div, le}
use Rattle.common.specs.Decimal.{scaled, decimal, whole, plus, minus}
use Rattle.common.specs.Sum.{every}
use Rattle.inverses.specs.Units.{in_units}
use Rattle.inverses.specs.Root.{root_rule, nearest_root, whole_root}
use Rattle.common.proofs.Printed.{Value, prints, agrees}
use Rattle.printed_lines.specs.Border.{B23_T2p, B23_p2T, B23_T2p_rule, B23_p2T_rule}

pub values : List Value
values =
    prints (B23_T2p_rule (decimal 623_15 2)) 16_5291643 7
    ∷ prints (B23_p2T_rule (decimal 16_5291643 7)) 623_150000 6
    ∷ []

pub values_agree : every agrees values ≡ true
unfolding values every B23_T2p_rule B23_p2T_rule B23_T2p B23_p2T root_rule nearest_root whole_root in_units plus minus scaled decimal whole round neg add sub sum mul div le
values_agree = refl
