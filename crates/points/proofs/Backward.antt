-- The check values that S03rev and S04rev print for the backward equations, one of each equation on its side, and for the dividing enthalpy, are what
-- the definitions give, to the digits printed; and the sides next to the dividing lines. Worked out by antt. Assumes nothing.
use mathlib.Core.Path.{◌≡◌, refl}
use mathlib.Core.Bool.{true}
use mathlib.Core.List.{List, [], ◌∷◌}
use lib.Ieee.{round, neg, add, sub, sum, mul, div, of_int, le, lt}
use Rattle.common.specs.Decimal.{scaled, decimal, whole, plus, minus}
use Rattle.common.specs.Outcome.{value}
use Rattle.common.specs.Constant.{sc_water}
use Rattle.common.specs.Sum.{total, every}
use Rattle.rules.specs.Power.{power_rule, by_bits, lowest}
use Rattle.algo.specs.Table.{sum_rule}
use Rattle.printed.specs.Backward.{table_t3a_ph, table_t3b_ph, table_v3a_ph, table_v3b_ph, table_t3a_ps, table_t3b_ps, table_v3a_ps, table_v3b_ps, table_p3a_hs, table_p3b_hs}
use Rattle.common.proofs.Printed.{Value, prints, agrees}
use Rattle.backward_equations.specs.Equation.{worked, worked_by}
use Rattle.backward.specs.Backward.{h3ab, side_ph, side_s, ph2T_reg3_rule, ph2v_reg3_rule, ps2T_reg3_rule, ps2v_reg3_rule, hs2p_reg3_rule}
use Rattle.backward_equations.specs.declared.Side.TheVariants.{A, B}

pub values : List Value
values =
    prints (h3ab (whole 25)) 2095_936454 6
    ∷ prints (ph2T_reg3_rule (whole 20) (whole 1700)) 629_3083892 7
    ∷ prints (ph2T_reg3_rule (whole 20) (whole 2500)) 641_8418053 7
    ∷ prints (ph2v_reg3_rule (whole 20) (whole 1700)) 0_001749903962 12
    ∷ prints (ph2v_reg3_rule (whole 20) (whole 2500)) 0_006670547043 12
    ∷ prints (ps2T_reg3_rule (whole 20) (decimal 3_8 1)) 628_2959869 7
    ∷ prints (ps2T_reg3_rule (whole 20) (whole 5)) 640_1176443 7
    ∷ prints (ps2v_reg3_rule (whole 20) (decimal 3_8 1)) 0_001733791463 12
    ∷ prints (ps2v_reg3_rule (whole 20) (whole 5)) 0_006262101987 12
    ∷ prints (hs2p_reg3_rule (whole 1700) (decimal 3_8 1)) 25_55703246 8
    ∷ prints (hs2p_reg3_rule (whole 2600) (decimal 5_1 1)) 34_34999263 8
    ∷ []

pub values_agree : every agrees values ≡ true
unfolding values every h3ab side_ph ph2T_reg3_rule ph2v_reg3_rule ps2T_reg3_rule ps2v_reg3_rule hs2p_reg3_rule worked worked_by sum_rule total table_t3a_ph table_t3b_ph table_v3a_ph table_v3b_ph table_t3a_ps table_t3b_ps table_v3a_ps table_v3b_ps table_p3a_hs table_p3b_hs power_rule by_bits lowest scaled decimal whole plus minus round neg add sub sum mul div of_int le lt
values_agree = refl

-- ---- the sides: 2095.936454 divides at 25 MPa, and the critical entropy belongs to 3a

pub sides :
    (side_ph (whole 25) (whole 2095) ≡ value A)
    × (side_ph (whole 25) (whole 2096) ≡ value B)
    × (side_s sc_water ≡ A)
    × (side_s (decimal 4_412021482234761 15) ≡ B)
unfolding side_ph h3ab scaled decimal whole plus minus round neg add sub sum mul div of_int le lt
sides = (refl, refl, refl, refl)
