-- The checks at T = 650 and d = 500, a check point of IAPWS, whose p, h and s are 25.583701818521963, 1863.4301898334209 and 4.0542727333393875: an asked number
-- that lies 0.999e-6 to one side of each, and one that lies 1.001e-6 to the other. Worked out by antt; the p, h and s are tools/oracle's. Assumes nothing.
use mathlib.Core.Path.{◌≡◌, refl}
use mathlib.Core.List.{[], ◌∷◌, map}
use lib.Ieee.{round, neg, add, sub, sum, mul, div, of_int, le, lt, eq}
use Rattle.common.specs.Decimal.{scaled, decimal, whole, plus, minus}
use Rattle.common.specs.Outcome.{number_in}
use Rattle.common.specs.Sum.{total}
use Rattle.inverses.specs.Units.{in_units}
use Rattle.rules.specs.Power.{power_rule, by_bits, lowest}
use Rattle.inverses.specs.Log.{logarithm_rule, ln_of, ln_steps, L}
use Rattle.algo.specs.Table.{sum_rule}
use Rattle.algo.specs.Joint.{share_rule}
use Rattle.printed.specs.Table30.{table30}
use Rattle.helmholtz.specs.Hfe.{slope, phi_delta, share, joint_phi, joint_delta}
use Rattle.properties.specs.Td.{Td2p, Td2h, Td2s, state_pressure}
use Rattle.checks.specs.Checks.{held_to, check_p_rule, check_h_rule, check_s_rule}

pub p_near :
    map (λ y. number_in (check_p_rule (whole 650) (whole 500) y)) (
    decimal 25_58370281752 11
    ∷ decimal 25_58370081752 11
    ∷ []) ≡ 0 ∷ 15 ∷ []
unfolding check_p_rule held_to Td2p state_pressure slope phi_delta sum_rule table30 total power_rule by_bits lowest in_units
    scaled decimal whole plus minus round neg add sub sum mul div of_int le lt eq
p_near = refl

pub h_near :
    map (λ y. number_in (check_h_rule (whole 650) (whole 500) y)) (
    decimal 1863_43018883442 11
    ∷ decimal 1863_43019083442 11
    ∷ []) ≡ 0 ∷ 15 ∷ []
unfolding check_h_rule held_to Td2h share joint_delta share_rule sum_rule table30 total power_rule by_bits lowest in_units
    scaled decimal whole plus minus round neg add sub sum mul div of_int le lt eq
h_near = refl

pub s_near :
    map (λ y. number_in (check_s_rule (whole 650) (whole 500) y)) (
    decimal 4_05427373234 11
    ∷ decimal 4_05427173234 11
    ∷ []) ≡ 0 ∷ 15 ∷ []
unfolding check_s_rule held_to Td2s share joint_phi share_rule sum_rule table30 total power_rule by_bits lowest logarithm_rule ln_of ln_steps L in_units
    scaled decimal whole plus minus round neg add sub sum mul div of_int le lt eq
s_near = refl
