-- The check values that R7-97 prints for region 3 (table 33) are what the definitions give, to the digits printed, worked out by antt.
use mathlib.Core.Path.{◌≡◌, refl}
use mathlib.Core.Bool.{true}
use mathlib.Core.List.{List, [], ◌∷◌}
use lib.Ieee.{Float, round, neg, add, sub, sum, mul, div, of_int, le}
use Rattle.common.specs.Outcome.{Outcome, value}
use Rattle.common.specs.Decimal.{scaled, decimal, whole, plus, minus}
use Rattle.common.specs.Sum.{total, every}
use Rattle.inverses.specs.Units.{in_units}
use Rattle.rules.specs.Power.{power_rule}
use Rattle.inverses.specs.Log.{logarithm_rule, L}
use Rattle.inverses.specs.Root.{root_rule, nearest_root, whole_root}
use Rattle.algo.specs.Table.{sum_rule}
use Rattle.algo.specs.Joint.{share_rule}
use Rattle.printed.specs.Table30.{table30}
use Rattle.helmholtz.specs.Hfe.{slope, share, phi_delta, joint_phi, joint_delta, four_delta, four_deltadelta}
use Rattle.properties.specs.Td.{Formula, Td2p, Td2h, Td2u, Td2s, Td2cp, Td2w}
use Rattle.common.proofs.Printed.{Value, prints, agrees}

-- at a T and a d
abbrev at : Formula → Float → Float → Outcome Float
at f t d = f (value t) (value d)

pub values : List Value
values =
    prints (at Td2p (whole 650) (whole 500)) 25_5837018 7
    ∷ prints (at Td2h (whole 650) (whole 500)) 1863_43019 5
    ∷ prints (at Td2u (whole 650) (whole 500)) 1812_26279 5
    ∷ prints (at Td2s (whole 650) (whole 500)) 4_05427273 8
    ∷ prints (at Td2cp (whole 650) (whole 500)) 13_8935717 7
    ∷ prints (at Td2w (whole 650) (whole 500)) 502_005554 6
    ∷ prints (at Td2p (whole 650) (whole 200)) 22_2930643 7
    ∷ prints (at Td2h (whole 650) (whole 200)) 2375_12401 5
    ∷ prints (at Td2u (whole 650) (whole 200)) 2263_65868 5
    ∷ prints (at Td2s (whole 650) (whole 200)) 4_85438792 8
    ∷ prints (at Td2cp (whole 650) (whole 200)) 44_6579342 7
    ∷ prints (at Td2w (whole 650) (whole 200)) 383_444594 6
    ∷ prints (at Td2p (whole 750) (whole 500)) 78_3095639 7
    ∷ prints (at Td2h (whole 750) (whole 500)) 2258_68845 5
    ∷ prints (at Td2u (whole 750) (whole 500)) 2102_06932 5
    ∷ prints (at Td2s (whole 750) (whole 500)) 4_46971906 8
    ∷ prints (at Td2cp (whole 750) (whole 500)) 6_34165359 8
    ∷ prints (at Td2w (whole 750) (whole 500)) 760_696041 6
    ∷ []

pub values_agree : every agrees values ≡ true
unfolding values every Td2p Td2h Td2u Td2s Td2cp Td2w slope share phi_delta joint_phi joint_delta four_delta four_deltadelta table30 sum_rule share_rule total power_rule root_rule nearest_root whole_root logarithm_rule L in_units scaled decimal whole plus minus round neg add sub sum mul div of_int le
values_agree = refl
