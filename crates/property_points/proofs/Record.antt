-- Points of the record's rule, worked out by antt. At T = 750 K and d = 500 kg/m3 every field is the value that table 33 prints, and cv and v those of
-- Numbers; a p that was found before stands in its field as it is. A refused call has +0.0 in every field: 1, 2, 3 of T and d, and 4 where p is
-- outside its range.
use mathlib.Core.Path.{◌≡◌, refl}
use mathlib.Core.Bool.{Bool, true, false, ◌&&◌}
use mathlib.Core.List.{List, [], ◌∷◌}
use Prim.Native.Nat.{ℕ}
use lib.Ieee.{Float, nan, round, neg, add, sub, sum, mul, div, of_int, le}
use Rattle.common.specs.Outcome.{Outcome, value, refused, check}
use Rattle.common.specs.declared.MPa.{MPa}
use Rattle.common.specs.Decimal.{scaled, decimal, whole, plus, minus}
use Rattle.common.specs.Sum.{total}
use Rattle.inverses.specs.Units.{in_units}
use Rattle.rules.specs.Power.{power_rule}
use Rattle.inverses.specs.Log.{logarithm_rule, L}
use Rattle.inverses.specs.Root.{root_rule, nearest_root, whole_root}
use Rattle.algo.specs.Table.{sum_rule}
use Rattle.algo.specs.Joint.{share_rule}
use Rattle.record.specs.Record.{report, zero_record, fields_of}
use Rattle.record.specs.declared.Record.{Record}
use Rattle.printed.specs.Table30.{table30}
use Rattle.helmholtz.specs.Hfe.{slope, share, phi_delta, joint_phi, joint_delta, four_delta, four_deltadelta}
use Rattle.properties.specs.Td.{Td2v, Td2p, Td2h, Td2u, Td2s, Td2cv, Td2cp, Td2w, state_pressure}
use Rattle.common.proofs.Printed.{printed_as}
use Rattle.td_record.specs.Steps.{pressure_from, record_after, record_steps, record_rule}
use Rattle.td_record.specs.declared.Pressure.TheVariants.{Found}

-- a value as printed: its digits, and how many of them stand after the point
pub data Printed : Type 0 where
  digits : ℕ → ℕ → Printed

-- number by number
abbrev agree : List Float → List Printed → Bool
agree [] [] = true
agree [] (q ∷ qs) = false
agree (x ∷ xs) [] = false
agree (x ∷ xs) (digits n places ∷ qs) = printed_as false n places (value x) && agree xs qs

abbrev accepted : List Printed → Outcome Record → Bool
accepted qs (value r) = agree (fields_of r) qs
accepted qs (refused k) = false

-- T, d, v, p, h, s, u, cv, cp, w with this p
abbrev fields_with : Printed → List Printed
fields_with p =
    digits 750 0 ∷ digits 500 0 ∷ digits 0_00200000000 11 ∷ p ∷ digits 2258_68845 5 ∷ digits 4_46971906 8 ∷ digits 2102_06932 5 ∷ digits 2_71701677 8 ∷ digits 6_34165359 8
    ∷ digits 760_696041 6 ∷ []

pub worked_p : accepted (fields_with (digits 78_3095639 7)) (record_rule (whole 750) (whole 500)) ≡ true
unfolding record_rule record_steps record_after Td2v Td2p Td2h Td2u Td2s Td2cv Td2cp Td2w state_pressure slope share phi_delta joint_phi joint_delta four_delta four_deltadelta table30 sum_rule share_rule total power_rule root_rule nearest_root whole_root logarithm_rule L in_units scaled decimal whole plus minus round neg add sub sum mul div of_int le
worked_p = refl

-- a p that was found is neither worked again nor tested for its range
pub found : (p : MPa) → pressure_from (Found p) (refused 5) (refused 5) ≡ check p.0
found p = refl

pub found_p : accepted (fields_with (digits 60 0)) (record_after (whole 750) (whole 500) (decimal 0_002 3) (whole 60)) ≡ true
unfolding record_after Td2h Td2u Td2s Td2cv Td2cp Td2w slope share phi_delta joint_phi joint_delta four_delta four_deltadelta table30 sum_rule share_rule total power_rule root_rule nearest_root whole_root logarithm_rule L in_units scaled decimal whole plus minus round neg add sub sum mul div of_int le
found_p = refl

pub lost_T : report (record_rule nan (whole 500)) ≡ (refused 1, zero_record)
unfolding record_rule
lost_T = refl

pub low_T : report (record_rule (whole 600) (whole 900)) ≡ (refused 2, zero_record)
unfolding record_rule scaled decimal whole round le
low_T = refl

pub high_d : report (record_rule (whole 750) (whole 900)) ≡ (refused 3, zero_record)
unfolding record_rule scaled decimal whole round le
high_d = refl

pub high_p : report (record_rule (whole 860) (whole 800)) ≡ (refused 4, zero_record)
unfolding record_rule record_steps Td2v Td2p state_pressure slope phi_delta table30 sum_rule total power_rule in_units scaled decimal whole plus minus round neg add sub sum mul div of_int le
high_p = refl
