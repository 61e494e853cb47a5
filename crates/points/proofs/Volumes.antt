-- The check values that S05rev prints for the volume equations, the first of each letter, are what the definitions give, to the digits printed; and the
-- letters on the saturation line at each of its splits and just below, of both phases. Worked out by antt. Assumes nothing.
use mathlib.Core.Path.{◌≡◌, refl}
use mathlib.Core.Bool.{true}
use mathlib.Core.List.{List, [], ◌∷◌}
use lib.Ieee.{Float, round, neg, add, sub, sum, mul, div, of_int, le, lt}
use Rattle.common.specs.Decimal.{scaled, decimal, whole, plus, minus}
use Rattle.common.specs.Sum.{total, every}
use Rattle.inverses.specs.Units.{in_units}
use Rattle.rules.specs.Power.{power_rule, by_bits, lowest}
use Rattle.inverses.specs.Root.{root_rule, nearest_root, whole_root}
use Rattle.inverses.specs.Log.{logarithm_rule, ln_of, ln_steps, L}
use Rattle.rules.specs.Exp.{exponential_rule, exp_steps, nearest_whole}
use Rattle.algo.specs.Table.{sum_rule}
use Rattle.printed.specs.Volumes.{table3a, table3b, table3c, table3d, table3e, table3f, table3g, table3h, table3i, table3j, table3k, table3l, table3m, table3n, table3o, table3p, table3q, table3r, table3s, table3t, table3u, table3v, table3w, table3x, table3y, table3z}
use Rattle.subregion.specs.declared.Letter.{Letter}
use Rattle.subregion.specs.declared.Letter.TheVariants as letters
use Rattle.common.proofs.Printed.{Value, prints, agrees}
use Rattle.volume.specs.Equation.{volume_at, volume_by}
use Rattle.volume_at.specs.Volumes.{saturated_letter}
use Rattle.volume_at.specs.declared.Phase.TheVariants.{Liquid, Steam}

pub values : List Value
values =
    prints (volume_at letters.A (whole 50) (whole 630)) 0_001470853100 12
    ∷ prints (volume_at letters.B (whole 50) (whole 710)) 0_002204728587 12
    ∷ prints (volume_at letters.C (whole 20) (whole 630)) 0_001761696406 12
    ∷ prints (volume_at letters.D (whole 26) (whole 656)) 0_002245587720 12
    ∷ prints (volume_at letters.E (whole 26) (whole 661)) 0_002970225962 12
    ∷ prints (volume_at letters.F (whole 26) (whole 671)) 0_005019029401 12
    ∷ prints (volume_at letters.G (decimal 23_6 1) (whole 649)) 0_002163198378 12
    ∷ prints (volume_at letters.H (decimal 23_6 1) (whole 652)) 0_002651081407 12
    ∷ prints (volume_at letters.I (decimal 23_6 1) (whole 653)) 0_003273916816 12
    ∷ prints (volume_at letters.J (decimal 23_5 1) (whole 655)) 0_004545001142 12
    ∷ prints (volume_at letters.K (whole 23) (whole 660)) 0_006109525997 12
    ∷ prints (volume_at letters.L (decimal 22_6 1) (whole 646)) 0_002117860851 12
    ∷ prints (volume_at letters.M (decimal 22_6 1) (decimal 648_6 1)) 0_002533063780 12
    ∷ prints (volume_at letters.N (decimal 22_6 1) (whole 649)) 0_002923432711 12
    ∷ prints (volume_at letters.O (decimal 22_6 1) (decimal 649_1 1)) 0_003131208996 12
    ∷ prints (volume_at letters.P (decimal 22_6 1) (decimal 649_4 1)) 0_003715596186 12
    ∷ prints (volume_at letters.Q (decimal 21_1 1) (whole 640)) 0_001970999272 12
    ∷ prints (volume_at letters.R (decimal 21_1 1) (whole 644)) 0_005251009921 12
    ∷ prints (volume_at letters.S (decimal 19_1 1) (whole 635)) 0_001932829079 12
    ∷ prints (volume_at letters.T (whole 17) (whole 626)) 0_008483262001 12
    ∷ prints (volume_at letters.U (decimal 21_5 1) (decimal 644_6 1)) 0_002268366647 12
    ∷ prints (volume_at letters.«V» (decimal 22_5 1) (decimal 648_6 1)) 0_002832373260 12
    ∷ prints (volume_at letters.W (decimal 22_15 2) (decimal 647_5 1)) 0_003694032281 12
    ∷ prints (volume_at letters.X (decimal 22_11 2) (whole 648)) 0_004528072649 12
    ∷ prints (volume_at letters.Y (whole 22) (decimal 646_84 2)) 0_002698354719 12
    ∷ prints (volume_at letters.Z (whole 22) (decimal 646_89 2)) 0_003798732962 12
    ∷ []

pub values_agree : every agrees values ≡ true
unfolding values every volume_at volume_by sum_rule total table3a table3b table3c table3d table3e table3f table3g table3h table3i table3j table3k table3l table3m table3n table3o table3p table3q table3r table3s table3t table3u table3v table3w table3x table3y table3z power_rule by_bits lowest root_rule nearest_root whole_root in_units logarithm_rule ln_of ln_steps exponential_rule exp_steps nearest_whole L scaled decimal whole plus minus round neg add sub sum mul div of_int le lt
values_agree = refl

-- ---- the saturation line: just below each split, and at it

abbrev Saturated : Float → Letter → Letter → Type 0
Saturated p liquid steam = (saturated_letter Liquid p ≡ liquid) × (saturated_letter Steam p ≡ steam)

pub splits :
    Saturated (decimal 19_00879999999 11) letters.C letters.T
    × Saturated (decimal 19_0088 4) letters.S letters.T
    × Saturated (decimal 20_49999999999 11) letters.S letters.T
    × Saturated (decimal 20_5 1) letters.S letters.R
    × Saturated (decimal 21_04339999999 11) letters.S letters.R
    × Saturated (decimal 21_0434 4) letters.U letters.X
    × Saturated (decimal 21_90089999999 11) letters.U letters.X
    × Saturated (decimal 21_9009 4) letters.U letters.Z
    × Saturated (decimal 21_93159999999 11) letters.U letters.Z
    × Saturated (decimal 21_9316 4) letters.Y letters.Z
unfolding scaled decimal whole plus minus round neg add sub sum mul div of_int le lt
splits = ((refl, refl), (refl, refl), (refl, refl), (refl, refl), (refl, refl), (refl, refl), (refl, refl), (refl, refl), (refl, refl), (refl, refl))
