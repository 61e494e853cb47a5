-- Points of root and logarithm, worked out by antt from the definitions: plain ones, and those at which the bits tell the rule from its neighbours.
-- Assumes nothing.
use mathlib.Core.Path.{◌≡◌, refl}
use mathlib.Core.List.{[], ◌∷◌, map}
use mathlib.Core.Bool.{false}
use Prim.Native.Nat.{ℕ, ◌^◌}
use lib.IntN.{negsuc}
use lib.Ieee.{Float, nan, fin, binary64, to_bits, round, neg, add, sub, sum, mul, div, of_int, le, lt, eq}
use Rattle.common.specs.Outcome.{value, refused}
use Rattle.rules.specs.Exp.{L}
use Rattle.rules.proofs.Points.{told}
use Rattle.inverses.specs.Units.{in_units}
use Rattle.inverses.specs.Root.{root_rule, nearest_root, whole_root}
use Rattle.inverses.specs.Log.{logarithm_rule}

abbrev whole : ℕ → Float
whole n = round binary64 false n 1

-- digits with so many places after the point
abbrev decimal : ℕ → ℕ → Float
decimal digits places = round binary64 false digits (10 ^ places)

-- the starred point; the refusals, the signs of 0, and exact and inexact roots, the smallest number's among them
pub plain :
    (logarithm_rule (whole 1) ≡ value (whole 0))
    × (root_rule nan ≡ refused 1)
    × (root_rule (neg (whole 1)) ≡ refused 5)
    × (root_rule (neg (whole 0)) ≡ value (neg (whole 0)))
    × (root_rule (whole 4) ≡ value (whole 2))
    × (root_rule (whole 2) ≡ value (decimal 1_4142135623730951 16))
    × (root_rule (fin false 1 (negsuc 1073)) ≡ value (fin false 1 (negsuc 536)))
    × (logarithm_rule nan ≡ refused 1)
    × (logarithm_rule (whole 0) ≡ refused 5)
    × (logarithm_rule (neg (whole 1)) ≡ refused 5)
unfolding root_rule nearest_root whole_root logarithm_rule L in_units round neg add sub sum mul div of_int le lt eq
plain = (refl, refl, refl, refl, refl, refl, refl, refl, refl, refl)

-- Where the bits show it, worked by tools/rules_rows.py: from 1/27 on, and not from 1/25 or 1/29; m is from 0.75 up to 1.5
pub logarithms : map told (
    logarithm_rule (decimal 1_49959856 8)
    ∷ logarithm_rule (decimal 1_497829 6)
    ∷ logarithm_rule (decimal 1_5 1)
    ∷ logarithm_rule (decimal 0_7 1)
    ∷ []) ≡ (0, 0x3fd9eec14457ee2c) ∷ (0, 0x3fd9db68f8b4aa58) ∷ (0, 0x3fd9f323ecbf984c) ∷ (0, 0xbfd6d3c324e13f4f) ∷ []
unfolding logarithm_rule L in_units to_bits round neg add sub sum mul div of_int
logarithms = refl
