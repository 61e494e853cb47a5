-- Points of the definition, worked out by antt: a property on either side of 1e-6 from the asked one, a refusal that passes, and the arguments, of which an asked
-- number that is none comes before T's range and T's range before d's. Assumes nothing.
use mathlib.Core.Path.{◌≡◌, refl}
use mathlib.Core.List.{List, [], ◌∷◌, map}
use mathlib.Core.Bool.{true, false}
use Prim.Native.Nat.{ℕ}
use lib.Ieee.{Float, nan, inf, round, neg, add, sub, sum, le, lt}
use Rattle.common.specs.Decimal.{decimal, whole, scaled}
use Rattle.common.specs.Outcome.{Outcome, value, refused, number_in}
use Rattle.checks.specs.Checks.{held_to, check_p_rule, check_h_rule, check_s_rule}

-- 0.98e-6 and 1.02e-6 above and below 2500, 0.9999999e-6 and 1.0000001e-6 above and below 4; a 4 passes
pub held_at :
    map (λ (o : Outcome Float). number_in (held_to (whole 2500) o)) (
    value (decimal 2500_00000098 8)
    ∷ value (decimal 2499_99999902 8)
    ∷ value (decimal 2500_00000102 8)
    ∷ value (decimal 2499_99999898 8)
    ∷ refused 4
    ∷ []) ≡ 0 ∷ 0 ∷ 15 ∷ 15 ∷ 4 ∷ []
unfolding held_to decimal whole scaled round neg add sub sum le lt
held_at = refl

pub held_nearer :
    map (λ (x : Float). number_in (held_to (whole 4) (value x))) (
    decimal 4_0000009999999 13
    ∷ decimal 3_9999990000001 13
    ∷ decimal 4_0000010000001 13
    ∷ decimal 3_9999989999999 13
    ∷ []) ≡ 0 ∷ 0 ∷ 15 ∷ 15 ∷ []
unfolding held_to decimal whole scaled round neg add sub sum le lt
held_nearer = refl

-- the three checks of one state and one asked number
abbrev three : Float → Float → Float → List ℕ
three t d y = number_in (check_p_rule t d y) ∷ number_in (check_h_rule t d y) ∷ number_in (check_s_rule t d y) ∷ []

-- an asked number that is none: at a state of the box, at a T outside it, and at a d
pub none_asked :
    map (three (whole 700) (whole 500)) (nan ∷ inf false ∷ inf true ∷ []) ≡ (1 ∷ 1 ∷ 1 ∷ []) ∷ (1 ∷ 1 ∷ 1 ∷ []) ∷ (1 ∷ 1 ∷ 1 ∷ []) ∷ []
unfolding check_p_rule check_h_rule check_s_rule
none_asked = refl

pub none_before_ranges :
    (three (whole 900) (whole 500) nan ≡ 1 ∷ 1 ∷ 1 ∷ [])
    × (three (whole 700) (whole 50) (inf false) ≡ 1 ∷ 1 ∷ 1 ∷ [])
    × (three (whole 900) nan (whole 4) ≡ 1 ∷ 1 ∷ 1 ∷ [])
    × (three (whole 900) (whole 50) (whole 4) ≡ 2 ∷ 2 ∷ 2 ∷ [])
    × (three (whole 700) (whole 50) (whole 4) ≡ 3 ∷ 3 ∷ 3 ∷ [])
unfolding check_p_rule check_h_rule check_s_rule decimal whole scaled round le lt
none_before_ranges = (refl, refl, refl, refl, refl)
