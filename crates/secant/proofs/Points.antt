-- Points of the search's parts at made numbers, worked out by antt: where a turn ends and where a step is lost, for any curve; the order of the start
-- points; where a place is lifted. Assumes nothing.
use mathlib.Core.Path.{◌≡◌, refl}
use mathlib.Core.List.{[], ◌∷◌, map}
use mathlib.Core.Bool.{false}
use Prim.Native.Nat.{◌^◌}
use lib.IntN.{negsuc}
use lib.Ieee.{fin, round, neg, add, sub, sum, mul, div, le, lt, eq}
use Rattle.common.specs.Decimal.{decimal, whole, scaled}
use Rattle.common.specs.Outcome.{value, refused, zero_f}
use Rattle.secant.specs.Secant.{placed, opened_by, newer_last, lifted_to, turn_of}
use Rattle.std.specs.Prelude.{None}
use Rattle.secant.specs.declared.Curve.{Curve}

-- in turn: as much is missing at both places, after a long step; nothing is missing; the last step was 1e-8; f - fl is lost
pub turns :
    (curve : Curve)
    → (turn_of curve (placed (whole 300) (whole 2) (whole 400) (whole 2) (whole 100)) ≡ value None)
    × (turn_of curve (placed (whole 300) (whole 2) (whole 400) (neg zero_f) (whole 100)) ≡ value None)
    × (turn_of curve (placed (whole 300) (whole 2) (whole 400) (whole 1) (neg (decimal 0_00000001 8))) ≡ value None)
    × (turn_of curve (placed (whole 300) (neg (whole (10 ^ 308))) (whole 400) (whole (10 ^ 308)) (whole 100)) ≡ refused 5)
unfolding turn_of decimal whole scaled round neg add sub sum le lt eq
turns curve = (refl, refl, refl, refl)

-- the second start point is the newer one where as much is missing at both, and the first where less is missing there
pub start_points :
    (newer_last (whole 300) (neg (whole 2)) (whole 400) (whole 2) ≡ placed (whole 300) (neg (whole 2)) (whole 400) (whole 2) zero_f)
    × (newer_last (whole 300) (whole 2) (whole 400) (neg (whole 2)) ≡ placed (whole 300) (whole 2) (whole 400) (neg (whole 2)) zero_f)
    × (newer_last (whole 300) (whole 1) (whole 400) (neg (whole 2)) ≡ placed (whole 400) (neg (whole 2)) (whole 300) (whole 1) zero_f)
unfolding whole scaled round neg lt
start_points = (refl, refl, refl)

-- the first step: none where f - fl is 0; else (300 - 400) * 1 / (1 - 3), before any trial
pub first_steps :
    (opened_by (placed (whole 300) (whole 2) (whole 400) (whole 2) zero_f) ≡ value (placed (whole 300) (whole 2) (whole 400) (whole 2) zero_f))
    × (opened_by (placed (whole 300) (whole 3) (whole 400) (whole 1) zero_f) ≡ value (placed (whole 300) (whole 3) (whole 400) (whole 1) (whole 50)))
unfolding opened_by whole scaled round neg add sub sum mul div eq
first_steps = (refl, refl)

-- 0, -0 and -1 are lifted, the smallest f64 above 0 is not
pub lifts :
    map lifted_to (zero_f ∷ neg zero_f ∷ neg (whole 1) ∷ fin false 1 (negsuc 1073) ∷ [])
    ≡ decimal 0_000001 6 ∷ decimal 0_000001 6 ∷ decimal 0_000001 6 ∷ fin false 1 (negsuc 1073) ∷ []
unfolding whole scaled round neg le
lifts = refl
