-- Points of power and exponential, worked out by antt from the definitions: plain ones, and those at which the bits tell the rule from its neighbours.
-- Assumes nothing.
use mathlib.Core.Path.{◌≡◌, refl}
use mathlib.Core.List.{[], ◌∷◌, map}
use mathlib.Core.Bool.{false}
use Prim.Native.Nat.{ℕ, ◌^◌}
use lib.IntN.{pos, negsuc}
use lib.Ieee.{Float, nan, inf, fin, binary64, to_bits, round, neg, add, sub, sum, mul, div, of_int, le, lt, eq}
use Rattle.common.specs.Outcome.{Outcome, value, refused, number_and_value, zero_f}
use Rattle.rules.specs.Power.{power_rule}
use Rattle.rules.specs.Exp.{next_sum, exponential_rule, L}

abbrev whole : ℕ → Float
whole n = round binary64 false n 1

-- digits with so many places after the point
abbrev decimal : ℕ → ℕ → Float
decimal digits places = round binary64 false digits (10 ^ places)

-- the starred points; then the refusals
pub plain :
    (power_rule (whole 2) (negsuc 2) ≡ value (round binary64 false 125 1000))
    × (power_rule (whole 0) (pos 0) ≡ value (whole 1))
    × (exponential_rule (whole 0) ≡ value (whole 1))
    × (power_rule (whole 2) (pos 65) ≡ refused 3)
    × (power_rule nan (pos 65) ≡ refused 1)
    × (power_rule (whole 0) (negsuc 0) ≡ refused 5)
    × (exponential_rule (inf false) ≡ refused 1)
    × (exponential_rule (whole 701) ≡ refused 2)
    × (exponential_rule (neg (whole 701)) ≡ refused 2)
unfolding power_rule L exponential_rule round neg add sub sum mul div of_int le lt eq
plain = (refl, refl, refl, refl, refl, refl, refl, refl, refl)

-- ---- Where the bits show it. The number and the bits of each answer were worked by tools/rules_rows.py from the rules' words, with floats that are not antt's.

abbrev pub told : Outcome Float → ℕ × ℕ
told o = let z = number_and_value zero_f o in (z.0, to_bits binary64 z.1)

-- the bits taken from the lowest, and 1/r at the end; an r that is lost before 1/r is taken; the sign of 0
pub powers : map told (
    power_rule (decimal 1_1 1) (pos 7)
    ∷ power_rule (decimal 1_1 1) (negsuc 2)
    ∷ power_rule (whole (10 ^ 200)) (pos 2)
    ∷ power_rule (whole (10 ^ 200)) (negsuc 1)
    ∷ power_rule (decimal 1 200) (negsuc 1)
    ∷ power_rule (neg (whole 0)) (pos 3)
    ∷ []) ≡ (0, 0x3fff2df1fb5a7ed7) ∷ (0, 0x3fe80ac5565befd6) ∷ (5, 0) ∷ (5, 0) ∷ (5, 0) ∷ (0, 0x8000000000000000) ∷ []
unfolding power_rule to_bits round neg mul div
powers = refl

-- Powers that have lost their digits: 2^-511 and 2^-512 squared, 1e-7 to the 64; the smallest normal f64, and the f64 before it, as they are; 1 divided by
-- 2^1022, by the f64 after it, and by 2^-1023; then bases of 0, and no product at all of the smallest f64
pub lost_digits : map told (
    power_rule (fin false 1 (negsuc 510)) (pos 2)
    ∷ power_rule (fin false 1 (negsuc 511)) (pos 2)
    ∷ power_rule (decimal 1 7) (pos 64)
    ∷ power_rule (fin false 1 (negsuc 1021)) (pos 1)
    ∷ power_rule (fin false 0xfffffffffffff (negsuc 1073)) (pos 1)
    ∷ power_rule (fin false 1 (pos 1022)) (negsuc 0)
    ∷ power_rule (fin false 0x10000000000001 (pos 970)) (negsuc 0)
    ∷ power_rule (fin false 1 (negsuc 1022)) (negsuc 0)
    ∷ power_rule (whole 0) (pos 3)
    ∷ power_rule (neg (whole 0)) (pos 3)
    ∷ power_rule (whole 0) (negsuc 2)
    ∷ power_rule (fin false 1 (negsuc 1073)) (pos 0)
    ∷ []) ≡ (0, 0x10000000000000) ∷ (5, 0) ∷ (5, 0) ∷ (0, 0x10000000000000) ∷ (5, 0) ∷ (0, 0x10000000000000) ∷ (5, 0) ∷ (5, 0)
    ∷ (0, 0) ∷ (0, 0x8000000000000000) ∷ (5, 0) ∷ (0, 0x3ff0000000000000) ∷ []
unfolding power_rule to_bits round neg mul div
lost_digits = refl

-- from j = 14 on, and not from 13 or 15; below 0 too
pub exponentials : map told (exponential_rule (decimal 52_35 2) ∷ exponential_rule (decimal 0_429 3) ∷ exponential_rule (neg (decimal 0_345 3)) ∷ [])
    ≡ (0, 0x44a70638867725ab) ∷ (0, 0x3ff8925038284128) ∷ (0, 0x3fe6a9bdbb102f32) ∷ []
unfolding exponential_rule L to_bits round neg add sub sum mul div of_int le
exponentials = refl

-- (r*s)/j and not r*(s/j): of each j at which the two can differ, an s at which they do, with r = 0.347
abbrev summed : ℕ → ℕ → Outcome Float
summed s j = next_sum (value (decimal 0_347 3)) (value (decimal s 3)) j

pub sums : map told (
    summed 1_017 3 ∷ summed 1_006 5 ∷ summed 1_025 6 ∷ summed 1_017 7 ∷ summed 1_145 9 ∷ summed 1_167 10 ∷ summed 1_095 11 ∷ summed 1_351 12
    ∷ summed 1_038 13 ∷ summed 1_016 14 ∷ [])
    ≡ (0, 0x3ff1e1d323fee2ca) ∷ (0, 0x3ff11df7cd2b975e) ∷ (0, 0x3ff0f2ceb622adf2) ∷ (0, 0x3ff0ce7f0f6d3ca0) ∷ (0, 0x3ff0b4d28d777c20)
    ∷ (0, 0x3ff0a5ddfaf27a06) ∷ (0, 0x3ff08d7c32bb1723) ∷ (0, 0x3ff0a0041b5f48ad) ∷ (0, 0x3ff0717c7def5b3c) ∷ (0, 0x3ff067258a594d5a) ∷ []
unfolding to_bits round add sum mul div of_int
sums = refl
