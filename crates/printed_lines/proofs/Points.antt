-- The border at the ends of the box and where T stands on it, worked out by antt from the definitions: the number of each answer, and the border at 18 MPa to the last bit. Assumes nothing.
use mathlib.Core.Path.{◌≡◌, refl}
use mathlib.Core.List.{List, [], ◌∷◌, map}
use Prim.Native.Nat.{ℕ}
use lib.Ieee.{Float, nan, binary64, of_bits, round, neg, add, sub, sum, mul, div, le, lt, eq}
use Rattle.common.specs.Outcome.{value, number_in}
use Rattle.common.specs.Decimal.{scaled, decimal, whole, plus, minus}
use Rattle.inverses.specs.Units.{in_units}
use Rattle.inverses.specs.Root.{root_rule, nearest_root, whole_root}
use Rattle.printed_lines.specs.Border.{B23_p2T, B23_p2T_rule, beside_border, region3_box}

abbrev bits : ℕ → Float
bits = of_bits binary64

infixl 20 ◌refused·◌
pub data Point : Type 0 where
  ◌refused·◌ : Float × Float → ℕ → Point

abbrev got : Point → ℕ
got ((p, t) refused· n) = number_in (region3_box p t)

abbrev wanted : Point → ℕ
wanted (x refused· n) = n

abbrev points : List Point
points =
    ((whole 18, whole 640) refused· 8)
    ∷ ((whole 18, bits 0x4083de914fbb9420) refused· 0)  -- on the border, and the next f64
    ∷ ((whole 18, bits 0x4083de914fbb9421) refused· 8)
    ∷ ((whole 24, whole 670) refused· 0)
    ∷ ((whole 100, decimal 863_15 2) refused· 8)  -- both ends of the box
    ∷ ((whole 100, bits 0x408af933333332f5) refused· 0)
    ∷ ((whole 100, bits 0x408af933333332f6) refused· 8)
    ∷ ((decimal 16_529 3, decimal 623_15 2) refused· 8)  -- the border lies below the box
    ∷ ((bits 0x403087774ef72661, decimal 623_15 2) refused· 8)
    ∷ ((bits 0x403087774ef72662, decimal 623_15 2) refused· 0)  -- the first p whose border reaches 623.15
    ∷ ((bits 0x403087774ef72662, bits 0x4083793333333334) refused· 8)
    ∷ ((decimal 22_064 3, decimal 647_096 3) refused· 0)
    ∷ ((whole 24, decimal 623_149 3) refused· 3)  -- 8 comes after 1, 2, 3
    ∷ ((nan, whole 900) refused· 1)
    ∷ ((whole 101, whole 900) refused· 2)
    ∷ ((whole 18, whole 900) refused· 3)
    ∷ []

pub points_hold : map got points ≡ map wanted points
unfolding region3_box beside_border B23_p2T root_rule nearest_root whole_root in_units plus minus scaled decimal whole of_bits round neg add sub sum mul div le lt eq
points_hold = refl

pub border_at_18 : B23_p2T_rule (whole 18) ≡ value (bits 0x4083de914fbb9420)
unfolding B23_p2T_rule B23_p2T root_rule nearest_root whole_root in_units plus minus scaled decimal whole of_bits round neg add sub sum mul div le lt eq
border_at_18 = refl
