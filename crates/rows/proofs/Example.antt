-- docs/SCOPE.md's example, whole: the bytes of three rows give the four lines. Worked out by antt from the definitions. Assumes nothing.
use mathlib.Core.Path.{◌≡◌, refl}
use mathlib.Core.List.{List, [], ◌∷◌}
use Prim.Native.Nat.{ℕ}
use lib.Ieee.{of_bits, of_fields, odd, round, neg, add, sub, sum, mul, div, of_int, le, lt, eq}
use Rattle.common.specs.Decimal.{scaled, decimal as printed, whole, plus, minus}
use Rattle.common.specs.Sum.{total}
use Rattle.inverses.specs.Units.{in_units}
use Rattle.rules.specs.Power.{power_rule}
use Rattle.inverses.specs.Root.{root_rule, nearest_root, whole_root}
use Rattle.r4.specs.Saturation.{p_saturation}
use Rattle.border.specs.Border.{B23_p2T, beside_border, region3_box}
use Rattle.boundaries.specs.Boundary.{walk_rule, row_at, table, straight3ef}
use Rattle.boundary.specs.Choice.{letter_rule, letter_at, limit, chijk_rule}
use Rattle.rows.specs.Lines.{line_of, block_of, last_line, output_of}
use Rattle.buffer.specs.Bytes.{joined, float_at}
use Rattle.text.specs.Text.{bytes_of, digits_in, decimal}

-- (24,650), (24,655), (101,650)
pub bytes : List ℕ
bytes =
    0 ∷ 0 ∷ 0 ∷ 0 ∷ 0 ∷ 0 ∷ 56 ∷ 64 ∷ 0 ∷ 0 ∷ 0 ∷ 0 ∷ 0 ∷ 80 ∷ 132 ∷ 64
    ∷ 0 ∷ 0 ∷ 0 ∷ 0 ∷ 0 ∷ 0 ∷ 56 ∷ 64 ∷ 0 ∷ 0 ∷ 0 ∷ 0 ∷ 0 ∷ 120 ∷ 132 ∷ 64
    ∷ 0 ∷ 0 ∷ 0 ∷ 0 ∷ 0 ∷ 64 ∷ 89 ∷ 64 ∷ 0 ∷ 0 ∷ 0 ∷ 0 ∷ 0 ∷ 80 ∷ 132 ∷ 64 ∷ []

pub example : output_of 0 bytes ≡ bytes_of "1 g 0\n2 i 0\n3 - 2\nrows 3 left 0\n"
unfolding bytes joined float_at digits_in decimal line_of block_of last_line output_of letter_rule region3_box beside_border B23_p2T letter_at limit p_saturation chijk_rule walk_rule row_at table straight3ef total power_rule root_rule nearest_root whole_root in_units printed whole plus minus scaled of_bits of_fields odd round neg add sub sum mul div of_int le lt eq
example = refl
