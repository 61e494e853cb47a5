-- The premises on the border can be met on both sides of it, two and a half millionths of a kelvin from it: at 20 MPa, where it is 649.7847025.. K. Computed.
-- Assumes nothing.
use mathlib.Core.Path.{◌≡◌}
use mathlib.Core.Bool.{true, false}
use lib.Dec.{lit<, lit≤}
use lib.Ieee.{Float, round, neg, add, sub, sum, div, fits, le, lt, eq}
use Rattle.common.specs.Outcome.{value, refused}
use Rattle.common.specs.Decimal.{scaled, decimal, whole, plus}
use Rattle.inverses.specs.Units.{in_units}
use Rattle.inverses.specs.Root.{nearest_root, whole_root}
use Rattle.border.specs.Border.{region3_box}
use Rattle.border.proofs.Never.{border_at}
use Rattle.rounding.specs.Fraction.{scaled_by}
use Rattle.boundary.specs.Choice.{letter_rule}
use Rattle.distance.specs.Distance.{unit}
use Rattle.distance.specs.Letter.{kelvin}
use Rattle.exact_lines.specs.Border.{border}
use Rattle.exact.specs.Distance.{border_distance}
use Rattle.exact.specs.Premises.{InBox, BorderClear, per_kelvin}
use Rattle.exact.proofs.Border.{border_followed, below_border, above_border}
use Rattle.exact.proofs.BorderContract.{stopped}
use Rattle.exact.proofs.Tested.{met}

abbrev under : Float
under = decimal 649_784700 6

abbrev over : Float
over = decimal 649_784705 6

box_under : InBox (whole 20) under
unfolding decimal whole scaled round fits le lt eq
box_under = record { p_f64 = tt; t_f64 = tt; p_from = tt; p_to = tt; t_from = tt; t_to = tt }

box_over : InBox (whole 20) over
unfolding decimal whole scaled round fits le lt eq
box_over = record { p_f64 = tt; t_f64 = tt; p_from = tt; p_to = tt; t_from = tt; t_to = tt }

clear_under : BorderClear true (scaled_by 48 (whole 20)) (scaled_by 43 under)
unfolding decimal whole plus scaled scaled_by round neg add sub sum div nearest_root whole_root in_units
clear_under =
    met (border_at (whole 20)) (kelvin (scaled_by 43 under)) (λ n. border n (scaled_by 48 (whole 20))) border_distance unit per_kelvin (lit< tt) (lit≤ tt)
    (border_followed (whole 20) under box_under).close true tt

clear_over : BorderClear false (scaled_by 48 (whole 20)) (scaled_by 43 over)
unfolding decimal whole plus scaled scaled_by round neg add sub sum div nearest_root whole_root in_units
clear_over =
    met (border_at (whole 20)) (kelvin (scaled_by 43 over)) (λ n. border n (scaled_by 48 (whole 20))) border_distance unit per_kelvin (lit< tt) (lit≤ tt)
    (border_followed (whole 20) over box_over).close false tt

pub passes : region3_box (whole 20) under ≡ value tt
passes = below_border (whole 20) under box_under clear_under

pub refuses : letter_rule (whole 20) over ≡ refused 8
refuses = stopped (whole 20) over (above_border (whole 20) over box_over clear_over)
