-- The printed decimals of the exact side, each rounded once, are the f64s that the calls use, row by row: so both sides have the same digits, and those of the
-- calls are the Rust's (printed_lines/proofs/Pins, r4/proofs/Pins). Two decimals of 14 or 15 digits never round to one f64. Assumes nothing.
use mathlib.Core.Path.{◌≡◌, refl}
use Prim.Native.Nat.{◌+◌}
use mathlib.Core.List.{[], ◌∷◌, map}
use lib.Dec.{ltb}
use lib.Ieee.{Float, binary64, round}
use Rattle.common.specs.Outcome.{or_nan}
use Rattle.common.specs.Decimal.{plus, minus, scaled}
use Rattle.rounding.specs.Fraction.{Fraction}
use Rattle.r4.specs.Saturation as saturation-f64
use Rattle.border.specs.Border as border-f64
use Rattle.boundaries.specs.Boundary.{Term, term, in_ln, row, row_at, table}
use Rattle.exact_lines.specs.Line.{Row, exact3ab, exact3op, exact3wx, printed}
use Rattle.exact_lines.specs.Saturation as saturation
use Rattle.exact_lines.specs.Border as border

abbrev pub rounded : Fraction → Float
rounded x = round binary64 (ltb 0 x.under) (x.over + x.under) x.scale

abbrev pub rounded_term : Row → Term
rounded_term r = term r.power (rounded (printed r))

-- S05rev, equation 2
pub pinned_3ab : row_at 0 ≡ row in_ln (map rounded_term exact3ab)
unfolding row_at table exact3ab plus minus scaled
pinned_3ab = refl

pub pinned_3op : row_at 6 ≡ row in_ln (map rounded_term exact3op)
unfolding row_at table exact3op plus minus scaled
pinned_3op = refl

pub pinned_3wx : row_at 10 ≡ row in_ln (map rounded_term exact3wx)
unfolding row_at table exact3wx plus minus scaled
pinned_3wx = refl

-- R7-97, table 34
pub pinned_saturation :
    map or_nan
    (saturation-f64.n1
    ∷ saturation-f64.n2
    ∷ saturation-f64.n3
    ∷ saturation-f64.n4
    ∷ saturation-f64.n5
    ∷ saturation-f64.n6
    ∷ saturation-f64.n7
    ∷ saturation-f64.n8
    ∷ saturation-f64.n9
    ∷ saturation-f64.n10
    ∷ [])
    ≡ map rounded
    (saturation.n1
    ∷ saturation.n2
    ∷ saturation.n3
    ∷ saturation.n4
    ∷ saturation.n5
    ∷ saturation.n6
    ∷ saturation.n7
    ∷ saturation.n8
    ∷ saturation.n9
    ∷ saturation.n10
    ∷ [])
unfolding plus minus scaled round
pinned_saturation = refl

-- R7-97, table 1
pub pinned_border : map or_nan (border-f64.n3 ∷ border-f64.n4 ∷ border-f64.n5 ∷ []) ≡ map rounded (border.n3 ∷ border.n4 ∷ border.n5 ∷ [])
unfolding plus scaled round
pinned_border = refl
