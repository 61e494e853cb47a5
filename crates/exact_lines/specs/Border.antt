-- To believe: the border between regions 2 and 3, R7-97, equation 6 with the coefficients of table 1 as printed, its root cut off after n binary digits.
-- The limit for growing n is the border's temperature at p = P / 2^48. Assumes nothing: these are definitions.
use Rattle.std.specs.Prelude.{ℕ, ◌*◌, ◌^◌}
use Rattle.rounding.specs.Fraction.{Fraction, ratio}
use Rattle.rounding.specs.Arithmetic.{plus, minus, by, root_at}
use Rattle.distance.specs.Exact.{Q}

-- table 1: 0.digits * 10^e, with 14 digits
abbrev pub n3 : Fraction
n3 = ratio 0_10192970039326 (10 ^ 14 * 10 ^ 2)

abbrev pub n4 : Fraction
n4 = ratio (0_57254459862746 * 10 ^ 3) (10 ^ 14)

abbrev pub n5 : Fraction
n5 = ratio (0_13918839778870 * 10 ^ 2) (10 ^ 14)

-- equation 6
unfoldable pub border : ℕ → ℕ → Fraction
unfolding root_at
border n P = plus n4 (root_at n (by (minus (ratio P Q) n5) n3))
