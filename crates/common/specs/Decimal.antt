-- To believe: a number as a document prints it: the f64 nearest to a decimal, rounded once. Assumes nothing: these are definitions.
use Rattle.std.specs.Prelude.{ℕ, suc, ◌*◌, ◌^◌, Bool, true, false, ℤ, pos, negsuc, neg_ℤ, Float}
use Rattle.std.specs.Float.{binary64}
use Rattle.std.specs.Float.Ieee.{round}

abbrev pub negative : ℕ → ℤ
negative n = neg_ℤ (pos n)

abbrev pub tens : ℤ → ℕ
tens (pos k) = 10 ^ k
tens (negsuc k) = 1

abbrev pub tenths : ℤ → ℕ
tenths (pos k) = 1
tenths (negsuc k) = 10 ^ suc k

-- ±digits / 10^places * 10^e, rounded once
unfoldable pub scaled : Bool → ℕ → ℕ → ℤ → Float
unfolding round
scaled s digits places e = round binary64 s (digits * tens e) (10 ^ places * tenths e)

-- digits with so many places after the point: `decimal 647_096 3` is 647.096
unfoldable pub decimal : ℕ → ℕ → Float
unfolding scaled
decimal digits places = scaled false digits places (pos 0)

-- a whole number
unfoldable pub whole : ℕ → Float
unfolding scaled
whole n = scaled false n 0 (pos 0)

-- The documents print a coefficient as ±0.digits * 10^e with 14 or 15 digits: `plus 15 0_110879558823853 (negative 2)` is
-- 0.110879558823853 * 10^-2, and `minus` is the negative of it.
unfoldable pub plus : ℕ → ℕ → ℤ → Float
unfolding scaled
plus count digits e = scaled false digits count e

unfoldable pub minus : ℕ → ℕ → ℤ → Float
unfolding scaled
minus count digits e = scaled true digits count e
