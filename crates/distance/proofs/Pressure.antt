-- For an f64 p from 16.529 to N MPa, p * 2^48 is a whole number, exactly, and at most N * 2^48; and p lies in the box. Assumes nothing.
use mathlib.Core.Path.{◌≡◌, refl, sym, subst}
use Prim.Native.Nat.{ℕ, ◌*◌, ◌≤◌, ◌<◌}
use native.Mathlib.Nat.{le_trans, mul-le-mul_right, zero-lt-suc, mul-one}
use mathlib.Core.Bool.{true, false}
use lib.Dec.{T, lit≤}
use lib.Ieee.{Float, binary64, round, fits, le}
use lib.Ieee.Exact.{HasValue}
use lib.Ieee.Back.{round_whole}
use lib.Ieee.Positive.{positive, between, positive_of_value, values_of_le, le_trans_positive}
use lib.Ieee.Order.{le_of_values}
use Rattle.common.specs.Outcome.{finite}
use Rattle.common.specs.Decimal.{scaled, decimal, whole}
use Rattle.common.specs.Constant.{p_range_from, p_range_to}
use Rattle.rounding.specs.Fraction.{scaled_by}
use Rattle.rounding.proofs.Whole.{whole_from, finite_value}
use Rattle.distance.specs.Exact.{Q}

pub whole_value : (n : ℕ) → n ≤ 100 → HasValue (whole n) false n 1
unfolding whole scaled
whole_value n l = subst (λ (z : ℕ). HasValue (round binary64 false z 1) false n 1) (sym (mul-one n)) (round_whole binary64 false n (le_trans l (lit≤ tt)))

-- an f64 from 16.529 to N
module _ (p : Float) (held : T (fits binary64 p)) (N : ℕ) (some : 0 < N) (few : N ≤ 100) (from : T (le p_range_from p)) (to : T (le p (whole N))) where
  N_positive : T (positive (whole N))
  N_positive = positive_of_value (whole N) N 1 (whole_value N few) some

  p_positive : T (positive p)
  unfolding decimal scaled round
  p_positive = between p_range_from p (whole N) tt N_positive from to

  -- p * 2^48 is whole
  pub p_whole : HasValue p false (scaled_by 48 p) Q
  unfolding decimal scaled round
  p_whole = whole_from 4 48 refl p_range_from p tt p_positive held tt from

  pub p_upto : scaled_by 48 p ≤ N * Q
  p_upto =
      subst (λ (z : ℕ). z ≤ N * Q) (mul-one (scaled_by 48 p))
      (values_of_le p (whole N) (scaled_by 48 p) Q N 1 p_positive N_positive p_whole (whole_value N few) to)

  pub p_finite : finite p ≡ true
  p_finite = finite_value p (scaled_by 48 p) Q p_whole

  pub p_box_lem : T (le p p_range_to)
  p_box_lem =
      le_trans_positive p (whole N) (whole 100) p_positive N_positive (positive_of_value (whole 100) 100 1 (whole_value 100 (lit≤ tt)) (zero-lt-suc 99)) to
      (le_of_values (whole N) (whole 100) N 1 100 1 (zero-lt-suc 0) (zero-lt-suc 0) (whole_value N few) (whole_value 100 (lit≤ tt))
      (mul-le-mul_right 1 few))
