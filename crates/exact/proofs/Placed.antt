-- What is known of p and t of the box: p is P / 2^48 and t is n / 2^43, both above 0. Assumes nothing.
use mathlib.Core.Path.{◌≡◌, refl}
use Prim.Native.Nat.{ℕ, ◌*◌, ◌^◌, ◌≤◌, ◌<◌}
use native.Mathlib.Nat.{lt_of_lt_of_le, mul-le-mul_right, le_of_mul-le-mul_right, zero-lt-suc}
use mathlib.Core.Bool.{true, false}
use lib.Dec.{T, lit<, lit≤}
use lib.Pow.{pow_pos}
use lib.Ieee.{Float, binary64, fits, le, round}
use lib.Ieee.Bits.{is_true}
use lib.Ieee.Exact.{HasValue}
use lib.Ieee.Positive.{positive, between, values_of_le}
use Rattle.common.specs.Outcome.{value, finite}
use Rattle.common.specs.Decimal.{whole, decimal, scaled}
use Rattle.common.specs.Constant.{p_range_from, p_range_to, t_range_from, t_range_to}
use Rattle.common.specs.Range.{pT_box}
use Rattle.rounding.specs.Fraction.{scaled_by}
use Rattle.rounding.proofs.Whole.{whole_from, finite_value}
use Rattle.distance.specs.Exact.{Q}
use Rattle.distance.proofs.Pressure.{p_whole, p_upto, p_finite}
use Rattle.exact.specs.Premises.{InBox}

exact_from : HasValue p_range_from false (scaled_by 48 p_range_from) Q
unfolding decimal scaled round scaled_by
exact_from = (refl, refl)

pub record Placed (p t : Float) : Type 0 where
  pub p_f64 : T (fits binary64 p)
  pub whole_p : HasValue p false (scaled_by 48 p) Q
  pub from_16 : 16528 * Q < scaled_by 48 p * 1000
  pub upto_100 : scaled_by 48 p ≤ 100 * Q
  pub p_upto : T (le p p_range_to)
  pub finite_p : finite p ≡ true
  pub positive_t : T (positive t)
  pub whole_t : HasValue t false (scaled_by 43 t) (2 ^ 43)

module _ (p t : Float) (i : InBox p t) where
  abbrev P : ℕ
  P = scaled_by 48 p

  has_p : HasValue p false P Q
  has_p = p_whole p i.p_f64 100 (zero-lt-suc 99) (lit≤ tt) i.p_from i.p_to

  above_0 : T (positive p)
  unfolding whole decimal scaled round
  above_0 = between p_range_from p p_range_to tt tt i.p_from i.p_to

  t_above_0 : T (positive t)
  unfolding decimal scaled round
  t_above_0 = between t_range_from t t_range_to tt tt i.t_from i.t_to

  has_t : HasValue t false (scaled_by 43 t) (2 ^ 43)
  unfolding decimal scaled round
  has_t = whole_from 9 43 refl t_range_from t tt t_above_0 i.t_f64 tt i.t_from

  least : 16528 * Q < P * 1000
  unfolding decimal scaled round scaled_by
  least =
      lt_of_lt_of_le (lit< {m = 16528 * Q} {n = scaled_by 48 p_range_from * 1000} tt)
      (mul-le-mul_right {m = scaled_by 48 p_range_from} 1000
      (le_of_mul-le-mul_right (values_of_le p_range_from p (scaled_by 48 p_range_from) Q P Q tt above_0 exact_from has_p i.p_from) (pow_pos 48)))

  pub placed : Placed p t
  placed = record {
    p_f64 = i.p_f64;
    whole_p = has_p;
    from_16 = least;
    upto_100 = p_upto p i.p_f64 100 (zero-lt-suc 99) (lit≤ tt) i.p_from i.p_to;
    p_upto = i.p_to;
    finite_p = p_finite p i.p_f64 100 (zero-lt-suc 99) (lit≤ tt) i.p_from i.p_to;
    positive_t = t_above_0;
    whole_t = has_t;
  }

  pub box_is : pT_box p t ≡ value tt
  box_is =
      rw (
        placed.finite_p,
        finite_value t (scaled_by 43 t) (2 ^ 43) has_t,
        is_true (le p_range_from p) i.p_from,
        is_true (le p p_range_to) i.p_to,
        is_true (le t_range_from t) i.t_from,
        is_true (le t t_range_to) i.t_to,
      )
