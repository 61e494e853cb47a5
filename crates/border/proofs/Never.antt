-- For a p of the box no step of the border's temperature is lost: the border is n4 and the root of a number above 0, and lies from n4 + 50 to n4 + 300. So
-- the test against it refuses with 8 or not at all. Assumes nothing.
use mathlib.Core.Path.{◌≡◌, refl, ap, ◌∙◌}
use mathlib.Core.Bool.{Bool, true, false, cond}
use lib.Dec.{T}
use lib.Ieee.{Float, binary64, round, neg, sum, add, sub, mul, div, fits, le, lt, eq}
use lib.Ieee.Fits.{div-fits, and_l, and_r}
use lib.Ieee.Positive.{positive, between, le_trans_positive}
use Rattle.common.specs.Outcome.{Outcome, value, refused, finite, then, or_nan}
use Rattle.common.specs.Decimal.{whole, decimal, scaled, plus}
use Rattle.common.specs.Constant.{p_range_from, p_range_to, t_range_from, t_range_to}
use Rattle.common.specs.Range.{within, pT_box}
use Rattle.common.proofs.Calls.{no_value}
use Rattle.common.proofs.Laws.{check_kept}
use Rattle.inverses.specs.Units.{in_units}
use Rattle.inverses.specs.Root.{root_rule, nearest_root}
use Rattle.border.specs.Border.{n3, n4, n5, B23_p2T, beside_border, region3_box}
use Rattle.border.proofs.Order.{Above, above0, seen, sub_mono, div_mono, add_mono}
use Rattle.border.proofs.Roots.{root_from, root_upto}

-- ---- the parts

abbrev N3 : Float
N3 = or_nan n3

abbrev pub N4 : Float
N4 = or_nan n4

abbrev N5 : Float
N5 = or_nan n5

-- the number whose root is taken
abbrev pub square_at : Float → Float
square_at p = div binary64 (sub binary64 p N5) N3

abbrev pub root_at : Float → Float
root_at p = nearest_root (in_units (square_at p))

-- the border's temperature
abbrev pub border_at : Float → Float
border_at p = add binary64 N4 (root_at p)

pub root_is : {x : Float} → Above x → root_rule x ≡ value (nearest_root (in_units x))
unfolding root_rule
root_is (above0 m e p) = refl

finite_of : {x : Float} → Above x → finite x ≡ true
finite_of (above0 m e p) = refl

-- ---- a p from 16.529 to 100

module _ (p : Float) (from : T (le p_range_from p)) (to : T (le p p_range_to)) where
  p_positive : T (positive p)
  unfolding decimal whole scaled round
  p_positive = between p_range_from p p_range_to tt tt from to

  less_from : T (le (sub binary64 p_range_from N5) (sub binary64 p N5))
  unfolding decimal plus scaled round le lt eq
  less_from = sub_mono p_range_from p N5 tt p_positive tt tt from

  less_to : T (le (sub binary64 p N5) (sub binary64 p_range_to N5))
  unfolding decimal whole plus scaled round le lt eq
  less_to = sub_mono p p_range_to N5 p_positive tt tt (le_trans_positive N5 p_range_from p tt tt p_positive tt from) to

  less_positive : T (positive (sub binary64 p N5))
  unfolding decimal whole plus scaled round sub add sum neg
  less_positive = between (sub binary64 p_range_from N5) (sub binary64 p N5) (sub binary64 p_range_to N5) tt tt less_from less_to

  square_from : T (le (square_at p_range_from) (square_at p))
  unfolding decimal plus scaled round sub add sum neg
  square_from = div_mono (sub binary64 p_range_from N5) (sub binary64 p N5) N3 tt less_positive tt less_from

  square_to : T (le (square_at p) (square_at p_range_to))
  unfolding whole plus scaled round sub add sum neg
  square_to = div_mono (sub binary64 p N5) (sub binary64 p_range_to N5) N3 less_positive tt tt less_to

  pub square_positive : T (positive (square_at p))
  unfolding decimal whole plus scaled round sub add sum neg div
  square_positive = between (square_at p_range_from) (square_at p) (square_at p_range_to) tt tt square_from square_to

  root_low : T (le (whole 50) (root_at p))
  unfolding decimal whole plus scaled round sub add sum neg div mul fits le lt eq
  root_low =
      root_from (square_at p) (whole 50) (div-fits binary64 (sub binary64 p N5) N3) square_positive tt tt
      (λ h. le_trans_positive (square_at p_range_from) (square_at p) (mul binary64 (whole 50) (whole 50)) tt square_positive tt square_from h)

  root_high : T (le (root_at p) (whole 300))
  unfolding decimal whole plus scaled round sub add sum neg div mul fits le lt eq
  root_high =
      root_upto (square_at p) (whole 300) (div-fits binary64 (sub binary64 p N5) N3) square_positive tt tt
      (λ h. le_trans_positive (mul binary64 (whole 300) (whole 300)) (square_at p) (square_at p_range_to) tt square_positive tt h square_to)

  pub root_positive : T (positive (root_at p))
  unfolding whole scaled round
  root_positive = between (whole 50) (root_at p) (whole 300) tt tt root_low root_high

  pub border_positive : T (positive (border_at p))
  unfolding whole plus scaled round add sum
  border_positive =
      between (add binary64 N4 (whole 50)) (border_at p) (add binary64 N4 (whole 300)) tt tt
      (add_mono N4 (whole 50) (root_at p) tt tt root_positive root_low)
      (add_mono N4 (root_at p) (whole 300) tt root_positive tt root_high)

  -- no step is lost
  pub never_lost : B23_p2T p ≡ value (border_at p)
  unfolding B23_p2T
  never_lost =
      rw (
        check_kept (sub binary64 p N5) (finite_of (seen (sub binary64 p N5) less_positive)),
        check_kept (square_at p) (finite_of (seen (square_at p) square_positive)),
        root_is (seen (square_at p) square_positive),
        check_kept (border_at p) (finite_of (seen (border_at p) border_positive)),
      )

  pub beside_is : (t : Float) → beside_border p t ≡ cond (lt (border_at p) t) (refused 8) (value tt)
  unfolding beside_border
  beside_is t = ap (λ (o : Outcome Float). then o (λ border. cond (lt border t) (refused 8) (value tt))) never_lost

-- ---- the box

boxed : (f g w v : Bool) → ◌≡◌ {A = Outcome Unit} (cond f (cond g (cond w (cond v (value tt) (refused 3)) (refused 2)) (refused 1)) (refused 1)) (value tt) → T w × T v
boxed true true true true e = (tt, tt)
boxed true true true false e = absurd (no_value e)
boxed true true false v e = absurd (no_value e)
boxed true false w v e = absurd (no_value e)
boxed false g w v e = absurd (no_value e)

pub record InBox (p t : Float) : Type 0 where
  pub p_from : T (le p_range_from p)
  pub p_to : T (le p p_range_to)
  pub t_from : T (le t_range_from t)
  pub t_to : T (le t t_range_to)

pub in_box : (p t : Float) → pT_box p t ≡ value tt → InBox p t
in_box p t e =
    let b = boxed (finite p) (finite t) (within p_range_from p_range_to p) (within t_range_from t_range_to t) e in
    record {
      p_from = and_l (le p_range_from p) (le p p_range_to) b.0;
      p_to = and_r (le p_range_from p) (le p p_range_to) b.0;
      t_from = and_l (le t_range_from t) (le t t_range_to) b.1;
      t_to = and_r (le t_range_from t) (le t t_range_to) b.1;
    }

-- where the box accepts, the border adds 8 and no other number
pub eight_alone : (p t : Float) → pT_box p t ≡ value tt → region3_box p t ≡ cond (lt (border_at p) t) (refused 8) (value tt)
unfolding region3_box
eight_alone p t e = let b = in_box p t e in ap (λ (o : Outcome Unit). then o (λ _. beside_border p t)) e ∙ beside_is p b.p_from b.p_to t
