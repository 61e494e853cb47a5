-- The test against the border without its root: with d = T - n4, where d*d is below the number whose root is taken, T is not above the border; where the square of
-- a smaller e is above that number, and n4 + e is below T, it is. Assumes nothing.
use mathlib.Core.Path.{◌≡◌, refl, sym, ap, ◌∙◌, subst}
use mathlib.Core.Bool.{Bool, true, false, not, cond}
use lib.Dec.{T}
use lib.Ieee.{Float, binary64, round, neg, sum, add, sub, mul, le, lt, eq}
use lib.Ieee.Fits.{sub-fits, div-fits}
use lib.Ieee.Positive.{positive, between, le_trans_positive}
use Rattle.common.specs.Outcome.{Outcome, value, refused, or_nan}
use Rattle.common.specs.Decimal.{decimal, scaled, plus}
use Rattle.common.specs.Constant.{t_range_from, t_range_to}
use Rattle.common.specs.Range.{pT_box}
use Rattle.inverses.specs.Root.{root_rule}
use Rattle.border.specs.Border.{beside_border}
use Rattle.border.proofs.Order.{seen, sub_mono, add_mono, at_most, not_both, not_both_above, not_below, is_below}
use Rattle.border.proofs.Roots.{root_from, root_upto}
use Rattle.border.proofs.Never.{N4, square_at, root_at, border_at, root_is, square_positive, root_positive, border_positive, beside_is, InBox, in_box}

abbrev margin : Float
margin = decimal 0_001 3

holds : {b : Bool} → b ≡ true → T b
holds e = subst T (sym e) tt

module _ (p t : Float) (box : pT_box p t ≡ value tt) where
  b : InBox p t
  b = in_box p t box

  abbrev d : Float
  d = sub binary64 t N4

  abbrev e : Float
  e = sub binary64 d margin

  t_positive : T (positive t)
  unfolding decimal scaled round
  t_positive = between t_range_from t t_range_to tt tt b.t_from b.t_to

  d_from : T (le (sub binary64 t_range_from N4) d)
  unfolding decimal plus scaled round le lt eq
  d_from = sub_mono t_range_from t N4 tt t_positive tt tt b.t_from

  d_to : T (le d (sub binary64 t_range_to N4))
  unfolding decimal plus scaled round le lt eq
  d_to = sub_mono t t_range_to N4 t_positive tt tt (le_trans_positive N4 t_range_from t tt tt t_positive tt b.t_from) b.t_to

  d_positive : T (positive d)
  unfolding decimal plus scaled round sub add sum neg
  d_positive = between (sub binary64 t_range_from N4) d (sub binary64 t_range_to N4) tt tt d_from d_to

  e_positive : T (positive e)
  unfolding decimal plus scaled round sub add sum neg le lt eq
  e_positive =
      between (sub binary64 (sub binary64 t_range_from N4) margin) e (sub binary64 (sub binary64 t_range_to N4) margin) tt tt
      (sub_mono (sub binary64 t_range_from N4) d margin tt d_positive tt tt d_from)
      (sub_mono d (sub binary64 t_range_to N4) margin d_positive tt tt (le_trans_positive margin (sub binary64 t_range_from N4) d tt tt d_positive tt d_from) d_to)

  q_positive : T (positive (square_at p))
  q_positive = square_positive p b.p_from b.p_to

  r_positive : T (positive (root_at p))
  r_positive = root_positive p b.p_from b.p_to

  told : (x : Bool) → lt (border_at p) t ≡ x → cond x (refused 8) (value tt) ≡ beside_border p t
  told x h = sym (beside_is p b.p_from b.p_to t ∙ ap (λ (y : Bool). cond y (refused 8) (value tt)) h)

  N4_positive : T (positive N4)
  unfolding plus scaled round
  N4_positive = tt

  -- T = n4 + d is at most n4 + root
  pub beside : lt (mul binary64 d d) (square_at p) ≡ true → le t (add binary64 N4 d) ≡ true → value tt ≡ beside_border p t
  beside h k =
      told false
      (not_below (border_at p) t t_positive
      (le_trans_positive t (add binary64 N4 d) (border_at p) t_positive sum_positive (border_positive p b.p_from b.p_to) (holds k) reached))
    where
      reached : T (le (add binary64 N4 d) (border_at p))
      reached =
          add_mono N4 d (root_at p) N4_positive d_positive r_positive
          (root_from (square_at p) d (div-fits binary64 _ _) q_positive (sub-fits binary64 _ _) d_positive (λ g. not_both (square_at p) (mul binary64 d d) q_positive g (holds h)))

      sum_positive : T (positive (add binary64 N4 d))
      sum_positive = between t (add binary64 N4 d) (border_at p) t_positive (border_positive p b.p_from b.p_to) (holds k) reached

  -- n4 + root is at most n4 + e, which is below T
  pub beyond : lt (square_at p) (mul binary64 e e) ≡ true → lt (add binary64 N4 e) t ≡ true → refused 8 ≡ beside_border p t
  beyond h k =
      told true
      (is_below (border_at p) t (border_positive p b.p_from b.p_to) t_positive
      (λ g. not_both t (add binary64 N4 e) t_positive (le_trans_positive t (border_at p) (add binary64 N4 e) t_positive (border_positive p b.p_from b.p_to) sum_positive g reached) (holds k)))
    where
      reached : T (le (border_at p) (add binary64 N4 e))
      reached =
          add_mono N4 (root_at p) e N4_positive r_positive e_positive
          (root_upto (square_at p) e (div-fits binary64 _ _) q_positive (sub-fits binary64 _ _) e_positive (λ g. not_both_above (square_at p) (mul binary64 e e) q_positive g (holds h)))

      sum_positive : T (positive (add binary64 N4 e))
      sum_positive = between (border_at p) (add binary64 N4 e) t (border_positive p b.p_from b.p_to) t_positive reached (at_most (add binary64 N4 e) t (holds k))

  -- by the root itself
  pub by_root : cond (not (lt (add binary64 N4 (or_nan (root_rule (square_at p)))) t)) (value tt) (refused 8) ≡ beside_border p t
  by_root = rw (root_is (seen (square_at p) q_positive)) (turned (lt (border_at p) t) ∙ told (lt (border_at p) t) refl)
    where
      turned : (x : Bool) → ◌≡◌ {A = Outcome Unit} (cond (not x) (value tt) (refused 8)) (cond x (refused 8) (value tt))
      turned true = refl
      turned false = refl
