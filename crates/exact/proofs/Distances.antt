-- How far each line that is no polynomial in p lies in f64 from the exact one, on the contracts themselves: what `T_atRegionBoundary` answers for 3ab, 3op and
-- 3wx, what `T_saturation` and `B23_p2T` answer. (The nine polynomials: distance/proofs/Contract.) Assumes nothing.
use mathlib.Core.Path.{◌≡◌, refl, sym, ap, ◌∙◌, subst}
use Prim.Native.Nat.{ℕ, ◌*◌, ◌≤◌, ◌<◌}
use native.Mathlib.Nat.{le_trans, lt_of_le_of_lt, le_of_lt, le_of_mul-le-mul_right, mul-le-mul_right, mul-one, zero-lt-suc}
use mathlib.Core.Bool.{false}
use lib.Dec.{T, lit<, lit≤}
use lib.Pow.{pow_pos}
use lib.Ieee.{Float, binary64, round, fits, le}
use lib.Ieee.Bits.{is_true}
use lib.Ieee.Exact.{HasValue}
use lib.Ieee.Positive.{positive, between, positive_of_value, values_of_le, le_trans_positive}
use contract.Lifetimes.{Lfts}
use denote.Triple.Clauses.{AtExit}
use borrow.Fn.Kinds.{Dens, ended_of, res_t}
use Rattle.common.specs.Outcome.{Outcome, value}
use Rattle.common.specs.Answer.{paper}
use Rattle.common.specs.Decimal.{scaled, decimal, whole}
use Rattle.common.specs.Constant.{p_range_from, p_range_to, p_max4, t_range_from}
use Rattle.rounding.specs.Fraction.{Fraction, Near, scaled_by}
use Rattle.r4.specs.Saturation.{T_saturation_rule}
use Rattle.r4.proofs.T_saturation.Kinds as saturation-kinds
use Rattle.r4.proofs.T_saturation.Reads as saturation-call
use Rattle.border.specs.Border.{B23_p2T_rule}
use Rattle.border.proofs.B23_p2T.Kinds as border-kinds
use Rattle.border.proofs.B23_p2T.Reads as border-call
use Rattle.boundaries.specs.Boundary.{boundary_of, boundary_rule}
use Rattle.boundaries.specs.declared.Boundary.{Boundary}
use Rattle.boundaries.specs.declared.Boundary.TheVariants.{Ab, Op, Wx}
use Rattle.boundaries.proofs.T_atRegionBoundary.Kinds as line-kinds
use Rattle.boundaries.proofs.T_atRegionBoundary.Reads as line-call
use Rattle.distance.specs.Exact.{Q}
use Rattle.distance.specs.Distance.{unit}
use Rattle.distance.proofs.Pressure.{whole_value}
use Rattle.exact_lines.specs.Letter.{line3ab, line3op, line3wx, saturation_line, line_at}
use Rattle.exact_lines.specs.Border.{border}
use Rattle.exact.specs.Distance.{distance3ab, distance3op, distance3wx, saturation_distance, border_distance, Follows}
use Rattle.exact.specs.Premises.{InBox}
use Rattle.exact.proofs.Placed.{Placed, placed}
use Rattle.exact.proofs.Reached.{ab_near, op_near, wx_near}
use Rattle.exact.proofs.Saturated.{saturation_near}
use Rattle.exact.proofs.Border.{border_followed}

follows : {o : Outcome Float} (θ : ℕ → Fraction) (k : ℕ) (y : Float) → o ≡ value y → ((n : ℕ) → 80 ≤ n → Near y (θ n) k unit) → Follows θ k o
follows θ k y e h = subst (Follows θ k) (sym e) h

whole_positive : (N : ℕ) → 0 < N → N ≤ 100 → T (positive (whole N))
whole_positive N some few = positive_of_value (whole N) N 1 (whole_value N few) some

-- ---- an f64 p of the box
module _ (p : Float) (held : T (fits binary64 p)) (from : T (le p_range_from p)) (to : T (le p p_range_to)) where
  abbrev P : ℕ
  P = scaled_by 48 p

  -- beside any T of the box
  boxed : InBox p t_range_from
  unfolding decimal scaled round fits le
  boxed = record { p_f64 = held; t_f64 = tt; p_from = from; p_to = to; t_from = tt; t_to = tt }

  at : Placed p t_range_from
  at = placed p t_range_from boxed

  p_positive : T (positive p)
  unfolding decimal whole scaled round
  p_positive = between p_range_from p p_range_to tt tt from to

  accepted : (b : Boundary) → boundary_rule b p ≡ boundary_of b p
  unfolding boundary_rule
  accepted b = rw (at.finite_p, is_true (le p_range_from p) from, is_true (le p p_range_to) to)

  -- from a whole number of MPa on, and up to one
  p_from : (N : ℕ) → 0 < N → N ≤ 100 → T (le (whole N) p) → N * Q ≤ P
  p_from N some few h = go (values_of_le (whole N) p N 1 P Q (whole_positive N some few) p_positive (whole_value N few) at.whole_p h)
    where
      go : N * Q ≤ P * 1 → N * Q ≤ P
      go g = subst (λ (z : ℕ). N * Q ≤ z) (mul-one P) g

  p_upto : (N : ℕ) → 0 < N → N ≤ 100 → T (le p (whole N)) → P ≤ N * Q
  p_upto N some few h = go (values_of_le p (whole N) P Q N 1 p_positive (whole_positive N some few) at.whole_p (whole_value N few) h)
    where
      go : P * 1 ≤ N * Q → P ≤ N * Q
      go g = subst (λ (z : ℕ). z ≤ N * Q) (mul-one P) g

  pub distance_3ab : T (le (whole 24) p) → Follows (line_at line3ab P) distance3ab (boundary_rule Ab p)
  unfolding line_at
  distance_3ab h =
      let c = ab_near p P held at.whole_p (p_from 24 (lit< tt) (lit≤ tt) h) (lt_of_le_of_lt at.upto_100 (lit< tt)) in
      follows (line_at line3ab P) distance3ab c.number (accepted Ab ∙ c.is) c.close

  pub distance_3op : T (le (whole 22) p) → T (le p (whole 23)) → Follows (line_at line3op P) distance3op (boundary_rule Op p)
  unfolding line_at
  distance_3op h g =
      let c = op_near p P held at.whole_p (p_from 22 (lit< tt) (lit≤ tt) h) (lt_of_le_of_lt (p_upto 23 (lit< tt) (lit≤ tt) g) (lit< tt)) in
      follows (line_at line3op P) distance3op c.number (accepted Op ∙ c.is) c.close

  from_16 : 16 * Q ≤ P
  from_16 = le_of_mul-le-mul_right (le_trans (lit≤ {m = 16 * Q * 1000} {n = 16528 * Q} tt) (le_of_lt at.from_16)) (zero-lt-suc 999)

  pub distance_3wx : T (le p (whole 23)) → Follows (line_at line3wx P) distance3wx (boundary_rule Wx p)
  unfolding line_at
  distance_3wx g =
      let c = wx_near p P held at.whole_p from_16 (lt_of_le_of_lt (p_upto 23 (lit< tt) (lit≤ tt) g) (lit< tt)) in
      follows (line_at line3wx P) distance3wx c.number (accepted Wx ∙ c.is) c.close

  pub distance_border : Follows (λ n. border n P) border_distance (B23_p2T_rule p)
  unfolding B23_p2T_rule
  distance_border =
      let f = border_followed p t_range_from boxed in
      follows {o = B23_p2T_rule p} (λ n. border n P) border_distance f.number (rw (at.finite_p, is_true (le p_range_from p) from, is_true (le p p_range_to) to) f.is)
      f.close

-- ---- an f64 p of the saturation line
module _ (p : Float) (held : T (fits binary64 p)) (from : T (le p_range_from p)) (to : T (le p p_max4)) where
  abbrev P4 : ℕ
  P4 = scaled_by 48 p

  positive_p : T (positive p)
  unfolding decimal scaled round
  positive_p = between p_range_from p p_max4 tt tt from to

  in_box : T (le p p_range_to)
  unfolding decimal whole scaled round le
  in_box = le_trans_positive p p_max4 p_range_to positive_p tt tt to tt

  place : Placed p t_range_from
  place = at p held from in_box

  max_value : HasValue p_max4 false (scaled_by 48 p_max4) Q
  unfolding decimal scaled round scaled_by
  max_value = (refl, refl)

  upto_critical : P4 * 1000 ≤ 22065 * Q
  unfolding decimal scaled round scaled_by
  upto_critical =
      le_trans
      (mul-le-mul_right {n = scaled_by 48 p_max4} 1000
      (le_of_mul-le-mul_right (values_of_le p p_max4 P4 Q (scaled_by 48 p_max4) Q positive_p tt place.whole_p max_value to) (pow_pos 48)))
      (lit≤ tt)

  pub distance_saturation : Follows (line_at saturation_line P4) saturation_distance (T_saturation_rule p)
  unfolding T_saturation_rule line_at
  distance_saturation =
      let s = saturation_near p P4 held place.whole_p place.upto_100 place.from_16 upto_critical in
      follows {o = T_saturation_rule p} (line_at saturation_line P4) saturation_distance s.number
      (rw (place.finite_p, is_true (le p_range_from p) from, is_true (le p p_max4) to) s.is) s.close

-- ---- on the contracts
module _ (κs : Lfts 0) (a : Dens κs line-kinds.ps) (e : AtExit (ended_of 0 line-kinds.ps line-kinds.r) κs) (r : (res_t line-kinds.r κs).Denot)
    (post : line-call.Post κs a r e) (held : T (fits binary64 a.0.0)) (from : T (le p_range_from a.0.0)) (to : T (le a.0.0 p_range_to)) where
  answered : (θ : ℕ → Fraction) (k : ℕ) (b : Boundary) → a.1.0 ≡ b → Follows θ k (boundary_rule b a.0.0) → Follows θ k (paper r)
  answered θ k b is h = subst (Follows θ k) (sym (post ∙ ap (λ (x : Boundary). boundary_rule x a.0.0) is)) h

  pub answers_3ab : a.1.0 ≡ Ab → T (le (whole 24) a.0.0) → Follows (line_at line3ab (scaled_by 48 a.0.0)) distance3ab (paper r)
  answers_3ab is h = answered (line_at line3ab (scaled_by 48 a.0.0)) distance3ab Ab is (distance_3ab a.0.0 held from to h)

  pub answers_3op : a.1.0 ≡ Op → T (le (whole 22) a.0.0) → T (le a.0.0 (whole 23))
      → Follows (line_at line3op (scaled_by 48 a.0.0)) distance3op (paper r)
  answers_3op is h g = answered (line_at line3op (scaled_by 48 a.0.0)) distance3op Op is (distance_3op a.0.0 held from to h g)

  pub answers_3wx : a.1.0 ≡ Wx → T (le a.0.0 (whole 23)) → Follows (line_at line3wx (scaled_by 48 a.0.0)) distance3wx (paper r)
  answers_3wx is g = answered (line_at line3wx (scaled_by 48 a.0.0)) distance3wx Wx is (distance_3wx a.0.0 held from to g)

pub answers_saturation : (κs : Lfts 0) (a : Dens κs saturation-kinds.ps) (e : AtExit (ended_of 0 saturation-kinds.ps saturation-kinds.r) κs)
    (r : (res_t saturation-kinds.r κs).Denot) → saturation-call.Post κs a r e → T (fits binary64 a.0.0) → T (le p_range_from a.0.0) → T (le a.0.0 p_max4)
    → Follows (line_at saturation_line (scaled_by 48 a.0.0)) saturation_distance (paper r)
answers_saturation κs a e r post held from to =
    subst (Follows (line_at saturation_line (scaled_by 48 a.0.0)) saturation_distance) (sym post) (distance_saturation a.0.0 held from to)

pub answers_border : (κs : Lfts 0) (a : Dens κs border-kinds.ps) (e : AtExit (ended_of 0 border-kinds.ps border-kinds.r) κs)
    (r : (res_t border-kinds.r κs).Denot) → border-call.Post κs a r e → T (fits binary64 a.0.0) → T (le p_range_from a.0.0) → T (le a.0.0 p_range_to)
    → Follows (λ n. border n (scaled_by 48 a.0.0)) border_distance (paper r)
answers_border κs a e r post held from to =
    subst (Follows (λ n. border n (scaled_by 48 a.0.0)) border_distance) (sym post) (distance_border a.0.0 held from to)
