-- The border in f64 against equation 6 worked exactly, its root cut off after n digits: within its distance for every f64 p of the box and every n from 80
-- on. So a T a millionth of a kelvin below the exact border is on region 3's side, and one as far above it is refused with 8. Assumes nothing.
use mathlib.Core.Path.{◌≡◌, refl, ap, ◌∙◌, subst}
use Prim.Native.Nat.{ℕ, ◌+◌, ◌*◌, ◌/◌, ◌^◌, ◌≤◌, ◌<◌}
use native.Mathlib.Nat.{le_trans, le_of_lt, mul-le-mul_right}
use mathlib.Core.Bool.{Bool, true, false, not, cond}
use lib.Dec.{T, lit<, lit≤}
use lib.Pow.{pow_pos}
use lib.Ieee.{Float, binary64, round, neg, size, fits}
use lib.Ieee.Exact.{HasValue}
use Rattle.common.specs.Outcome.{value, refused}
use Rattle.common.specs.Decimal as decimals
use Rattle.common.specs.Decimal.{scaled}
use Rattle.inverses.specs.Root.{whole_root}
use Rattle.border.specs.Border.{B23_p2T, region3_box}
use Rattle.border.proofs.Never.{border_at, never_lost, eight_alone}
use Rattle.rounding.specs.Fraction.{Fraction, ratio, Near, scaled_by}
use Rattle.rounding.proofs.Near.{held_near}
use Rattle.rounding.proofs.Expressions.{Ex, con, var, sum, difference, quotient, root, float, exact, always}
use Rattle.rounding.proofs.BoundByRange.{Bound, bound, Known, plain, within, within_ok, widen, works}
use Rattle.rounding.proofs.Whole.{known_between}
use Rattle.distance.specs.Exact.{Q}
use Rattle.distance.specs.Distance.{unit}
use Rattle.exact.specs.Distance.{border_distance}
use Rattle.exact_lines.specs.Border.{n3, n4, n5, border}
use Rattle.exact_lines.proofs.Pins.{rounded}
use Rattle.exact.specs.Premises.{InBox, BorderClear}
use Rattle.exact.proofs.Placed.{placed, box_is}
use Rattle.exact.proofs.Judged.{Followed, judge_by}

-- ---- the expression: its constants are the printed decimals, each beside the f64 nearest it
unfoldable border_ex : Ex
border_ex = sum (con (rounded n4) n4) (root (quotient (difference (var 0) (con (rounded n5) n5)) (con (rounded n3) n3)))

-- p is from 16.528 to 100 MPa
abbrev p_bound : Bound
p_bound = plain (16528 * 2 ^ 1074 / 1000) (100000 * 2 ^ 1074 / 1000 + 1) 0

-- the border is from 600 to 900 K
abbrev low : ℕ
low = 600 * 2 ^ 1074

abbrev high : ℕ
high = 900 * 2 ^ 1074

abbrev error : ℕ
error = border_distance * 2 ^ 1074 / unit

test : T (within (bound (always p_bound) border_ex) low high error)
unfolding bound border_ex whole_root size round neg fits
test = tt

module _ (p : Float) (P : ℕ) (held : T (fits binary64 p)) (whole_p : HasValue p false P Q) (from : 16528 * Q ≤ P * 1000) (to : P * 1000 ≤ 100000 * Q) where
  p_known : Known p (ratio P Q) p_bound
  p_known = known_between p P Q (2 ^ 1026) 16528 100000 1000 refl (pow_pos 48) (lit< tt) held whole_p from to

  module _ (n : ℕ) (deep : 80 ≤ n) where
    known : Known (float (always p) border_ex) (exact n (always (ratio P Q)) border_ex) (plain low high error)
    known =
        let b = bound (always p_bound) border_ex in
        let w = works n deep (always p) (always (ratio P Q)) (always p_bound) (λ i k. p_known) border_ex (within_ok b low high error test) in
        widen b low high error w.known test

    -- what the rule works is the expression
    number_is : float (always p) border_ex ≡ border_at p
    unfolding float border_ex decimals.plus scaled round
    number_is = refl

    exact_is : exact n (always (ratio P Q)) border_ex ≡ border n P
    unfolding exact border_ex border
    exact_is = refl

    border_known : Known (border_at p) (border n P) (plain low high error)
    border_known =
        subst (λ (y : Float). Known y (border n P) (plain low high error)) number_is
        (subst (λ (z : Fraction). Known (float (always p) border_ex) z (plain low high error)) exact_is known)

    pub border_near : Near (border_at p) (border n P) border_distance unit
    border_near = held_near border_distance unit border_known.held (lit≤ tt)

    pub border_scale : 0 < (border n P).scale
    border_scale = border_known.inside.positive

-- ---- the test against it
module _ (p t : Float) (i : InBox p t) where
  abbrev P : ℕ
  P = scaled_by 48 p

  abbrev pub border_followed : Followed (B23_p2T p) (λ n. border n P) border_distance unit
  border_followed =
      let g = placed p t i in
      let from = le_of_lt g.from_16 in
      let to = le_trans (mul-le-mul_right 1000 g.upto_100) (lit≤ tt) in
      record {
        number = border_at p;
        is = never_lost p i.p_from i.p_to;
        close = λ n deep. border_near p P i.p_f64 g.whole_p from to n deep;
        positive = λ n deep. border_scale p P i.p_f64 g.whole_p from to n deep;
      }

  by_side : (below : Bool) → BorderClear below P (scaled_by 43 t) → region3_box p t ≡ cond (not below) (refused 8) (value tt)
  by_side below s =
      let g = placed p t i in
      eight_alone p t (box_is p t i)
      ∙ ap (λ (b : Bool). cond b (refused 8) (value tt))
      (judge_by p P i.p_f64 g.whole_p t (scaled_by 43 t) g.whole_t (lit< tt) border_followed below s).beyond

  -- a millionth of a kelvin below the exact border: on region 3's side
  pub below_border : BorderClear true P (scaled_by 43 t) → region3_box p t ≡ value tt
  below_border s = by_side true s

  -- a millionth above it: refused with 8
  pub above_border : BorderClear false P (scaled_by 43 t) → region3_box p t ≡ refused 8
  above_border s = by_side false s
