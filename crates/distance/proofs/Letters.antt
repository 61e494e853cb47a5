-- Demand 3. For two f64s 23 < p ≤ 25 and 623.15 ≤ T ≤ 863.15, T not above the border with region 2, where T lies a millionth of a kelvin or more from each
-- of the five boundary temperatures, worked out exactly, the letter choice accepts and gives the letter that exact arithmetic gives. Assumes nothing.
use mathlib.Core.Path.{◌≡◌, refl, sym, ap, ◌∙◌, subst}
use Prim.Native.Nat.{ℕ, ◌+◌, ◌*◌, ◌^◌, ◌≤◌, ◌<◌}
use native.Mathlib.Nat.{le_trans, mul-one, mul-le-mul_right, zero-lt-suc}
use native.Mathlib.Omega.{arith}
use mathlib.Core.List.{List, [], ◌∷◌}
use mathlib.Core.Bool.{Bool, true, false, not, ◌&&◌, cond}
use lib.Dec.{T, leb, ltb, leb→le, nleb→lt, ltb→lt, lt→ltb, lit<, lit≤}
use lib.Arith.{le→nltb}
use lib.Pow.{pow_pos}
use lib.Ieee.{Float, binary64, le, lt, of_bits, round}
use lib.Ieee.Fits.{and_l, and_r}
use lib.Ieee.Bits.{is_true, is_false}
use lib.Ieee.Exact.{HasValue}
use lib.Ieee.Positive.{positive, between, le_trans_positive}
use Rattle.common.specs.Outcome.{Outcome, value, refused, then, value_in}
use Rattle.common.specs.Decimal.{whole, decimal, scaled}
use Rattle.common.specs.Constant.{p_range_from, p_range_to, t_range_from, t_range_to}
use Rattle.common.specs.Range.{pT_box}
use Rattle.border.specs.Border.{B23_p2T_rule, region3_box}
use Rattle.border.proofs.Order.{not_below}
use Rattle.border.proofs.Never.{border_at, never_lost, eight_alone}
use Rattle.common.specs.Sum.{every}
use Rattle.common.proofs.Sums.{both_left, both_right}
use Rattle.rounding.specs.Fraction.{ratio, at_most, scaled_by}
use Rattle.rounding.proofs.Compare.{lt_then_le, le_agrees, lt_values}
use Rattle.rounding.proofs.Whole.{whole_from, finite_value}
use Rattle.subregion.specs.declared.Letter.{Letter}
use Rattle.subregion.specs.declared.Letter.TheVariants.{G, L}
use Rattle.boundaries.specs.Boundary.{boundary_of}
use Rattle.choosers.specs.Choosers.{Band, cghijk, clhijk, band_of}
use Rattle.boundary.specs.Choice.{chijk_rule, in_band, letter_at, letter_rule}
use Rattle.boundary.proofs.Limit.{limit_is}
use Rattle.distance.specs.Exact.{Polynomial, temperature, Q}
use Rattle.distance.specs.Distance.{kind, top, distance, unit, Reaches}
use Rattle.distance.specs.Letter.{tolerance, kelvin, letters_with, exact_letter, All, five, Inside, Clear, Off}
use Rattle.distance.proofs.Pressure.{whole_value, p_whole, p_upto, p_finite, p_box_lem}
use Rattle.distance.proofs.Distances.{boundary_reaches}

-- ---- one boundary: it is accepted, and T is at most it where exact arithmetic says so
record Judged (b : Polynomial) (p t : Float) (P n : ℕ) : Type 0 where
  number : Float
  accepted : boundary_of (kind b) p ≡ value number
  same : le t number ≡ at_most (kelvin n) (temperature b P)

-- what is computed of a boundary: its distance is below the tolerance, and it is used up to 25 MPa at least
abbrev apt : ℕ → Polynomial → Bool
apt P b = ltb 0 (temperature b P).scale && ltb (distance b * tolerance) (1 * unit) && leb 25 (top b)

module _ (p t : Float) (P n : ℕ) (whole_p : HasValue p false P Q) (whole_t : HasValue t false n (2 ^ 43)) (upto_25 : P ≤ 25 * Q) where
  judge : (b : Polynomial) → T (apt P b) → Off b P n → Judged b p t P n
  judge b h off =
      let s = ltb 0 (temperature b P).scale in
      let d = ltb (distance b * tolerance) (1 * unit) in
      go (ltb→lt 0 (temperature b P).scale (and_l s d (and_l (s && d) (leb 25 (top b)) h)))
      (ltb→lt (distance b * tolerance) (1 * unit) (and_r s d (and_l (s && d) (leb 25 (top b)) h)))
      (boundary_of (kind b) p) refl (boundary_reaches b p P whole_p
      (le_trans upto_25 (mul-le-mul_right Q (leb→le 25 (top b) (and_r (s && d) (leb 25 (top b)) h)))))
    where
      go : 0 < (temperature b P).scale → distance b * tolerance < 1 * unit → (x : Outcome Float) → boundary_of (kind b) p ≡ x → Reaches b P x → Judged b p t P n
      go s d (value y) e near =
          record {
            number = y;
            accepted = e;
            same = le_agrees t y n (2 ^ 43) (temperature b P) (distance b) unit 1 tolerance (pow_pos 43) s (lit< tt) d whole_t
                near off;
          }
      go s d (refused k) e near = absurd near

  judge_all : (bs : List Polynomial) → T (every (apt P) bs) → All (λ b. Off b P n) bs → All (λ b. Judged b p t P n) bs
  unfolding every
  judge_all [] h off = tt
  judge_all (b ∷ bs) h off = (judge b (both_left (apt P b) (every (apt P) bs) h) off.0, judge_all bs (both_right (apt P b) (every (apt P) bs) h) off.1)

-- ---- p above 23.5
high_arith : (P Q : ℕ) → ltb (47 * Q) (P * 2) ≡ not (leb (P * 10 + 0 * Q) (235 * Q + 0 * 10))
high_arith P Q = go (leb (P * 10 + 0 * Q) (235 * Q + 0 * 10)) (leb→le (P * 10 + 0 * Q) (235 * Q + 0 * 10)) (nleb→lt (P * 10 + 0 * Q) (235 * Q + 0 * 10))
  where
    low : P * 10 + 0 * Q ≤ 235 * Q + 0 * 10 → P * 2 ≤ 47 * Q
    low h = omega arith

    high : 235 * Q + 0 * 10 < P * 10 + 0 * Q → 47 * Q < P * 2
    high h = omega arith

    go : (x : Bool) → (T x → P * 10 + 0 * Q ≤ 235 * Q + 0 * 10) → (T (not x) → 235 * Q + 0 * 10 < P * 10 + 0 * Q) → ltb (47 * Q) (P * 2) ≡ not x
    go true f g = is_false (ltb (47 * Q) (P * 2)) (le→nltb (47 * Q) (P * 2) (low (f tt)))
    go false f g = is_true (ltb (47 * Q) (P * 2)) (lt→ltb (47 * Q) (P * 2) (high (g tt)))

half_value : HasValue (decimal 23_5 1) false 47 2
unfolding decimal scaled round
half_value = (refl, refl)

module _ (p t : Float) (i : Inside p t) where
  abbrev P : ℕ
  P = scaled_by 48 p

  abbrev n : ℕ
  n = scaled_by 43 t

  -- ---- p is P / 2^48 and t is n / 2^43, exactly

  from_23 : T (le (whole 23) p)
  from_23 = lt_then_le (whole 23) p i.p_above

  from_16 : T (le p_range_from p)
  unfolding whole decimal scaled round le
  from_16 = le_trans_positive p_range_from (whole 23) p tt tt (between (whole 23) p (whole 25) tt tt from_23 i.p_upto) tt from_23

  pub whole_p : HasValue p false P Q
  whole_p = p_whole p i.p_f64 25 (zero-lt-suc 24) (lit≤ tt) from_16 i.p_upto

  upto_25 : P ≤ 25 * Q
  upto_25 = p_upto p i.p_f64 25 (zero-lt-suc 24) (lit≤ tt) from_16 i.p_upto

  positive_t : T (positive t)
  unfolding decimal scaled round
  positive_t = between t_range_from t t_range_to tt tt i.t_from i.t_to

  pub whole_t : HasValue t false n (2 ^ 43)
  unfolding decimal scaled round
  whole_t = whole_from 9 43 refl t_range_from t tt positive_t i.t_f64 tt i.t_from

  -- ---- the box
  in_box : T (le p p_range_to)
  in_box = p_box_lem p i.p_f64 25 (zero-lt-suc 24) (lit≤ tt) from_16 i.p_upto

  box : pT_box p t ≡ value tt
  box =
      rw (
        p_finite p i.p_f64 25 (zero-lt-suc 24) (lit≤ tt) from_16 i.p_upto,
        finite_value t n (2 ^ 43) whole_t,
        is_true (le p_range_from p) from_16,
        is_true (le p p_range_to) in_box,
        is_true (le t_range_from t) i.t_from,
        is_true (le t t_range_to) i.t_to,
      )

  -- ---- the border
  border : B23_p2T_rule p ≡ value (border_at p)
  unfolding B23_p2T_rule
  border =
      rw (p_finite p i.p_f64 25 (zero-lt-suc 24) (lit≤ tt) from_16 i.p_upto, is_true (le p_range_from p) from_16, is_true (le p p_range_to) in_box)
      (never_lost p from_16 in_box)

  this_side : lt (border_at p) t ≡ false
  this_side = not_below (border_at p) t positive_t (subst (λ (o : Outcome Float). T (le t (value_in o))) border i.t_border)

  region_3 : region3_box p t ≡ value tt
  region_3 = eight_alone p t box ∙ ap (λ (b : Bool). cond b (refused 8) (value tt)) this_side

  -- ---- the band
  not_above : (N : ℕ) → 25 ≤ N → N ≤ 100 → lt (whole N) p ≡ false
  not_above N l s =
      lt_values (whole N) p N 1 P Q (zero-lt-suc 0) (pow_pos 48) (whole_value N s) whole_p ∙ is_false (ltb (N * Q) (P * 1))
      (le→nltb (N * Q) (P * 1) (reach (le_trans upto_25 (mul-le-mul_right Q l))))
    where
      reach : P ≤ N * Q → P * 1 ≤ N * Q
      reach h = subst (λ (z : ℕ). z ≤ N * Q) (sym (mul-one P)) h

  -- p ≤ 23.5, exactly
  abbrev lower : Bool
  lower = at_most (ratio P Q) (ratio 23_5 10)

  above_half : lt (decimal 23_5 1) p ≡ not lower
  above_half = lt_values (decimal 23_5 1) p 47 2 P Q (zero-lt-suc 1) (pow_pos 48) half_value whole_p ∙ high_arith P Q

  band : (l : Float) → band_of l p ≡ cond lower clhijk cghijk
  band l = rw (not_above 40 (lit≤ tt) (lit≤ tt), not_above 25 (lit≤ tt) (lit≤ tt), above_half, is_true (lt (whole 23) p) i.p_above) (go lower)
    where
      go : (x : Bool) → cond (not x) cghijk clhijk ≡ cond x clhijk cghijk
      go true = refl
      go false = refl

  -- ---- the letter
  module _ (k : Clear P n) where
    judged : All (λ b. Judged b p t P n) five
    unfolding temperature every
    judged = judge_all p t P n whole_p whole_t upto_25 five tt k

    -- second is the letter between 3cd and 3gh
    chosen_of : (second : Letter) → chijk_rule second p t ≡ value (letters_with second P n)
    unfolding chijk_rule letters_with
    chosen_of second =
        let at-cd = judged.0 in
        let at-gh = judged.1.0 in
        let at-ef = judged.1.1.0 in
        let at-ij = judged.1.1.1.0 in
        let at-jk = judged.1.1.1.1.0 in
        rw (at-cd.accepted, at-ef.accepted, at-gh.accepted, at-ij.accepted, at-jk.accepted)
        (rw (at-cd.same, at-gh.same, at-ef.same, at-ij.same, at-jk.same))

    in_band_lem : (x : Bool) → in_band (cond x clhijk cghijk) p t ≡ value (letters_with (cond x L G) P n)
    in_band_lem true = chosen_of L
    in_band_lem false = chosen_of G

    by_pressure : letters_with (cond lower L G) P n ≡ exact_letter P n
    unfolding exact_letter
    by_pressure = refl

    accepted : letter_rule p t ≡ value (exact_letter P n)
    unfolding letter_rule letter_at
    accepted =
        ap (λ (o : Outcome Unit). then o (λ _. letter_at p t)) region_3
        ∙ ap (λ (o : Outcome Float). then o (λ l. in_band (band_of l p) p t)) limit_is
        ∙ ap (λ (b : Band). in_band b p t) (band (of_bits binary64 0x40350b1a1ee0b6d0))
        ∙ in_band_lem lower
        ∙ ap value by_pressure

-- the theorem
pub exact_letter_lem : (p t : Float) → Inside p t → Clear (scaled_by 48 p) (scaled_by 43 t) → letter_rule p t ≡ value (exact_letter (scaled_by 48 p) (scaled_by 43 t))
exact_letter_lem p t i k = accepted p t i k
