-- p against the ends of the bands: the f64s of the choice in f64 and the decimals of the exact one cut alike, but at three f64s; and the limit
-- p_saturation(643.15). Assumes nothing.
use mathlib.Core.Path.{◌≡◌, refl, sym, ap, ◌∙◌}
use mathlib.Core.Logic.{◌⊎◌, inl, inr}
use Prim.Native.Nat.{ℕ, ◌+◌, ◌*◌, ◌^◌, ◌≤◌, ◌<◌}
use native.Mathlib.Nat.{le_trans, lt_of_lt_of_le, lt_of_le_of_lt, mul-le-mul_right, mul-lt-mul_of_pos_right, eq-or-lt_of_le}
use native.Mathlib.Omega.{arith}
use mathlib.Core.Bool.{Bool, true, false, not}
use lib.Dec.{T, leb, ltb, leb→le, le→leb, nleb→lt, nltb→le, lt→ltb, ltb→lt, lit<, lit≤}
use lib.Arith.{le→nltb, lt→nleb}
use lib.Pow.{pow_pos}
use lib.Ieee.{Float, lt, of_bits, round}
use lib.Ieee.Bits.{is_true, is_false}
use lib.Ieee.Exact.{HasValue}
use Rattle.common.specs.Decimal.{whole, decimal, scaled}
use Rattle.rounding.specs.Fraction.{scaled_by}
use Rattle.rounding.proofs.Compare.{lt_values, side_of}
use Rattle.distance.specs.Exact.{Q}
use Rattle.exact_lines.specs.Saturation.{limit}
use Rattle.exact_lines.specs.Letter.{above}
use Rattle.exact.specs.Premises.{PressureClear, per_MPa}
use Rattle.exact.proofs.BandLimit.{f64_limit, limit_in, limit_near}
use Rattle.exact.proofs.Sides.{deep_side}

-- a test of P against d / k, spread out
pad_lt : (a b c e : ℕ) → b < a → b + 0 * e < a + 0 * c
pad_lt a b c e h = omega arith

pad_le : (a b c e : ℕ) → a ≤ b → a + 0 * c ≤ b + 0 * e
pad_le a b c e h = omega arith

-- ---- p against a pressure d / k, of which c = A / 2^48 is the f64
module _ (p : Float) (P : ℕ) (whole_p : HasValue p false P Q) where
  pub lt_is : (c : Float) (A : ℕ) → HasValue c false A Q → lt c p ≡ ltb A P
  lt_is c A h = lt_values c p A Q P Q (pow_pos 48) (pow_pos 48) h whole_p ∙ same A P Q (pow_pos 48)
    where
      same : (A P Q : ℕ) → 0 < Q → ltb (A * Q) (P * Q) ≡ ltb A P
      same A P Q q = go (ltb A P) (ltb→lt A P) (λ n. nltb→le A P n)
        where
          go : (b : Bool) → (T b → A < P) → (T (not b) → P ≤ A) → ltb (A * Q) (P * Q) ≡ b
          go true f g = is_true (ltb (A * Q) (P * Q)) (lt→ltb (A * Q) (P * Q) (mul-lt-mul_of_pos_right (f tt) q))
          go false f g = is_false (ltb (A * Q) (P * Q)) (le→nltb (A * Q) (P * Q) (mul-le-mul_right Q (g tt)))

  above_is : (d k : ℕ) → (b : Bool) → (T b → d * Q < P * k) → (T (not b) → P * k ≤ d * Q) → above P d k ≡ b
  above_is d k true f g =
      ap not (is_false (leb (P * k + 0 * Q) (d * Q + 0 * k)) (lt→nleb (P * k + 0 * Q) (d * Q + 0 * k) (pad_lt (P * k) (d * Q) Q k (f tt))))
  above_is d k false f g =
      ap not (is_true (leb (P * k + 0 * Q) (d * Q + 0 * k)) (le→leb (P * k + 0 * Q) (d * Q + 0 * k) (pad_le (P * k) (d * Q) Q k (g tt))))

  -- the f64 is d / k or the one below it
  cut : (c : Float) (A d k : ℕ) → HasValue c false A Q → 0 < k → A * k ≤ d * Q → d * Q < (A + 1) * k → lt c p ≡ above P d k
  cut c A d k h K lo hi =
      lt_is c A h
      ∙ sym
      (above_is d k (ltb A P) (λ t. lt_of_lt_of_le hi (mul-le-mul_right k (next A P (ltb→lt A P t)))) (λ t. le_trans (mul-le-mul_right k (nltb→le A P t)) lo))
    where
      next : (A P : ℕ) → A < P → A + 1 ≤ P
      next A P h = omega arith

  -- the f64 is the one above it, and p is another
  cut_up : (c : Float) (A d k : ℕ) → HasValue c false A Q → 0 < k → d * Q ≤ A * k → A * k < d * Q + k → (P ≡ A → ⊥) → lt c p ≡ above P d k
  cut_up c A d k h K lo hi ne =
      lt_is c A h
      ∙ sym (above_is d k (ltb A P) (λ t. lt_of_le_of_lt lo (mul-lt-mul_of_pos_right (ltb→lt A P t) K)) (λ t. small (lower (nltb→le A P t))))
    where
      lower : P ≤ A → P + 1 ≤ A
      lower h = go (eq-or-lt_of_le h)
        where
          go : (P ≡ A) ⊎ (P < A) → P + 1 ≤ A
          go (inl e) = absurd (ne e)
          go (inr l) = omega arith

      small : P + 1 ≤ A → P * k ≤ d * Q
      small h = join (mul-le-mul_right k h)
        where
          join : (P + 1) * k ≤ A * k → P * k ≤ d * Q
          join g = omega (arith, g, hi)

  -- what a test of p says
  pub yes_above : (d k : ℕ) → T (above P d k) → d * Q < P * k
  yes_above d k t = pad (d * Q) (P * k) k Q (nleb→lt (P * k + 0 * Q) (d * Q + 0 * k) t)
    where
      pad : (a b c e : ℕ) → a + 0 * c < b + 0 * e → a < b
      pad a b c e h = omega arith

  pub not_above : (d k : ℕ) → T (not (above P d k)) → P * k ≤ d * Q
  not_above d k t = pad (P * k) (d * Q) Q k (leb→le (P * k + 0 * Q) (d * Q + 0 * k) (twice (leb (P * k + 0 * Q) (d * Q + 0 * k)) t))
    where
      twice : (b : Bool) → T (not (not b)) → T b
      twice true t = tt
      twice false t = t

      pad : (a b c e : ℕ) → a + 0 * c ≤ b + 0 * e → a ≤ b
      pad a b c e h = omega arith

-- ---- the f64s of the ends
abbrev Whole : Float → Type 0
Whole c = HasValue c false (scaled_by 48 c) Q

exact_40 : Whole (whole 40)
unfolding whole scaled round scaled_by
exact_40 = (refl, refl)

exact_25 : Whole (whole 25)
unfolding whole scaled round scaled_by
exact_25 = (refl, refl)

exact_23 : Whole (whole 23)
unfolding whole scaled round scaled_by
exact_23 = (refl, refl)

exact_23_5 : Whole (decimal 23_5 1)
unfolding decimal scaled round scaled_by
exact_23_5 = (refl, refl)

exact_22_5 : Whole (decimal 22_5 1)
unfolding decimal scaled round scaled_by
exact_22_5 = (refl, refl)

exact_20_5 : Whole (decimal 20_5 1)
unfolding decimal scaled round scaled_by
exact_20_5 = (refl, refl)

exact_19_0088 : Whole (decimal 19_00881189173929 14)
unfolding decimal scaled round scaled_by
exact_19_0088 = (refl, refl)

pub exact_22_11 : Whole (decimal 22_11 2)
unfolding decimal scaled round scaled_by
exact_22_11 = (refl, refl)

pub exact_22_064 : Whole (decimal 22_064 3)
unfolding decimal scaled round scaled_by
exact_22_064 = (refl, refl)

pub exact_21_9316 : Whole (decimal 21_93161551 8)
unfolding decimal scaled round scaled_by
exact_21_9316 = (refl, refl)

pub exact_21_9010 : Whole (decimal 21_90096265 8)
unfolding decimal scaled round scaled_by
exact_21_9010 = (refl, refl)

pub exact_limit : Whole f64_limit
unfolding of_bits scaled_by
exact_limit = (refl, refl)

-- none of the three f64s that lie just above a printed pressure
pub record Ends (P : ℕ) : Type 0 where
  pub not_22_064 : P ≡ scaled_by 48 (decimal 22_064 3) → ⊥
  pub not_21_9316 : P ≡ scaled_by 48 (decimal 21_93161551 8) → ⊥
  pub not_21_9010 : P ≡ scaled_by 48 (decimal 21_90096265 8) → ⊥

module _ (p : Float) (P : ℕ) (whole_p : HasValue p false P Q) where
  pub at_40 : lt (whole 40) p ≡ above P 40 1
  unfolding whole scaled round scaled_by
  at_40 = cut p P whole_p (whole 40) (scaled_by 48 (whole 40)) 40 1 exact_40 (lit< tt) (lit≤ tt) (lit< tt)

  pub at_25 : lt (whole 25) p ≡ above P 25 1
  unfolding whole scaled round scaled_by
  at_25 = cut p P whole_p (whole 25) (scaled_by 48 (whole 25)) 25 1 exact_25 (lit< tt) (lit≤ tt) (lit< tt)

  pub at_23_5 : lt (decimal 23_5 1) p ≡ above P 23_5 10
  unfolding decimal scaled round scaled_by
  at_23_5 = cut p P whole_p (decimal 23_5 1) (scaled_by 48 (decimal 23_5 1)) 23_5 10 exact_23_5 (lit< tt) (lit≤ tt) (lit< tt)

  pub at_23 : lt (whole 23) p ≡ above P 23 1
  unfolding whole scaled round scaled_by
  at_23 = cut p P whole_p (whole 23) (scaled_by 48 (whole 23)) 23 1 exact_23 (lit< tt) (lit≤ tt) (lit< tt)

  pub at_22_5 : lt (decimal 22_5 1) p ≡ above P 22_5 10
  unfolding decimal scaled round scaled_by
  at_22_5 = cut p P whole_p (decimal 22_5 1) (scaled_by 48 (decimal 22_5 1)) 22_5 10 exact_22_5 (lit< tt) (lit≤ tt) (lit< tt)

  pub at_20_5 : lt (decimal 20_5 1) p ≡ above P 20_5 10
  unfolding decimal scaled round scaled_by
  at_20_5 = cut p P whole_p (decimal 20_5 1) (scaled_by 48 (decimal 20_5 1)) 20_5 10 exact_20_5 (lit< tt) (lit≤ tt) (lit< tt)

  pub at_19_0088 : lt (decimal 19_00881189173929 14) p ≡ above P 19_00881189173929 (10 ^ 14)
  unfolding decimal scaled round scaled_by
  at_19_0088 =
      cut p P whole_p (decimal 19_00881189173929 14) (scaled_by 48 (decimal 19_00881189173929 14)) 19_00881189173929 (10 ^ 14) exact_19_0088 (lit< tt) (lit≤ tt)
      (lit< tt)

  pub at_22_11 : lt (decimal 22_11 2) p ≡ above P 22_11 100
  unfolding decimal scaled round scaled_by
  at_22_11 = cut p P whole_p (decimal 22_11 2) (scaled_by 48 (decimal 22_11 2)) 22_11 100 exact_22_11 (lit< tt) (lit≤ tt) (lit< tt)

  module _ (ends : Ends P) where
    pub at_22_064 : lt (decimal 22_064 3) p ≡ above P 22_064 1000
    unfolding decimal scaled round scaled_by
    at_22_064 =
        cut_up p P whole_p (decimal 22_064 3) (scaled_by 48 (decimal 22_064 3)) 22_064 1000 exact_22_064 (lit< tt) (lit≤ tt) (lit< tt) ends.not_22_064

    pub at_21_9316 : lt (decimal 21_93161551 8) p ≡ above P 21_93161551 (10 ^ 8)
    unfolding decimal scaled round scaled_by
    at_21_9316 =
        cut_up p P whole_p (decimal 21_93161551 8) (scaled_by 48 (decimal 21_93161551 8)) 21_93161551 (10 ^ 8) exact_21_9316 (lit< tt) (lit≤ tt) (lit< tt)
        ends.not_21_9316

    pub at_21_9010 : lt (decimal 21_90096265 8) p ≡ above P 21_90096265 (10 ^ 8)
    unfolding decimal scaled round scaled_by
    at_21_9010 =
        cut_up p P whole_p (decimal 21_90096265 8) (scaled_by 48 (decimal 21_90096265 8)) 21_90096265 (10 ^ 8) exact_21_9010 (lit< tt) (lit≤ tt) (lit< tt)
        ends.not_21_9010

  -- ---- the limit
  pub at_limit : (beyond : Bool) → PressureClear beyond P → lt f64_limit p ≡ beyond
  at_limit beyond s =
      let h = deep_side 80 (not beyond) s in
      let z = h.depth in
      (side_of p f64_limit P Q (limit z) 1 (10 ^ 13) 1 per_MPa (pow_pos 48) (limit_in z h.deep).positive (lit< tt) whole_p (limit_near z h.deep)
      (not beyond)
      h.there).beyond
      ∙ twice beyond
    where
      twice : (b : Bool) → not (not b) ≡ b
      twice true = refl
      twice false = refl
