-- The root of an f64 q above 0, told from a square that was worked in f64: where d*d, rounded, is below q, the root is at least d; where it is above q, at
-- most d. Rounding keeps the order, so no error is reckoned with. Assumes nothing.
use mathlib.Core.Path.{◌≡◌, refl, sym, ap, ◌∙◌, subst}
use Prim.Native.Nat.{ℕ, zero, suc, ◌+◌, ◌-◌, ◌*◌, ◌/◌, ◌%◌, ◌^◌, ◌≤◌, ◌<◌}
use native.Mathlib.Nat.{le_trans, le_of_eq, le_of_lt, lt_of_lt_of_le, lt_of_not-le, le_of_suc-le-suc, lt_irrefl, mul-one, mul_assoc, mul-pos, mul-le-mul, mul-le-mul_right, mul_right_comm, mul-lt-mul_of_pos_right, div-one, div-lt_iff_lt-mul, zero-div, zero-mul, mul-div_cancel}
use native.Mathlib.Omega.{arith}
use mathlib.Core.Bool.{true, false, ◌&&◌}
use lib.IntN.{ℤ, pos, negsuc}
use lib.Dec.{T, ltb, leb, eqb, ltb→lt, leb→le}
use lib.Pow.{pow-add, pow_pos, pow-lt}
use lib.Ieee.{Float, nan, inf, fin, binary64, up, down, round, mul, fits, le}
use lib.Ieee.Fits.{and_l, and_r, round-fits, down_pos}
use lib.Ieee.Exact.{HasValue, round_exact}
use lib.Ieee.Order.{round_mono, le_of_values}
use lib.Ieee.Positive.{positive, mul_at}
use Rattle.inverses.specs.Units as units
use Rattle.inverses.specs.Units.{in_units}
use Rattle.inverses.specs.Root.{nearest_root, from_zero}
use Rattle.rules.proofs.Fields as fields
use Rattle.inverses.proofs.Meaning.{shape, root_nearest, root_held}
use Rattle.border.proofs.Order.{Above, above0, seen}

-- ---- an f64 that is not below 0 is `in_units` of it over 2^1074

shift : (m n d : ℕ) → d ≤ n → m * 1 * 2 ^ n ≡ m * 2 ^ (n - d) * 2 ^ d
shift m n d h = ap (λ (x : ℕ). m * 1 * 2 ^ x) (sym (omega arith)) ∙ ap (λ (x : ℕ). m * 1 * x) (pow-add 2 (n - d) d) ∙ tidy (2 ^ (n - d)) (2 ^ d)
  where
    tidy : (x y : ℕ) → m * 1 * (x * y) ≡ m * x * y
    tidy x y = omega arith

pow_le : (a l : ℕ) → 2 ^ a ≤ 2 ^ l → a ≤ l
pow_le a l h = le_of_suc-le-suc (lt_of_not-le (λ (g : suc l ≤ a). lt_irrefl (2 ^ l) (lt_of_lt_of_le (pow-lt g) h)))

parted : (l m : ℕ) (e : ℤ) → down e ≤ 2 ^ l → m * up e * 2 ^ l ≡ m * up e * 2 ^ l / down e * down e
parted l m (pos k) h = sym (mul-one (m * 2 ^ k * 2 ^ l / 1) ∙ div-one (m * 2 ^ k * 2 ^ l))
parted l m (negsuc k) h =
    let D = 2 ^ suc k in
    let w = shift m l (suc k) (pow_le (suc k) l h) in
    w ∙ sym (ap (λ (z : ℕ). z / D * D) w ∙ ap (λ (z : ℕ). z * D) (mul-div_cancel (m * 2 ^ (l - suc k)) (pow_pos (suc k))))

nothing : (u l d : ℕ) → 0 * u * l ≡ 0 * u * l / d * d
nothing u l d =
    let z : 0 * u * l ≡ 0 = ap (λ (x : ℕ). x * l) (zero-mul u) ∙ zero-mul l in
    z ∙ sym (ap (λ (x : ℕ). x / d * d) z ∙ ap (λ (x : ℕ). x * d) (zero-div d) ∙ zero-mul d)

in_units_lem : (x : Float) → T (fits binary64 x) → T (from_zero x) → HasValue x false (in_units x) (2 ^ 1074)
unfolding fits in_units
in_units_lem nan f t = absurd t
in_units_lem (inf s) f t = absurd t
in_units_lem (fin true m e) f t = absurd t
in_units_lem (fin false zero e) f t = (refl, nothing (up e) (2 ^ 1074) (down e))
in_units_lem (fin false (suc m) e) f t =
    let a = eqb (suc m % 2) 1 && ltb (suc m) (2 ^ 53) in
    let b = leb (down e) (2 ^ 1074) in
    (refl, parted 1074 (suc m) e (leb→le (down e) (2 ^ 1074) (and_r a b (and_l (a && b) (ltb (suc m * up e) (2 ^ 1024 * down e)) f))))

from_zero_lem : {x : Float} → Above x → T (from_zero x)
from_zero_lem (above0 m e p) = tt

above_zero : {x : Float} → Above x → T (units.positive x)
above_zero (above0 m e p) = tt

-- below 2^1024, so that rounding it does not overflow
carried : (a h d l : ℕ) → 0 < l → a < h * d → a * l < h * l * d
carried a h d l p g = lt_of_lt_of_le (mul-lt-mul_of_pos_right g p) (le_of_eq (mul_right_comm h d l))

small : {x : Float} → Above x → T (fits binary64 x) → in_units x < 2 ^ 2098
unfolding fits in_units
small (above0 m e p) f =
    let a = eqb (suc m % 2) 1 && ltb (suc m) (2 ^ 53) && leb (down e) (2 ^ 1074) in
    let g : suc m * up e < 2 ^ 1024 * down e = ltb→lt (suc m * up e) (2 ^ 1024 * down e) (and_r a (ltb (suc m * up e) (2 ^ 1024 * down e)) f) in
    (div-lt_iff_lt-mul (down_pos e)).1 (carried (suc m * up e) (2 ^ 1024) (down e) (2 ^ 1074) (pow_pos 1074) g)

-- rounded, it is itself
again : (x : Float) → T (fits binary64 x) → T (positive x) → round binary64 false (in_units x) (2 ^ 1074) ≡ x
again x f p =
    let z = shape x f (from_zero_lem (seen x p)) in
    let v = in_units_lem x f (from_zero_lem (seen x p)) in
    fields.same (round binary64 false (in_units x) (2 ^ 1074)) x false (in_units x) (round-fits binary64 false (in_units x) (2 ^ 1074)) f
    (round_exact binary64 false (in_units x) (2 ^ 1074) z.0 z.1 (pow_pos 1074) z.2 (subst (λ (n : ℕ). n < 2 ^ 2098) z.3 (small (seen x p) f)) (ap (λ (n : ℕ). n * 2 ^ 1074) z.3))
    v

-- ---- squares of whole numbers

below_square : (w s u : ℕ) → s < u → 4 * w < (s + u) * (s + u) → w < u * u
below_square w s u h k =
    let a : s + u ≤ u + u = omega arith in
    let b : (s + u) * (s + u) ≤ (u + u) * (u + u) = mul-le-mul a a in
    let c : (u + u) * (u + u) ≡ 4 * (u * u) = omega arith in
    omega arith

above_square : (w s u : ℕ) → u < s → (s + u) * (s + u) < 4 * w → u * u < w
above_square w s u h k =
    let a : u + u ≤ s + u = omega arith in
    let b : (u + u) * (u + u) ≤ (s + u) * (s + u) = mul-le-mul a a in
    let c : (u + u) * (u + u) ≡ 4 * (u * u) = omega arith in
    omega arith

over : (w l n : ℕ) → w * l < n → w * (l * l) ≤ n * l
over w l n h = le_trans (le_of_eq (sym (mul_assoc w l l))) (mul-le-mul_right l (le_of_lt h))

under : (w l n : ℕ) → n < w * l → n * l ≤ w * (l * l)
under w l n h = le_trans (mul-le-mul_right l (le_of_lt h)) (le_of_eq (mul_assoc w l l))

-- ---- the root beside d

module _ (q d : Float) (fq : T (fits binary64 q)) (pq : T (positive q)) (fd : T (fits binary64 d)) (pd : T (positive d)) where
  abbrev r : Float
  r = nearest_root (in_units q)

  root_units : HasValue r false (in_units r) (2 ^ 1074)
  root_units = let h = root_held q fq (above_zero (seen q pq)) in in_units_lem r h.0 h.1

  d_units : HasValue d false (in_units d) (2 ^ 1074)
  d_units = in_units_lem d fd (from_zero_lem (seen d pd))

  squared : mul binary64 d d ≡ round binary64 false (in_units d * in_units d) (2 ^ 1074 * 2 ^ 1074)
  squared = mul_at binary64 d d (in_units d) (2 ^ 1074) (in_units d) (2 ^ 1074) pd pd (pow_pos 1074) (pow_pos 1074) d_units d_units

  pub root_from : (T (le q (mul binary64 d d)) → ⊥) → T (le d r)
  root_from off =
      le_of_values d r (in_units d) (2 ^ 1074) (in_units r) (2 ^ 1074) (pow_pos 1074) (pow_pos 1074) d_units root_units
      (mul-le-mul_right (2 ^ 1074) (le_of_suc-le-suc (lt_of_not-le (λ (g : in_units r < in_units d). off (beside g)))))
    where
      beside : in_units r < in_units d → T (le q (mul binary64 d d))
      beside g =
          let n = (root_nearest q fq (above_zero (seen q pq)) d fd (from_zero_lem (seen d pd))).0 g in
          let h = below_square (in_units q * 2 ^ 1074) (in_units r) (in_units d) g n in
          subst (λ (z : Float). T (le z (mul binary64 d d))) (again q fq pq)
          (subst (λ (z : Float). T (le (round binary64 false (in_units q) (2 ^ 1074)) z)) (sym squared)
          (round_mono binary64 (in_units q) (2 ^ 1074) (in_units d * in_units d) (2 ^ 1074 * 2 ^ 1074) (pow_pos 1074) (mul-pos (pow_pos 1074) (pow_pos 1074)) (over (in_units q) (2 ^ 1074) (in_units d * in_units d) h)))

  pub root_upto : (T (le (mul binary64 d d) q) → ⊥) → T (le r d)
  root_upto off =
      le_of_values r d (in_units r) (2 ^ 1074) (in_units d) (2 ^ 1074) (pow_pos 1074) (pow_pos 1074) root_units d_units
      (mul-le-mul_right (2 ^ 1074) (le_of_suc-le-suc (lt_of_not-le (λ (g : in_units d < in_units r). off (beside g)))))
    where
      beside : in_units d < in_units r → T (le (mul binary64 d d) q)
      beside g =
          let n = (root_nearest q fq (above_zero (seen q pq)) d fd (from_zero_lem (seen d pd))).1 g in
          let h = above_square (in_units q * 2 ^ 1074) (in_units r) (in_units d) g n in
          subst (λ (z : Float). T (le (mul binary64 d d) z)) (again q fq pq)
          (subst (λ (z : Float). T (le z (round binary64 false (in_units q) (2 ^ 1074)))) (sym squared)
          (round_mono binary64 (in_units d * in_units d) (2 ^ 1074 * 2 ^ 1074) (in_units q) (2 ^ 1074) (mul-pos (pow_pos 1074) (pow_pos 1074)) (pow_pos 1074) (under (in_units q) (2 ^ 1074) (in_units d * in_units d) h)))
