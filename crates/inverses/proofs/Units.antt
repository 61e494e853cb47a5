-- A float above 0 taken apart: how many units of 2^-1074 it is, by its bits, and its 53 leading digits. Assumes nothing.
use mathlib.Core.Path.{◌≡◌, sym, ap, ◌∙◌, subst}
use Prim.Native.Nat.{ℕ, zero, suc, ◌+◌, ◌-◌, ◌*◌, ◌/◌, ◌%◌, ◌^◌, ◌≤◌, ◌<◌}
use native.Mathlib.Nat.{le_trans, le_of_eq, lt_of_lt_of_le, lt_of_not-le, not-le_of_lt, zero-lt-suc, mul-pos, one-mul, mul_comm, mul_assoc, mul-le-mul_right, mul-lt-mul_of_pos_right, mul-div_cancel, le-div_iff_mul-le}
use native.Mathlib.Omega.{arith}
use mathlib.Core.Bool.{Bool, true, false, not, ◌&&◌}
use lib.Dec.{T, leb, ltb, eqb, leb→le}
use lib.Count.{count_leading_zeros, leading_top}
use lib.Pow.{pow_pos, pow_mono, pow-add}
use lib.Ieee.{Float, nan, inf, fin, binary64, up, down, odd, units, fits, is_nan, of_bits, to_bits}
use lib.Ieee.Fits.{and_l, and_r, up_pos, down_pos, odd-fits, cond-fits, inf-fits}
use lib.Ieee.Exact.{HasValue, units_val}
use lib.Ieee.Bits.{of_bits-to_bits, of_bits-fits}
use Rattle.inverses.specs.Units.{in_units, positive}
use Rattle.rules.proofs.Fields as fields
use Rattle.rules.proofs.Fields.{same, read_0, read_suc, shape}

-- ---- in units

pub units_are : (x : Float) (s : Bool) (a : ℕ) → HasValue x s a (2 ^ 1074) → in_units x ≡ a
unfolding in_units
units_are nan s a v = absurd v
units_are (inf t) s a v = absurd v
units_are (fin t m e) s a v = ap (λ (y : ℕ). y / down e) v.1 ∙ mul-div_cancel a (down_pos e)

-- its bits are below the infinity's
pub bits_lt : (x : Float) → T (fits binary64 x) → T (positive x) → to_bits binary64 x < 0x7ff0_0000_0000_0000
bits_lt nan f p = absurd p
bits_lt (inf s) f p = absurd p
bits_lt (fin true zero e) f p = absurd p
bits_lt (fin true (suc m) e) f p = absurd p
bits_lt (fin false zero e) f p = absurd p
bits_lt (fin false (suc m) e) f p = fields.bits_lt (suc m) e f

-- it is one unit at least
pub units_pos : (x : Float) → T (fits binary64 x) → T (positive x) → 0 < in_units x
unfolding fits in_units
units_pos nan f p = absurd p
units_pos (inf s) f p = absurd p
units_pos (fin true zero e) f p = absurd p
units_pos (fin true (suc m) e) f p = absurd p
units_pos (fin false zero e) f p = absurd p
units_pos (fin false (suc m) e) f p =
    let g : down e ≤ 2 ^ 1074 = leb→le (down e) (2 ^ 1074) (and_r (eqb (suc m % 2) 1 && ltb (suc m) (2 ^ 53)) (leb (down e) (2 ^ 1074)) (and_l (eqb (suc m % 2) 1 && ltb (suc m) (2 ^ 53) && leb (down e) (2 ^ 1074)) (ltb (suc m * up e) (2 ^ 1024 * down e)) f)) in
    (le-div_iff_mul-le (down_pos e)).1
    (le_trans (le_of_eq (one-mul (down e))) (le_trans g (le_trans (le_of_eq (sym (one-mul (2 ^ 1074)))) (mul-le-mul_right (2 ^ 1074) (mul-pos (zero-lt-suc m) (up_pos e))))))

pub not_nan : (x : Float) → T (positive x) → T (not (is_nan x))
unfolding is_nan
not_nan nan p = absurd p
not_nan (inf s) p = absurd p
not_nan (fin s m e) p = tt

-- ---- 53 digits r with k places after them are a number of the format
pub fits_units : (r k : ℕ) → r < 2 ^ 53 → r * 2 ^ k < 2 ^ 2098 → T (fits binary64 (units binary64 false r k))
unfolding units
fits_units r k h g = cond-fits binary64 (ltb (r * 2 ^ k) (2 ^ 2098)) (odd 54 false r k 1074) (inf false) (odd-fits binary64 54 false r k (omega arith) (omega arith) g) (inf-fits binary64 false)

pub small : (r k : ℕ) → r < 2 ^ 53 → k ≤ 2045 → r * 2 ^ k < 2 ^ 2098
small r k h g = lt_of_lt_of_le (mul-lt-mul_of_pos_right h (pow_pos k)) (le_trans (le_of_eq (sym (pow-add 2 53 k))) (pow_mono {i = 53 + k} {j = 2098} (omega arith)))

pub packed : (k r : ℕ) → k < 2046 → 2 ^ 52 ≤ r → r < 2 ^ 53 → of_bits binary64 (k * 2 ^ 52 + r) ≡ units binary64 false r k
packed k r h lo hi =
    let g = small r k hi (omega arith) in
    same (of_bits binary64 (k * 2 ^ 52 + r)) (units binary64 false r k) false (r * 2 ^ k) (of_bits-fits binary64 (k * 2 ^ 52 + r)) (fits_units r k hi g) (read_suc k r h lo hi) (units_val binary64 false r k g)

-- ---- the 53 leading digits
abbrev pub PartsOf : ℕ → ℕ → ℕ → Type 0
PartsOf n d e = (2 ^ 52 ≤ d) × (d < 2 ^ 53) × (e < 2098) × (d * 2 ^ e ≡ n * 2 ^ 52)

-- a subnormal number: its leading digit goes to the place 52
leading : (b : ℕ) → 0 < b → b < 2 ^ 52 → (j : ℕ) × (count_leading_zeros 64 b + suc j ≡ 64) × (2 ^ j ≤ b) × (b < 2 ^ suc j) × (j < 52)
leading b z h =
    let t = leading_top 64 b z (omega arith) in
    (t.0, t.1, t.2, t.3, lt_of_not-le (λ (g : 52 ≤ t.0). not-le_of_lt h (le_trans (pow_mono g) t.2)))

pub zeros : (b : ℕ) → 0 < b → b < 2 ^ 52 → (12 ≤ count_leading_zeros 64 b) × (count_leading_zeros 64 b ≤ 63)
zeros b z h = let t = leading b z h in omega (arith, t.1, t.4)

pub shifted : (b : ℕ) → 0 < b → b < 2 ^ 52 → PartsOf b (b * 2 ^ (count_leading_zeros 64 b - 11)) (52 - (count_leading_zeros 64 b - 11))
shifted b z h =
    let t = leading b z h in
    let j = t.0 in
    let i = count_leading_zeros 64 b - 11 in
    let l : j + i ≡ 52 = omega (arith, t.1, t.4) in
    let k : suc j + i ≡ 53 = omega (arith, t.1, t.4) in
    let e : 52 - i ≡ j = omega (arith, t.1, t.4) in (
      le_trans (le_of_eq (ap (λ (y : ℕ). 2 ^ y) (sym l) ∙ pow-add 2 j i)) (mul-le-mul_right (2 ^ i) t.2),
      lt_of_lt_of_le (mul-lt-mul_of_pos_right t.3 (pow_pos i)) (le_of_eq (sym (pow-add 2 (suc j) i) ∙ ap (λ (y : ℕ). 2 ^ y) k)),
      omega (arith, t.4),
      mul_assoc b (2 ^ i) (2 ^ (52 - i)) ∙ ap (λ (y : ℕ). b * y) (ap (λ (y : ℕ). 2 ^ i * 2 ^ y) e ∙ mul_comm (2 ^ i) (2 ^ j) ∙ sym (pow-add 2 j i) ∙ ap (λ (y : ℕ). 2 ^ y) l),
    )

pub low_bits : (x : Float) → T (fits binary64 x) → T (positive x) → to_bits binary64 x / 2 ^ 52 ≡ 0 → (0 < to_bits binary64 x) × (to_bits binary64 x < 2 ^ 52) × (in_units x ≡ to_bits binary64 x)
low_bits x f p z =
    let b = to_bits binary64 x in
    let h : b < 2 ^ 52 = omega arith in
    let e : in_units x ≡ b = ap in_units (sym (of_bits-to_bits binary64 x f)) ∙ units_are (of_bits binary64 b) false b (read_0 b h) in
    (subst (λ (n : ℕ). 0 < n) e (units_pos x f p), h, e)

pub parts_0 : (x : Float) → T (fits binary64 x) → T (positive x) → to_bits binary64 x / 2 ^ 52 ≡ 0
    → PartsOf (in_units x) (to_bits binary64 x * 2 ^ (count_leading_zeros 64 (to_bits binary64 x) - 11)) (52 - (count_leading_zeros 64 (to_bits binary64 x) - 11))
parts_0 x f p z =
    let b = to_bits binary64 x in
    let l = low_bits x f p z in
    subst (λ (n : ℕ). PartsOf n (b * 2 ^ (count_leading_zeros 64 b - 11)) (52 - (count_leading_zeros 64 b - 11))) (sym l.2) (shifted b l.0 l.1)

pub parts_suc : (x : Float) → T (fits binary64 x) → T (positive x) → (to_bits binary64 x / 2 ^ 52 ≡ 0 → ⊥)
    → PartsOf (in_units x) (to_bits binary64 x % 2 ^ 52 + 2 ^ 52) (to_bits binary64 x / 2 ^ 52 + 51)
parts_suc x f p z =
    let b = to_bits binary64 x in
    let s = shape b (bits_lt x f p) z in
    let k = s.0 in
    let r = b % 2 ^ 52 + 2 ^ 52 in
    let v : HasValue (of_bits binary64 (k * 2 ^ 52 + r)) false (r * 2 ^ k) (2 ^ 1074) = read_suc k r s.2 (omega arith) (omega arith) in
    let e : in_units x ≡ r * 2 ^ k = ap in_units (sym (of_bits-to_bits binary64 x f) ∙ ap (of_bits binary64) s.3) ∙ units_are (of_bits binary64 (k * 2 ^ 52 + r)) false (r * 2 ^ k) v in
    let i : b / 2 ^ 52 + 51 ≡ k + 52 = omega (arith, s.1) in (
      omega arith,
      omega arith,
      omega (arith, s.1, s.2),
      ap (λ (y : ℕ). r * 2 ^ y) i ∙ ap (λ (y : ℕ). r * y) (pow-add 2 k 52) ∙ sym (mul_assoc r (2 ^ k) (2 ^ 52)) ∙ ap (λ (y : ℕ). y * 2 ^ 52) (sym e),
    )
