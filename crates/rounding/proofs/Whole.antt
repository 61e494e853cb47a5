-- An f64 from 2^j up, j at most 52, is a whole number of 2^-(52 - j), and exact as such: what an expression's variable starts from.
-- Assumes nothing.
use mathlib.Core.Path.{◌≡◌, refl, sym, ap, ◌∙◌, subst}
use Prim.Native.Nat.{ℕ, zero, suc, ◌+◌, ◌-◌, ◌*◌, ◌/◌, ◌%◌, ◌^◌, ◌≤◌, ◌<◌}
use native.Mathlib.Nat.{le_trans, le_of_eq, not-le_of_lt, lt_of_not-le, mul-one, mul_assoc, mul_right_comm, mul-le-mul_right, mul-le-mul_left}
use native.Mathlib.Nat.{le_of_mul-le-mul_right, div-one, div-mul-le_self, mul-div_cancel}
use native.Mathlib.Omega.{arith}
use mathlib.Core.Bool.{Bool, true, false, ◌&&◌}
use lib.IntN.{ℤ, pos, negsuc}
use lib.Dec.{T, leb, ltb, eqb, ltb→lt, leb→le}
use lib.Pow.{pow-add, pow_pos, pow_mono}
use lib.Ieee.{Float, nan, inf, fin, Format, binary64, low, up, down, fits, le}
use lib.Ieee.Fits.{and_l, and_r}
use lib.Ieee.Exact.{HasValue}
use lib.Ieee.Positive.{num, den, den_pos, positive, le→cross, through}
use Rattle.common.specs.Outcome.{finite}
use Rattle.rounding.specs.Fraction.{ratio, scaled_by}
use Rattle.rounding.proofs.Ops.{Close}
use Rattle.rounding.proofs.Errors.{Held, over_div}
use Rattle.rounding.proofs.Ranges.{In, tighten}
use Rattle.rounding.proofs.BoundByRange.{Known, plain}

digits_of : (s : Bool) (m : ℕ) (e : ℤ) → T (fits binary64 (fin s m e)) → m < 2 ^ 53
unfolding fits
digits_of s zero e t = pow_pos 53
digits_of s (suc m) e t =
    let a = eqb (suc m % 2) 1 in
    let b = ltb (suc m) (2 ^ 53) in
    let c = leb (down e) (2 ^ 1074) in
    let d = ltb (suc m * up e) (2 ^ 1024 * down e) in
    ltb→lt (suc m) (2 ^ 53) (and_r a b (and_l (a && b) c (and_l (a && b && c) d t)))

shift : (m n d : ℕ) → d ≤ n → m * 1 * 2 ^ n ≡ m * 2 ^ (n - d) * 2 ^ d
shift m n d h = ap (λ (x : ℕ). m * 1 * 2 ^ x) (sym (back n d h)) ∙ ap (λ (x : ℕ). m * 1 * x) (pow-add 2 (n - d) d) ∙ tidy (2 ^ (n - d)) (2 ^ d)
  where
    back : (n d : ℕ) → d ≤ n → n - d + d ≡ n
    back n d h = omega arith

    tidy : (x y : ℕ) → m * 1 * (x * y) ≡ m * x * y
    tidy x y = omega arith

low_enough : (j n d m : ℕ) → j + n ≡ 52 → 2 ^ j * 2 ^ d ≤ m → m < 2 ^ 53 → d ≤ n
low_enough j n d m e l h = go (lt_of_not-le (λ (g : 53 ≤ j + d). not-le_of_lt h (le_trans (pow_mono g) (le_trans (le_of_eq (pow-add 2 j d)) l))))
  where
    go : j + d < 53 → d ≤ n
    go g = omega arith

is_whole : (j n : ℕ) → j + n ≡ 52 → (x : Float) → T (positive x) → T (fits binary64 x) → 2 ^ j * den x ≤ num x → HasValue x false (scaled_by n x) (2 ^ n)
unfolding scaled_by
is_whole j n e nan p t l = absurd p
is_whole j n e (inf s) p t l = absurd p
is_whole j n e (fin true m k) p t l = absurd p
is_whole j n e (fin false m (pos k)) p t l = (refl, sym (mul-one (m * 2 ^ k * 2 ^ n / 1) ∙ div-one (m * 2 ^ k * 2 ^ n)))
is_whole j n e (fin false m (negsuc k)) p t l =
    let D = 2 ^ suc k in
    let w = shift m n (suc k) (low_enough j n (suc k) m e (le_trans l (le_of_eq (mul-one m))) (digits_of false m (negsuc k) t)) in
    (refl, w ∙ sym (ap (λ (z : ℕ). z / D * D) w ∙ ap (λ (z : ℕ). z * D) (mul-div_cancel (m * 2 ^ (n - suc k)) (pow_pos (suc k)))))

-- for an x from lo on, where lo is 2^j at least
pub whole_from : (j n : ℕ) → j + n ≡ 52 → (lo x : Float) → T (positive lo) → T (positive x) → T (fits binary64 x) → T (leb (2 ^ j * den lo) (num lo * 1))
    → T (le lo x) → HasValue x false (scaled_by n x) (2 ^ n)
whole_from j n e lo x a b t g h =
    is_whole j n e x b t (le_trans (through (2 ^ j) (num lo) (num x) 1 (den lo) (den x) (den_pos lo) (leb→le (2 ^ j * den lo) (num lo * 1) g)
    (le→cross lo x a b h)) (le_of_eq (mul-one (num x))))

pub value_scale : (k : ℕ) (x : Float) (s : Bool) (a c : ℕ) → HasValue x s a c → HasValue x s (a * k) (c * k)
value_scale k nan s a c h = h
value_scale k (inf t) s a c h = h
value_scale k (fin t m e) s a c h = (h.0, sym (mul_assoc (m * up e) c k) ∙ ap (λ (z : ℕ). z * k) h.1 ∙ mul_right_comm a (down e) k)

-- a float that is P / Q, at most N: the variable of an expression
pub held_value : (f : Format) (x : Float) (P Q k N : ℕ) → Q * k ≡ 2 ^ low f → P ≤ N * Q → HasValue x false P Q → Held f x (ratio P Q) (N * 2 ^ low f) 0
held_value f x P Q k N e l h = record {
  sign = false;
  size = P * k;
  value = subst (λ (z : ℕ). HasValue x false (P * k) z) e (value_scale k x false P Q h);
  small = subst (λ (z : ℕ). P * k ≤ N * z) e (fits_in (mul-le-mul_right k l));
  near = subst (λ (z : ℕ). Close (P * k * Q) (0 * Q) (P * z) (0 * z) (0 * Q)) e equal;
}
  where
    fits_in : P * k ≤ N * Q * k → P * k ≤ N * (Q * k)
    fits_in g = omega arith

    equal : Close (P * k * Q) (0 * Q) (P * (Q * k)) (0 * (Q * k)) (0 * Q)
    equal = (omega arith, omega arith)

-- the same with a range: from a / d to b / d, and exact
pub known_between : (x : Float) (P Q k a b d : ℕ) → Q * k ≡ 2 ^ 1074 → 0 < Q → 0 < d → T (fits binary64 x) → HasValue x false P Q
    → a * Q ≤ P * d → P * d ≤ b * Q → Known x (ratio P Q) (plain (a * 2 ^ 1074 / d) (b * 2 ^ 1074 / d + 1) 0)
known_between x P Q k a b d e O D f h l m =
    let i : In false (ratio P Q) (2 ^ 1074) (a * 2 ^ 1074 / d)
    (b * 2 ^ 1074 / d + 1) = record { positive = O; least = least (2 ^ 1074); most = most (2 ^ 1074) } in
    record { held = tighten (held_value binary64 x P Q k P e (more O) h) i; inside = i; fitted = f }
  where
    more : 0 < Q → P ≤ P * Q
    more q = le_trans (le_of_eq (sym (mul-one P))) (mul-le-mul_left P q)

    least : (U : ℕ) → a * U / d * Q + 0 * U ≤ P * U
    least U = le_of_mul-le-mul_right (go (a * U / d) (mul-le-mul_right Q (div-mul-le_self (a * U) d)) (mul-le-mul_right U l)) D
      where
        go : (c : ℕ) → c * d * Q ≤ a * U * Q → a * Q * U ≤ P * d * U → (c * Q + 0 * U) * d ≤ P * U * d
        go c y z = omega arith

    most : (U : ℕ) → P * U ≤ (b * U / d + 1) * Q + 0 * U
    most U = le_of_mul-le-mul_right (go (b * U / d) (mul-le-mul_right Q (over_div (b * U) d D)) (mul-le-mul_right U m)) D
      where
        go : (c : ℕ) → b * U * Q ≤ (c + 1) * d * Q → P * d * U ≤ b * Q * U → P * U * d ≤ ((c + 1) * Q + 0 * U) * d
        go c y z = omega arith

pub finite_value : (x : Float) (a c : ℕ) → HasValue x false a c → finite x ≡ true
finite_value nan a c h = absurd h
finite_value (inf s) a c h = absurd h
finite_value (fin s m e) a c h = refl
