-- What the definitions of specs/ mean: `nearest_root` is nearest among all f64, and the logarithm's m is from 0.75 up to 1.5.
-- Assumes nothing.
use mathlib.Core.Path.{◌≡◌, refl, sym, ap, ◌∙◌, subst}
use mathlib.Core.Logic.{⊎_elim}
use Prim.Native.Nat.{ℕ, zero, suc, ◌+◌, ◌-◌, ◌*◌, ◌/◌, ◌%◌, ◌^◌, ◌≤◌, ◌<◌}
use native.Mathlib.Nat.{le_refl, le_trans, le_of_eq, le_of_lt, lt_of_lt_of_le, lt_of_le_of_lt, lt_of_not-le, not-le_of_lt, le_of_suc-le-suc, lt_irrefl, mul-le-mul, mul-le-mul_right, mul-lt-mul_of_pos_right, lt_of_mul-lt-mul_right, mul-pos, mul_assoc, mul-one, mul-div_cancel, div-one, pow-succ', eq-or-lt_of_le, zero-mul, zero-div, add_comm, le_antisymm}
use native.Mathlib.Omega.{arith}
use mathlib.Core.Bool.{Bool, true, false, not, ◌&&◌, cond}
use native.Mathlib.Decide.{dec_le}
use lib.Dec.{T, leb, ltb, eqb, leb→le, nleb→lt, ltb→lt, nltb→le}
use lib.IntN.{ℤ, pos, negsuc}
use lib.Pow.{pow_pos, pow-add, pow_mono, pow-lt}
use lib.Ieee.{Float, nan, inf, fin, binary64, up, down, size, units, fits, to_bits, of_bits}
use lib.Ieee.Digits.{size-lt, size_reaches}
use lib.Ieee.Bits.{of_bits-to_bits}
use lib.Ieee.Fits.{and_l, and_r}
use lib.Ieee.Exact.{HasValue, units_val}
use Rattle.inverses.specs.Units.{in_units, positive}
use Rattle.inverses.specs.Root.{whole_root, nearest_root, from_zero, NearestRoot, Near}
use Rattle.inverses.specs.Log.{places}
use Rattle.rules.proofs.Fields.{bits_of}
use Rattle.inverses.proofs.Units.{PartsOf, fits_units, small, units_are, parts_0, parts_suc}
use Rattle.inverses.proofs.Whole.{IsRoot, Half, whole_root_lem, half_even, half_odd, at_half, root_digits, root_is}

-- ---- a nearest whole root exists
pub near_exists : (a : ℕ) → 0 < a → (r : ℕ) × Near a r
near_exists a z = go (whole_root (size a) a) (whole_root_lem a)
  where
    pick : (q : ℕ) → IsRoot a q → (b : Bool) → (T b → a ≤ q * q + q) → (T (not b) → q * q + q < a) → (r : ℕ) × Near a r
    pick zero h true y n = absurd (omega (arith, y tt))
    pick (suc q) h true y n = (suc q, (omega (arith, h.0), y tt))
    pick q h false y n = (q + 1, let l = n tt in omega (arith, h.1))

    go : (q : ℕ) → IsRoot a q → (r : ℕ) × Near a r
    go q h = pick q h (leb a (q * q + q)) (leb→le a (q * q + q)) (nleb→lt a (q * q + q))

-- ---- an f64 is m * 2^j units, m of 53 digits
back : (a l : ℕ) → l ≤ a → a - l + l ≡ a
back a l h = omega arith

shaped : (l m : ℕ) (e : ℤ) → down e ≤ 2 ^ l → (j : ℕ) × (m * up e * 2 ^ l / down e ≡ m * 2 ^ j)
shaped l m (pos a) h = (a + l, div-one (m * 2 ^ a * 2 ^ l) ∙ mul_assoc m (2 ^ a) (2 ^ l) ∙ ap (λ (x : ℕ). m * x) (sym (pow-add 2 a l)))
shaped l m (negsuc a) h = (
  l - suc a,
  ap (λ (x : ℕ). x * 2 ^ l / 2 ^ suc a) (mul-one m)
      ∙ ap (λ (x : ℕ). m * x / 2 ^ suc a) (ap (λ (x : ℕ). 2 ^ x) (sym (back l (suc a) (pow_le (suc a) l h))) ∙ pow-add 2 (l - suc a) (suc a))
      ∙ ap (λ (x : ℕ). x / 2 ^ suc a) (sym (mul_assoc m (2 ^ (l - suc a)) (2 ^ suc a)))
      ∙ mul-div_cancel (m * 2 ^ (l - suc a)) (pow_pos (suc a)),
)
  where
    pow_le : (a l : ℕ) → 2 ^ a ≤ 2 ^ l → a ≤ l
    pow_le a l h = le_of_suc-le-suc (lt_of_not-le (λ (g : suc l ≤ a). lt_irrefl (2 ^ l) (lt_of_lt_of_le (pow-lt g) h)))

pub shape : (y : Float) → T (fits binary64 y) → T (from_zero y) → (m : ℕ) × (j : ℕ) × (m < 2 ^ 53) × (in_units y ≡ m * 2 ^ j)
unfolding fits in_units
shape nan f t = absurd t
shape (inf s) f t = absurd t
shape (fin true m e) f t = absurd t
shape (fin false zero e) f t = (0, 0, pow_pos 53, nothing (up e) (down e))
  where
    nothing : (u d : ℕ) → 0 * u * 2 ^ 1074 / d ≡ 0 * 2 ^ 0
    nothing u d = ap (λ (y : ℕ). y * 2 ^ 1074 / d) (zero-mul u) ∙ zero-div d
shape (fin false (suc m) e) f t =
    let a = and_l (eqb (suc m % 2) 1 && ltb (suc m) (2 ^ 53) && leb (down e) (2 ^ 1074)) (ltb (suc m * up e) (2 ^ 1024 * down e)) f in
    let g : down e ≤ 2 ^ 1074 = leb→le (down e) (2 ^ 1074) (and_r (eqb (suc m % 2) 1 && ltb (suc m) (2 ^ 53)) (leb (down e) (2 ^ 1074)) a) in
    let h : suc m < 2 ^ 53 = ltb→lt (suc m) (2 ^ 53) (and_r (eqb (suc m % 2) 1) (ltb (suc m) (2 ^ 53)) (and_l (eqb (suc m % 2) 1 && ltb (suc m) (2 ^ 53)) (leb (down e) (2 ^ 1074)) a)) in
    let z = shaped 1074 (suc m) e g in
    (suc m, z.0, h, z.1)

-- from 2^52 * 2^k on, such a number is a multiple of 2^k
multiple : (m j k : ℕ) → m < 2 ^ 53 → 2 ^ 52 * 2 ^ k ≤ m * 2 ^ j → (w : ℕ) × (m * 2 ^ j ≡ w * 2 ^ k)
multiple m j k h g =
    let l : 2 ^ (52 + k) < 2 ^ (53 + j) = lt_of_le_of_lt (le_of_eq (pow-add 2 52 k)) (lt_of_le_of_lt g (lt_of_lt_of_le (mul-lt-mul_of_pos_right h (pow_pos j)) (le_of_eq (sym (pow-add 2 53 j))))) in
    let i : k ≤ j = less (52 + k) (53 + j) l in
    (m * 2 ^ (j - k), ap (λ (x : ℕ). m * x) (ap (λ (x : ℕ). 2 ^ x) (sym (back j k i)) ∙ pow-add 2 (j - k) k) ∙ sym (mul_assoc m (2 ^ (j - k)) (2 ^ k)))
  where
    down_le : (a b : ℕ) → 2 ^ a < 2 ^ b → a < b
    down_le a b h = lt_of_not-le (λ (g : b ≤ a). lt_irrefl (2 ^ a) (lt_of_lt_of_le h (pow_mono g)))

    less : (a b : ℕ) → 2 ^ (52 + k) < 2 ^ (53 + j) → k ≤ j
    less a b h = let z = down_le (52 + k) (53 + j) h in omega arith

-- ---- half way from r * p to y, above and below; n is a * p * p
square : (b p : ℕ) → b * b * (p * p) ≡ b * p * (b * p)
square b p = omega arith

squares_lt : (a b : ℕ) → a < b → a * a < b * b
squares_lt a b h = lt_of_le_of_lt (mul-le-mul (le_refl a) (le_of_lt h)) (mul-lt-mul_of_pos_right h (more a b h))
  where
    more : (a b : ℕ) → a < b → 0 < b
    more a b h = omega arith

above : (a p r y n : ℕ) → 0 < p → n ≡ a * (p * p) → Near a r → (r + 1) * p ≤ y → 4 * n < (r * p + y) * (r * p + y)
above a p r y n P N g h =
    let s : (2 * r + 1) * p ≤ r * p + y = omega arith in
    let t : 4 * a < (2 * r + 1) * (2 * r + 1) = omega (arith, g.1) in
    lt_of_le_of_lt (le_of_eq (ap (λ (x : ℕ). 4 * x) N ∙ sym (mul_assoc 4 a (p * p)))) (lt_of_lt_of_le (mul-lt-mul_of_pos_right t (mul-pos P P)) (le_trans (le_of_eq (square (2 * r + 1) p)) (mul-le-mul s s)))

below : (a p r y n : ℕ) → 0 < p → n ≡ a * (p * p) → Near a (r + 1) → y ≤ r * p → ((r + 1) * p + y) * ((r + 1) * p + y) < 4 * n
below a p r y n P N g h =
    let s : (r + 1) * p + y ≤ (2 * r + 1) * p = omega arith in
    let t : (2 * r + 1) * (2 * r + 1) < 4 * a = omega (arith, g.0) in
    lt_of_le_of_lt (le_trans (mul-le-mul s s) (le_of_eq (sym (square (2 * r + 1) p)))) (lt_of_lt_of_le (mul-lt-mul_of_pos_right t (mul-pos P P)) (le_of_eq (mul_assoc 4 a (p * p) ∙ ap (λ (x : ℕ). 4 * x) (sym N))))

-- where r is the least number of 53 digits, the numbers below it are closer together, and the root is at least r
edge : (a p r y n : ℕ) → n ≡ a * (p * p) → r * r ≤ a → y < r * p → (r * p + y) * (r * p + y) < 4 * n
edge a p r y n N g h =
    let s : r * p + y < 2 * r * p = omega arith in
    let t : 2 * r * (2 * r) ≤ 4 * a = omega arith in
    lt_of_lt_of_le (squares_lt (r * p + y) (2 * r * p) s) (le_trans (le_of_eq (sym (square (2 * r) p))) (le_trans (mul-le-mul_right (p * p) t) (le_of_eq (mul_assoc 4 a (p * p) ∙ ap (λ (x : ℕ). 4 * x) (sym N)))))

-- ---- the theorem
module _ (x a k r : ℕ) (N : x * 2 ^ 1074 ≡ a * (2 ^ k * 2 ^ k)) (g : Near a r) (lo : 2 ^ 52 ≤ r) (big : 2 ^ 52 * 2 ^ 52 ≤ a) (R : in_units (nearest_root x) ≡ r * 2 ^ k) where
  up_from : (m j : ℕ) → m < 2 ^ 53 → r * 2 ^ k < m * 2 ^ j → (r + 1) * 2 ^ k ≤ m * 2 ^ j
  up_from m j h l =
      let z = multiple m j k h (le_trans (mul-le-mul_right (2 ^ k) lo) (le_of_lt l)) in
      let i : r < z.0 = lt_of_mul-lt-mul_right (2 ^ k) (lt_of_lt_of_le l (le_of_eq z.1)) in
      le_trans (mul-le-mul_right (2 ^ k) (omega arith)) (le_of_eq (sym z.1))

  down_from : (m j s : ℕ) → m < 2 ^ 53 → r ≡ s + 1 → 2 ^ 52 ≤ s → m * 2 ^ j < r * 2 ^ k → m * 2 ^ j ≤ s * 2 ^ k
  down_from m j s h e l g' = go (dec_le (2 ^ 52 * 2 ^ k) (m * 2 ^ j))
    where
      go : Dec (2 ^ 52 * 2 ^ k ≤ m * 2 ^ j) → m * 2 ^ j ≤ s * 2 ^ k
      go (yes i) =
          let z = multiple m j k h i in
          let w : z.0 < r = lt_of_mul-lt-mul_right (2 ^ k) (lt_of_le_of_lt (le_of_eq (sym z.1)) g') in
          le_trans (le_of_eq z.1) (mul-le-mul_right (2 ^ k) (omega (arith, subst (λ (y : ℕ). z.0 < y) e w)))
      go (no i) = le_trans (le_of_lt (lt_of_not-le i)) (mul-le-mul_right (2 ^ k) l)

  lower : (m j : ℕ) → m < 2 ^ 53 → m * 2 ^ j < r * 2 ^ k → (r * 2 ^ k + m * 2 ^ j) * (r * 2 ^ k + m * 2 ^ j) < 4 * (x * 2 ^ 1074)
  lower m j h l = ⊎_elim least more (eq-or-lt_of_le lo)
    where
      least : 2 ^ 52 ≡ r → (r * 2 ^ k + m * 2 ^ j) * (r * 2 ^ k + m * 2 ^ j) < 4 * (x * 2 ^ 1074)
      least e = edge a (2 ^ k) r (m * 2 ^ j) (x * 2 ^ 1074) N (subst (λ (y : ℕ). y * y ≤ a) e big) l

      more : 2 ^ 52 < r → (r * 2 ^ k + m * 2 ^ j) * (r * 2 ^ k + m * 2 ^ j) < 4 * (x * 2 ^ 1074)
      more i =
          let s = r - 1 in
          let e : r ≡ s + 1 = omega arith in
          let d = down_from m j s h e (omega arith) l in
          subst (λ (y : ℕ). (y * 2 ^ k + m * 2 ^ j) * (y * 2 ^ k + m * 2 ^ j) < 4 * (x * 2 ^ 1074)) (sym e)
          (below a (2 ^ k) s (m * 2 ^ j) (x * 2 ^ 1074) (pow_pos k) N (subst (λ (y : ℕ). Near a y) e g) d)

  nearest_of : NearestRoot x (nearest_root x)
  nearest_of y f t =
      let z = shape y f t in
      rw (R, z.3) (
        (λ (l : r * 2 ^ k < z.0 * 2 ^ z.1). above a (2 ^ k) r (z.0 * 2 ^ z.1) (x * 2 ^ 1074) (pow_pos k) N g (up_from z.0 z.1 z.2 l)),
        (λ (l : z.0 * 2 ^ z.1 < r * 2 ^ k). lower z.0 z.1 z.2 l),
      )

pub parts_of : (x : Float) → T (fits binary64 x) → T (positive x) → (d : ℕ) × (e : ℕ) × PartsOf (in_units x) d e
parts_of x f p = go (to_bits binary64 x / 2 ^ 52) refl
  where
    go : (q : ℕ) → to_bits binary64 x / 2 ^ 52 ≡ q → (d : ℕ) × (e : ℕ) × PartsOf (in_units x) d e
    go zero z = (_, _, parts_0 x f p z)
    go (suc q) z = (_, _, parts_suc x f p (λ (y : to_bits binary64 x / 2 ^ 52 ≡ 0). absurd (omega arith)))

half_of : (d e : ℕ) → 2 ^ 52 ≤ d → d < 2 ^ 53 → (w : ℕ) × Half d e w
half_of d e l h = go (e % 2) refl
  where
    go : (q : ℕ) → e % 2 ≡ q → (w : ℕ) × Half d e w
    go zero z = (_, half_even d e l h z)
    go (suc q) z = (_, half_odd d e l h (λ (y : e % 2 ≡ 0). absurd (omega arith)))

-- the root of an f64 above 0 is r of 53 digits with k places after it
record Rooted (x : ℕ) : Type 0 where
  a : ℕ
  k : ℕ
  r : ℕ
  scaled : x * 2 ^ 1074 ≡ a * (2 ^ k * 2 ^ k)
  near : Near a r
  low : 2 ^ 52 ≤ r
  high : r < 2 ^ 53
  big : 2 ^ 52 * 2 ^ 52 ≤ a
  few : k ≤ 2045
  is : nearest_root x ≡ units binary64 false r k

rooted : (x : Float) → T (fits binary64 x) → T (positive x) → Rooted (in_units x)
rooted x f p =
    let z = parts_of x f p in
    let d = z.0 in
    let e = z.1 in
    let q = z.2 in
    let w = half_of d e q.0 q.1 in
    let h = w.1 in
    let b : 2 ^ 52 * 2 ^ 52 ≤ w.0 * 2 ^ 52 = mul-le-mul_right (2 ^ 52) h.0 in
    let n = near_exists (w.0 * 2 ^ 52) (lt_of_lt_of_le (pow_pos 104) b) in
    let g = root_digits d e w.0 n.0 h n.1 in
    record {
      a = w.0 * 2 ^ 52;
      k = (e + 970) / 2;
      r = n.0;
      scaled = at_half (in_units x) d e w.0 ((e + 970) / 2) q.3 h.2;
      near = n.1;
      low = g.0;
      high = g.1;
      big = b;
      few = less e q.2;
      is = root_is (in_units x) d e w.0 n.0 q.3 h n.1;
    }
  where
    less : (e : ℕ) → e < 2098 → (e + 970) / 2 ≤ 2045
    less e h = omega arith

rooted_value : (x : ℕ) (t : Rooted x) → HasValue (nearest_root x) false (t.r * 2 ^ t.k) (2 ^ 1074)
rooted_value x t = subst (λ (y : Float). HasValue y false (t.r * 2 ^ t.k) (2 ^ 1074)) (sym t.is) (units_val binary64 false t.r t.k (small t.r t.k t.high t.few))

-- every other f64 is farther from the exact root
pub root_nearest : (x : Float) → T (fits binary64 x) → T (positive x) → NearestRoot (in_units x) (nearest_root (in_units x))
root_nearest x f p =
    let t = rooted x f p in
    nearest_of (in_units x) t.a t.k t.r t.scaled t.near t.low t.big (units_are (nearest_root (in_units x)) false (t.r * 2 ^ t.k) (rooted_value (in_units x) t))

-- and it is an f64 that is not below 0
not_below : (y : Float) (a c : ℕ) → HasValue y false a c → T (from_zero y)
not_below nan a c v = absurd v
not_below (inf s) a c v = absurd v
not_below (fin true m e) a c v = absurd (subst T v.0 tt)
not_below (fin false m e) a c v = tt

pub root_held : (x : Float) → T (fits binary64 x) → T (positive x) → T (fits binary64 (nearest_root (in_units x))) × T (from_zero (nearest_root (in_units x)))
root_held x f p =
    let t = rooted x f p in (
      subst (λ (y : Float). T (fits binary64 y)) (sym t.is) (fits_units t.r t.k t.high (small t.r t.k t.high t.few)),
      not_below (nearest_root (in_units x)) (t.r * 2 ^ t.k) (2 ^ 1074) (rooted_value (in_units x) t),
    )

from_units : (y : Float) → T (fits binary64 y) → T (from_zero y) → y ≡ of_bits binary64 (bits_of false (in_units y))
unfolding to_bits in_units
from_units nan f t = absurd t
from_units (inf s) f t = absurd t
from_units (fin true m e) f t = absurd t
from_units (fin false m e) f t = sym (of_bits-to_bits binary64 (fin false m e) f)

-- and that says which f64 it is: two that are nearest are one
units_one : (x : ℕ) (r s : Float) → T (fits binary64 r) → T (from_zero r) → T (fits binary64 s) → T (from_zero s) → NearestRoot x r → NearestRoot x s → in_units r < in_units s → ⊥
units_one x r s f t g u p q l =
    not-le_of_lt ((p s g u).0 l) (le_of_lt (subst (λ (w : ℕ). w * w < 4 * (x * 2 ^ 1074)) (add_comm (in_units s) (in_units r)) ((q r f t).1 l)))

pub nearest_one : (x : ℕ) (r s : Float) → T (fits binary64 r) → T (from_zero r) → T (fits binary64 s) → T (from_zero s) → NearestRoot x r → NearestRoot x s → r ≡ s
nearest_one x r s f t g u p q =
    let a : in_units s ≤ in_units r = le_of_suc-le-suc (lt_of_not-le (units_one x r s f t g u p q)) in
    let b : in_units r ≤ in_units s = le_of_suc-le-suc (lt_of_not-le (units_one x s r g u f t q p)) in
    from_units r f t ∙ ap (λ (n : ℕ). of_bits binary64 (bits_of false n)) (le_antisymm b a) ∙ sym (from_units s g u)

-- so it is the f64 that is nearest, and no other is
pub root_only : (x r : Float) → T (fits binary64 x) → T (positive x) → T (fits binary64 r) → T (from_zero r) → NearestRoot (in_units x) r → r ≡ nearest_root (in_units x)
root_only x r f p g t n = let h = root_held x f p in nearest_one (in_units x) r (nearest_root (in_units x)) g t h.0 h.1 n (root_nearest x f p)

-- ---- the logarithm's m = x / 2^k is from 0.75 up to 1.5
pub m_range : (x : ℕ) → 0 < x → (3 * 2 ^ places x ≤ 4 * x) × (2 * x < 3 * 2 ^ places x)
m_range x z = go (size x) refl
  where
    pick : (s : ℕ) → 2 ^ s ≤ x → x < 2 ^ suc s → (b : Bool) → (T b → 2 * x < 3 * 2 ^ s) → (T (not b) → 3 * 2 ^ s ≤ 2 * x)
        → (3 * 2 ^ cond b s (suc s) ≤ 4 * x) × (2 * x < 3 * 2 ^ cond b s (suc s))
    pick s l h true y n = let i = y tt in (omega arith, i)
    pick s l h false y n = let i = n tt in omega (arith, pow-succ' 2 s)

    go : (w : ℕ) → size x ≡ w → (3 * 2 ^ places x ≤ 4 * x) × (2 * x < 3 * 2 ^ places x)
    go zero e = absurd (not-le_of_lt (subst (λ (y : ℕ). x < 2 ^ y) e (size-lt x)) z)
    go (suc s) e =
        let at : places x ≡ cond (ltb (2 * x) (3 * 2 ^ s)) s (suc s) = ap (λ (w : ℕ). cond (ltb (2 * x) (3 * 2 ^ (w - 1))) (w - 1) w) e ∙ ap (λ (w : ℕ). cond (ltb (2 * x) (3 * 2 ^ w)) w (suc s)) (omega arith) in
        subst (λ (k : ℕ). (3 * 2 ^ k ≤ 4 * x) × (2 * x < 3 * 2 ^ k)) (sym at)
        (pick s (size_reaches x s (subst (λ (w : ℕ). s < w) (sym e) (omega arith))) (subst (λ (w : ℕ). x < 2 ^ w) e (size-lt x)) (ltb (2 * x) (3 * 2 ^ s)) (ltb→lt (2 * x) (3 * 2 ^ s)) (nltb→le (2 * x) (3 * 2 ^ s)))
