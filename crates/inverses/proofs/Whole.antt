-- `whole_root` is the whole part of the root, and `nearest_root` is settled by two comparisons at 53 digits. Assumes nothing.
use mathlib.Core.Path.{◌≡◌, sym, ap, ◌∙◌, subst}
use Prim.Native.Nat.{ℕ, zero, suc, ◌+◌, ◌-◌, ◌*◌, ◌/◌, ◌%◌, ◌^◌, ◌≤◌, ◌<◌, compare, Ordering}
use native.Mathlib.Nat.{le_refl, le_trans, le_of_eq, lt_of_lt_of_le, lt_of_le_of_lt, lt_of_not-le, not-le_of_lt, le_of_suc-le-suc, mul-le-mul, mul-le-mul_right, le_of_mul-le-mul_right, lt_of_mul-lt-mul_right, mul-pos, pow-succ', div-mul-le_self, div-lt_iff_lt-mul, lt-suc_self, eq_of_mul-eq-mul_right, mul_assoc, mul_right_comm}
use native.Mathlib.Omega.{arith}
use mathlib.Core.Bool.{Bool, true, false, not, cond}
use lib.Dec.{T, leb, leb→le, nleb→lt}
use lib.Pow.{pow_pos, pow_mono, pow-add}
use lib.Ieee.{Float, binary64, size, nearest, units}
use lib.Ieee.Digits.{size-lt, size-le}
use Rattle.rules.proofs.Rounds.{Cmp, cmp}
use Rattle.inverses.specs.Root.{longer, whole_root, nearest_root, Near}

-- ---- the whole part of a root

abbrev pub IsRoot : ℕ → ℕ → Type 0
IsRoot n r = (r * r ≤ n) × (n < (r + 1) * (r + 1))

longer_root : (n a : ℕ) → IsRoot (n / 4) a → IsRoot n (longer n a)
longer_root n a h = go (leb ((2 * a + 1) * (2 * a + 1)) n) (leb→le ((2 * a + 1) * (2 * a + 1)) n) (nleb→lt ((2 * a + 1) * (2 * a + 1)) n)
  where
    go : (b : Bool) → (T b → (2 * a + 1) * (2 * a + 1) ≤ n) → (T (not b) → n < (2 * a + 1) * (2 * a + 1)) → IsRoot n (cond b (2 * a + 1) (2 * a))
    go true y n = let l = y tt in omega arith
    go false y n = let l = n tt in omega arith

pub root_of_lem : (k n : ℕ) → n < 4 ^ k → IsRoot n (whole_root k n)
unfolding whole_root
root_of_lem zero n h = omega arith
root_of_lem (suc k) n h = longer_root n (whole_root k (n / 4)) (root_of_lem k (n / 4) (omega (arith, subst (λ (x : ℕ). n < x) (pow-succ' 4 k) h)))

two_le_four : (z : ℕ) → 2 ^ z ≤ 4 ^ z
two_le_four zero = le_refl 1
two_le_four (suc z) = let h = two_le_four z in omega (arith, pow-succ' 2 z, pow-succ' 4 z)

pub whole_root_lem : (n : ℕ) → IsRoot n (whole_root (size n) n)
whole_root_lem n = root_of_lem (size n) n (lt_of_lt_of_le (size-lt n) (two_le_four (size n)))

-- ---- a number's digits
pub size_is : (r j : ℕ) → 2 ^ j ≤ r → r < 2 ^ suc j → size r ≡ suc j
size_is r j l h =
    let a = size-le r (suc j) h in
    let b : j < size r = lt_of_not-le (λ (g : size r ≤ j). not-le_of_lt (lt_of_lt_of_le (size-lt r) (pow_mono g)) l) in
    omega arith

-- ---- the nearest whole number to the root of a

apart : (a r s : ℕ) → Near a r → Near a s → suc r ≤ s → ⊥
apart a r s g h l =
    let m : (r + 1) * s ≤ s * s = mul-le-mul_right s (omega arith) in
    let n : (r + 1) * (r + 1) ≤ (r + 1) * s = mul-le-mul (le_refl (r + 1)) (omega arith) in
    let p : r * s + s ≤ s * s = omega arith in
    let q : r * (r + 1) ≤ r * s = mul-le-mul (le_refl r) (omega arith) in
    omega (arith, g.0, g.1, h.0, h.1, p, q)

pub near_one : (a r s : ℕ) → Near a r → Near a s → r ≡ s
near_one a r s g h =
    let l : r ≤ s = le_of_suc-le-suc (lt_of_not-le (λ (x : suc s ≤ r). apart a s r h g x)) in
    let m : s ≤ r = le_of_suc-le-suc (lt_of_not-le (λ (x : suc r ≤ s). apart a r s g h x)) in
    omega arith

-- ---- `nearest_root`

-- the step from q, what 53 digits keep of the root of a, to the nearest: by how 4 * a compares with the square of 2 * q + 1
stepped : (a q r : ℕ) (o : Ordering) → IsRoot a q → Near a r → Cmp o (4 * a) ((2 * q + 1) * (2 * q + 1)) → 0 < q → nearest q o ≡ r
stepped a q r Ordering.lt h g c z = near_one a q r (omega (arith, h.0, h.1, z), omega (arith, h.0, h.1)) g
stepped a q r Ordering.eq h g c z = absurd (omega arith)
stepped a q r Ordering.gt h g c z = near_one a (suc q) r (omega (arith, h.0, h.1), omega (arith, h.0, h.1)) g

scaled_cmp : (o : Ordering) (a b p : ℕ) → 0 < p → Cmp o (a * p) (b * p) → Cmp o a b
scaled_cmp Ordering.lt a b p h c = lt_of_mul-lt-mul_right p c
scaled_cmp Ordering.eq a b p h c = eq_of_mul-eq-mul_right p h a b c
scaled_cmp Ordering.gt a b p h c = lt_of_mul-lt-mul_right p c

square : (b p : ℕ) → b * b * (p * p) ≡ b * p * (b * p)
square b p = omega arith

-- n is a * 4^k, p being 2^k: its whole root r has 53 + k digits, and r / 2^k is the whole root of a
module _ (a p n r : ℕ) (P : 0 < p) (N : n ≡ a * (p * p)) (root : IsRoot n r) where
  root_low : (b : ℕ) → b * b ≤ a → b * p ≤ r
  root_low b l = le_of_suc-le-suc (lt_of_not-le (λ (x : suc r ≤ b * p).
      not-le_of_lt root.1
      (le_trans (mul-le-mul (le_trans (le_of_eq (omega arith)) x) (le_trans (le_of_eq (omega arith)) x))
      (le_trans (le_of_eq (sym (square b p))) (le_trans (mul-le-mul_right (p * p) l) (le_of_eq (sym N)))))))

  root_high : (b : ℕ) → a < b * b → r < b * p
  root_high b l = lt_of_not-le (λ (x : b * p ≤ r).
      not-le_of_lt l (le_of_mul-le-mul_right (le_trans (le_of_eq (square b p)) (le_trans (mul-le-mul x x) (le_trans root.0 (le_of_eq N)))) (mul-pos P P)))

  part : IsRoot a (r / p)
  part = (
    le_of_mul-le-mul_right (le_trans (le_of_eq (square (r / p) p)) (le_trans (mul-le-mul (div-mul-le_self r p) (div-mul-le_self r p)) (le_trans root.0 (le_of_eq N)))) (mul-pos P P),
    lt_of_mul-lt-mul_right (p * p) (lt_of_le_of_lt (le_of_eq (sym N)) (lt_of_lt_of_le root.1 (le_trans (mul-le-mul above above) (le_of_eq (omega arith))))),
  )
    where
      more : (r x q : ℕ) → q ≡ x + 1 → r < q * p → r + 1 ≤ (x + 1) * p
      more r x q e h = subst (λ (y : ℕ). r + 1 ≤ y * p) e (omega arith)

      above : r + 1 ≤ (r / p + 1) * p
      above = more r (r / p) (suc (r / p)) (omega arith) ((div-lt_iff_lt-mul P).0 (lt-suc_self (r / p)))

-- `nearest_root` from its n, r and k on
abbrev at : ℕ → ℕ → ℕ → Float
at n r k = units binary64 false (nearest (r / 2 ^ k) (compare (4 * n) ((2 * (r / 2 ^ k) + 1) * 2 ^ k * ((2 * (r / 2 ^ k) + 1) * 2 ^ k)))) k

cross : (n a q p : ℕ) → n ≡ a * (p * p) → 4 * n ≡ 4 * a * (p * p)
cross n a q p e = subst (λ (x : ℕ). 4 * x ≡ 4 * a * (p * p)) (sym e) (omega arith)

pub nearest_root_lem : (x a k r : ℕ) → x * 2 ^ 1074 ≡ a * (2 ^ k * 2 ^ k) → 2 ^ 52 * 2 ^ 52 ≤ a → a < 2 ^ 53 * 2 ^ 53 → Near a r → nearest_root x ≡ units binary64 false r k
unfolding nearest_root
nearest_root_lem x a k r N lo hi g =
    let n = x * 2 ^ 1074 in
    let w = whole_root (size n) n in
    let p = 2 ^ k in
    let P : 0 < p = pow_pos k in
    let h : IsRoot n w = whole_root_lem n in
    let low : 2 ^ (52 + k) ≤ w = subst (λ (y : ℕ). y ≤ w) (sym (pow-add 2 52 k)) (root_low a p n w P N h (2 ^ 52) lo) in
    let high : w < 2 ^ (53 + k) = subst (λ (y : ℕ). w < y) (sym (pow-add 2 53 k)) (root_high a p n w P N h (2 ^ 53) hi) in
    let z : size w ≡ suc (52 + k) = size_is w (52 + k) low (subst (λ (y : ℕ). w < 2 ^ y) (omega arith) high) in
    let d : size w - 53 ≡ k = omega arith in
    let q = w / p in
    let f : IsRoot a q = part a p n w P N h in
    let c : Cmp (compare (4 * n) ((2 * q + 1) * p * ((2 * q + 1) * p))) (4 * n) ((2 * q + 1) * p * ((2 * q + 1) * p)) = cmp (4 * n) ((2 * q + 1) * p * ((2 * q + 1) * p)) in
    let o = compare (4 * n) ((2 * q + 1) * p * ((2 * q + 1) * p)) in
    let s : Cmp o (4 * a) ((2 * q + 1) * (2 * q + 1)) = scaled_cmp o (4 * a) ((2 * q + 1) * (2 * q + 1)) (p * p) (mul-pos P P) (subst (λ (y : ℕ). Cmp o y ((2 * q + 1) * (2 * q + 1) * (p * p))) (cross n a q p N) (subst (λ (y : ℕ). Cmp o (4 * n) y) (omega arith) c)) in
    ap (λ (j : ℕ). at n w j) d
    ∙ ap (λ (j : ℕ). units binary64 false j k) (stepped a q r o f g s (above_0 a q f lo))
  where
    above_0 : (a q : ℕ) → IsRoot a q → 2 ^ 52 * 2 ^ 52 ≤ a → 0 < q
    above_0 a zero f l = absurd (omega (arith, f.1))
    above_0 a (suc q) f l = omega arith

-- ---- from a number's 53 digits to its root's

regroup : (x d0 d p q s a b : ℕ) → d0 * p ≡ x * a → d * (s * s) ≡ d0 * (p * q) → x * (a * (q * b)) ≡ d * b * (s * s)
regroup x d0 d p q s a b e f =
    sym (mul_assoc x a (q * b)) ∙ ap (λ (y : ℕ). y * (q * b)) (sym e) ∙ mul_assoc d0 p (q * b) ∙ ap (λ (y : ℕ). d0 * y) (sym (mul_assoc p q b)) ∙ sym (mul_assoc d0 (p * q) b)
    ∙ ap (λ (y : ℕ). y * b) (sym f) ∙ mul_right_comm d (s * s) b

pub at_half : (x d0 e d k : ℕ) → d0 * 2 ^ e ≡ x * 2 ^ 52 → d * 2 ^ (k + k) ≡ d0 * 2 ^ (e + 970) → x * 2 ^ 1074 ≡ d * 2 ^ 52 * (2 ^ k * 2 ^ k)
at_half x d0 e d k h g =
    regroup x d0 d (2 ^ e) (2 ^ 970) (2 ^ k) (2 ^ 52) (2 ^ 52) h (ap (λ (y : ℕ). d * y) (sym (pow-add 2 k k)) ∙ g ∙ ap (λ (y : ℕ). d0 * y) (pow-add 2 e 970))

-- a root of 53 digits
pub near_low : (d r : ℕ) → 2 ^ 52 ≤ d → Near (d * 2 ^ 52) r → 2 ^ 52 ≤ r
near_low d r h g = le_of_suc-le-suc (lt_of_not-le (λ (x : suc r ≤ 2 ^ 52). let m : r * r ≤ (2 ^ 52 - 1) * r = mul-le-mul_right r (omega arith) in omega (arith, g.1)))

pub near_high : (d r : ℕ) → d ≤ 2 ^ 54 - 2 → Near (d * 2 ^ 52) r → r < 2 ^ 53
near_high d r h g = lt_of_not-le (λ (x : 2 ^ 53 ≤ r). no x)
  where
    no : 2 ^ 53 ≤ r → ⊥
    no x = let m : 2 ^ 53 * r ≤ r * r = mul-le-mul_right r x in omega (arith, g.0, m, h, x)

-- d is d0 or twice d0, so that an even power of two goes with it
abbrev pub Half : ℕ → ℕ → ℕ → Type 0
Half d0 e d = (2 ^ 52 ≤ d) × (d ≤ 2 ^ 54 - 2) × (d * 2 ^ ((e + 970) / 2 + (e + 970) / 2) ≡ d0 * 2 ^ (e + 970))

pub half_even : (d0 e : ℕ) → 2 ^ 52 ≤ d0 → d0 < 2 ^ 53 → e % 2 ≡ 0 → Half d0 e d0
half_even d0 e l h z = (l, omega arith, ap (λ (y : ℕ). d0 * 2 ^ y) (omega arith))

pub half_odd : (d0 e : ℕ) → 2 ^ 52 ≤ d0 → d0 < 2 ^ 53 → (e % 2 ≡ 0 → ⊥) → Half d0 e (d0 * 2)
half_odd d0 e l h z =
    let k = (e + 970) / 2 in
    let f : suc (k + k) ≡ e + 970 = omega (arith, z) in
    (omega arith, omega arith, mul_assoc d0 2 (2 ^ (k + k)) ∙ ap (λ (y : ℕ). d0 * y) (sym (pow-succ' 2 (k + k))) ∙ ap (λ (y : ℕ). d0 * 2 ^ y) f)

-- the root's digits and bits
pub root_digits : (d0 e d r : ℕ) → Half d0 e d → Near (d * 2 ^ 52) r → (2 ^ 52 ≤ r) × (r < 2 ^ 53)
root_digits d0 e d r h g = (near_low d r h.0 g, near_high d r h.1 g)

pub root_is : (x d0 e d r : ℕ) → d0 * 2 ^ e ≡ x * 2 ^ 52 → Half d0 e d → Near (d * 2 ^ 52) r → nearest_root x ≡ units binary64 false r ((e + 970) / 2)
root_is x d0 e d r p h g =
    nearest_root_lem x (d * 2 ^ 52) ((e + 970) / 2) r (at_half x d0 e d ((e + 970) / 2) p h.2) (mul-le-mul_right (2 ^ 52) h.0) (omega (arith, h.1)) g
